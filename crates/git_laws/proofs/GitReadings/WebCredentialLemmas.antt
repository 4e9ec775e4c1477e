-- Git's credential code reads in the text of a location of HTTP of the class the location's own parts.
use Rattle.std.proofs.Common.{◌≡◌, ◌∙◌, ℕ, ◌<◌, Bool, true, false, not, ◌||◌, ◌==◌, inl, inr, List, [], ◌∷◌, ◌++◌, length, decimal, Option, Some, None, IfSome, IsUtf8, codes, refl, sym, ap, subst, arith, append_assoc}
use Rattle.std.specs.Prelude.{IsSome}
use Rattle.std.specs.Char.{is_ascii_digit}
use Rattle.std.proofs.lemmas.Bool.{cases_Bool, cond-true, cond-false, and_left, and_from, false≢true, both_ways, or_left}
use Rattle.std.proofs.lemmas.Bool.Decides.{nat_tests}
use Rattle.std.proofs.lemmas.Option.{IfSome_then, same_Some}
use Rattle.percent_encoding.specs.Percent.{percent_decode, percent_encode, is_escape}
use Rattle.git_syntax.specs.declared.escape.TheConstants.{PASSWORD, USER}
use Rattle.git_syntax.specs.Location.{Location}
use Rattle.git_syntax.specs.Bytes.{newline, percent_sign, slash, colon, at_sign, right_bracket, Lacks, FreeOf, begins_with}
use Rattle.git_syntax.specs.Schemes.{scheme_text}
use Rattle.git_syntax.specs.Hosts.{port_part}
use Rattle.git_location.specs.Text.{user_information, canonical_path, canonical_text}
use Rattle.git_location.specs.Settled.{begins_with_slashes, first_byte, IsValue, IsWeb}
use Rattle.git_class.specs.WebClass.{is_control, is_uri_byte, IsDecodedWhole, is_plain_host_byte, IsUnambiguousUser, IsUnambiguousPassword, AgreesOverWeb}
use Rattle.git_reads.specs.Git.{escaped_byte, git_decode}
use Rattle.git_reads.specs.Credentials.{CredentialDecodes, CredentialCut, CredentialPath, CredentialReads, AreOneLine, IsOneLine, are_slashes, without_last_slashes, trimmed_path}
use Rattle.git_laws.specs.GitWeb.{below_root, own_credential}
use Rattle.git_syntax.proofs.Texts.CutLemmas.{begins_cut, free-append, free_head_tail, free_of_all, free_of_lacked, free_or_cut, free_parts, held_free, lacks-append, lacks-cons, lacks_head_tail, lacks_of_all, lacks_weaker, scheme_text_free}
use Rattle.git_syntax.proofs.Texts.EscapeLemmas.{decode_byte, decode_kept, encode_free}
use Rattle.git_syntax.proofs.Texts.EscapeSets.{password_holds, user_holds}
use Rattle.git_syntax.proofs.Addresses.AddressLemmas.{is_address_byte, address_bytes}
use Rattle.git_syntax.proofs.Parsing.HostLemmas.{decimal_digits}
use Rattle.git_laws.proofs.Writing.PieceTextLemmas.{password_decoded, password_piece, user_decoded, user_no_colon, user_piece}
use Rattle.git_laws.proofs.Writing.WrittenPathLemmas.{starts_alike, web_path_writing}
use Rattle.git_laws.proofs.Writing.WrittenUrlLemmas.{authority_text, canonical_cut}
use Rattle.git_location.proofs.SettledClass.SettledLemmas.{settled_as_web}
use Rattle.git_class.proofs.Classes.WebClassLemmas.{IsWebForm}
use Rattle.git_laws.proofs.GitReadings.GitCutLemmas.{git_decode_kept}
use Rattle.git_laws.proofs.GitReadings.WebTextLemmas.{web_authority, web_scheme}

-- ---- decoding

-- if no byte 0 comes of it Git decodes as anyone
git_decode_whole : (t : List ℕ) → FreeOf 0 (percent_decode t) → git_decode t ≡ percent_decode t
unfolding percent_decode
git_decode_whole [] free = refl
git_decode_whole (b ∷ []) free = refl
git_decode_whole (b ∷ c ∷ []) free = refl
git_decode_whole (b ∷ high ∷ low ∷ rest) free =
    elim (cases_Bool (is_escape b high low)) [
      | inl escape ↦
          let e : percent_decode (b ∷ high ∷ low ∷ rest) ≡ escaped_byte high low ∷ percent_decode rest = cond-true _ _ _ escape in
          let parts = free_head_tail 0 (escaped_byte high low) (percent_decode rest) (subst (λ t. FreeOf 0 t) e free) in
          cond-true _ _ _ (and_from _ _ escape (ap not parts.0)) ∙ ap (λ t. escaped_byte high low ∷ t) (git_decode_whole rest parts.1) ∙ sym e
      | inr other ↦
          let e : percent_decode (b ∷ high ∷ low ∷ rest) ≡ b ∷ percent_decode (high ∷ low ∷ rest) = cond-false _ _ _ other in
          let parts = free_head_tail 0 b (percent_decode (high ∷ low ∷ rest)) (subst (λ t. FreeOf 0 t) e free) in
          cond-false _ _ _ (and_left _ _ other) ∙ ap (λ t. b ∷ t) (git_decode_whole (high ∷ low ∷ rest) parts.1) ∙ sym e
    ]

-- a piece without `%` stays, whatever precedes its first colon
decodes_kept : (piece : List ℕ) → FreeOf percent_sign piece → CredentialDecodes piece piece
decodes_kept piece plain =
    elim (free_or_cut colon piece) [
      | inl free ↦ CredentialDecodes.whole free (sym (git_decode_kept piece plain))
      | inr (x, y, first, cut) ↦
          let rest = (free_parts percent_sign x (colon ∷ y) (subst (λ t. FreeOf percent_sign t) cut plain)).1 in
          CredentialDecodes.suffix x y first cut (cut ∙ ap (λ t. x ++ colon ∷ t) (sym (git_decode_kept y rest)))
    ]

-- a piece without a colon is decoded
decodes_free : (piece decoded : List ℕ) → FreeOf colon piece → percent_decode piece ≡ decoded → FreeOf 0 decoded → CredentialDecodes piece decoded
decodes_free piece decoded free e zero =
    CredentialDecodes.whole free (sym e ∙ sym (git_decode_whole piece (subst (λ t. FreeOf 0 t) (sym e) zero)))

-- so a piece that has none of the one or none of the other is decoded whole
decodes_whole : (piece decoded : List ℕ) → IsDecodedWhole piece → percent_decode piece ≡ decoded → FreeOf 0 decoded → CredentialDecodes piece decoded
decodes_whole piece decoded (inl free) e zero = decodes_free piece decoded free e zero
decodes_whole piece decoded (inr plain) e zero = subst (λ t. CredentialDecodes piece t) (sym (decode_kept piece plain) ∙ e) (decodes_kept piece plain)

-- ---- controls

-- a text without a control has no byte 0
no_zero : (t : List ℕ) → Lacks is_control t → FreeOf 0 t
no_zero t h = free_of_lacked is_control 0 t h refl

-- and is of one line
one_line : (t : List ℕ) → Lacks is_control t → IsOneLine t
one_line t h = lacks_weaker (λ b. b == newline || b == 13) is_control (λ b is. grind (arith, nat_tests)) t h

-- ---- user and password

-- the user information is cut at its `@` and at its colon, and decoded
information_cut : (user password : Option (List ℕ)) (named : List ℕ) → IfSome user IsUtf8 → IfSome password IsUtf8 → IfSome user IsUnambiguousUser → IfSome password IsUnambiguousPassword → IfSome password (λ p. (0 < length p) × IsSome user) → FreeOf at_sign named → CredentialCut (user_information user password ++ named) user password named
information_cut None None named first second user password beside free = CredentialCut.host_alone free refl refl refl
information_cut None (Some w) named first second user password beside free = absurd (false≢true beside.1)
information_cut (Some u) None named first second user password beside free =
    let name = percent_encode USER u in
    CredentialCut.user_alone name u (user_piece u).no_at (user_no_colon u) (append_assoc name (at_sign ∷ []) named) (decodes_free name u (user_no_colon u) (user_decoded u first) (no_zero u user.0)) refl refl
information_cut (Some u) (Some w) named first second user password beside free =
    let name = percent_encode USER u in
    let secret = percent_encode PASSWORD w in
    CredentialCut.with_password name secret u w (user_piece u).no_at (password_piece w).no_at (user_no_colon u) (append_assoc name (colon ∷ (secret ++ at_sign ∷ [])) named ∙ ap (λ t. name ++ colon ∷ t) (append_assoc secret (at_sign ∷ []) named)) (decodes_free name u (user_no_colon u) (user_decoded u first) (no_zero u user.0)) (decodes_whole secret w password.1 (password_decoded w second) (no_zero w password.0)) refl refl

-- it is written without byte 0
information_free : (user password : Option (List ℕ)) → FreeOf 0 (user_information user password)
information_free user password = grind (arith, nat_tests, free-append, encode_free, user_holds, password_holds)

-- ---- hosts and ports

-- a control, or the `%` of an escape
abbrev is_odd : ℕ → Bool
is_odd b = is_control b || b == percent_sign

-- of a host of the class neither is a byte
host_odd : (host : List ℕ) → IsWebForm host → Lacks is_odd host
host_odd host (inl bytes) = lacks_of_all is_plain_host_byte is_odd (λ b is. grind (arith, nat_tests)) host bytes
host_odd host (inr (a, normal, e)) =
    subst (λ t. Lacks is_odd t) (sym e) (lacks-append is_odd a (right_bracket ∷ []) (lacks_of_all is_address_byte is_odd (λ b is. grind (arith, nat_tests)) a (address_bytes a normal.address)) refl)

-- nor of a port
port_odd : (port : Option ℕ) → IfSome port (λ p. p < 65536) → Lacks is_odd (port_part port)
port_odd None small = refl
port_odd (Some p) small = lacks_of_all is_ascii_digit is_odd (λ b is. grind (arith, nat_tests)) (decimal p) (decimal_digits p small).1

-- nor of both
named_odd : (host : List ℕ) (port : Option ℕ) → IsWebForm host → IfSome port (λ p. p < 65536) → Lacks is_odd (host ++ port_part port)
named_odd host port kind small = lacks-append is_odd host (port_part port) (host_odd host kind) (port_odd port small)

-- ---- paths

-- a text lacks each byte that it lacks without the slashes at its end
trimmed_lacks : (test : ℕ → Bool) (t : List ℕ) → Lacks test t → Lacks test (without_last_slashes t)
trimmed_lacks test [] h = refl
trimmed_lacks test (b ∷ t) h =
    let parts = lacks_head_tail test b t h in
    elim (cases_Bool (are_slashes (b ∷ t))) [
      | inl all ↦ subst (λ x. Lacks test x) (sym (cond-true _ _ _ all)) refl
      | inr some ↦ subst (λ x. Lacks test x) (sym (cond-false _ _ _ some)) (lacks-cons test b (without_last_slashes t) parts.0 (trimmed_lacks test t parts.1))
    ]

-- so a path is of one line, if it has no control
trimmed_line : (t : List ℕ) → Lacks is_control t → IfSome (trimmed_path t) IsOneLine
trimmed_line t h1 = grind (arith, nat_tests, lacks_head_tail, one_line, lacks-cons, trimmed_lacks)

-- the text after the one `/` of a written path
record IsRootedPath (path written : List ℕ) : Type 0 where
  rest : List ℕ
  joined : written ≡ slash ∷ rest
  decoded : path ≡ slash ∷ percent_decode rest
  begins : begins_with slash rest ≡ false

-- a second `/` would be decoded to one
one_root : (rest : List ℕ) → begins_with_slashes (slash ∷ percent_decode rest) ≡ false → begins_with slash rest ≡ false
one_root rest h1 = grind (arith, nat_tests, cases_Bool, decode_byte, both_ways)

-- so it is with a written path that begins as its path does and is decoded to it
rooted_path : (path written : List ℕ) → first_byte written ≡ first_byte path → percent_decode written ≡ path → begins_with slash path ≡ true → begins_with_slashes path ≡ false → IsRootedPath path written
rooted_path path written h2 h3 h4 h5 = grind (arith, nat_tests, begins_cut, false≢true, same_Some, decode_byte, one_root)

-- after a byte a piece is decoded whole if it is with it
whole_after : (b : ℕ) (t : List ℕ) → IsDecodedWhole (b ∷ t) → IsDecodedWhole t
whole_after b t (inl free) = inl (free_head_tail colon b t free).1
whole_after b t (inr plain) = inr (free_head_tail percent_sign b t plain).1

-- the path is read after its `/`
path_read : (path written : List ℕ) → IsRootedPath path written → IsDecodedWhole written → FreeOf 0 path → CredentialPath written (below_root path)
path_read path written p whole zero =
    let suffix = (free_head_tail 0 slash (percent_decode p.rest) (subst (λ t. FreeOf 0 t) p.decoded zero)).1 in record {
      slashes = slash ∷ [];
      rest = p.rest;
      decoded = percent_decode p.rest;
      joined = p.joined;
      front = refl;
      begins = p.begins;
      decodes = decodes_whole p.rest (percent_decode p.rest) (whole_after slash p.rest (subst IsDecodedWhole p.joined whole)) refl suffix;
      value = ap below_root p.decoded;
    }

-- it is of one line
path_lines : (path : List ℕ) → Lacks is_control path → IfSome (below_root path) IsOneLine
path_lines [] h = tt
path_lines (b ∷ path) h = trimmed_line path (lacks_head_tail is_control b path h).1

-- ---- the text

-- no byte 0 is written
text_zero : (v : Location) (named : List ℕ) → FreeOf 0 (scheme_text v.scheme) → authority_text v ≡ user_information v.user v.password ++ named → FreeOf 0 named → FreeOf 0 (canonical_path v) → FreeOf 0 (canonical_text v)
text_zero v named h2 h3 h4 h5 = grind (arith, nat_tests, free-append, information_free, canonical_cut, codes, authority_text)

-- the location's own parts are of one line
own_lines : (v : Location) (host : List ℕ) → IsOneLine (scheme_text v.scheme) → AgreesOverWeb v → Lacks is_odd (host ++ port_part v.port) → AreOneLine (own_credential v host)
own_lines v host scheme a odd = record {
  protocol = scheme;
  user = IfSome_then v.user a.user (λ u parts. one_line u parts.0);
  password = IfSome_then v.password a.password (λ p parts. one_line p parts.0);
  host = one_line (host ++ port_part v.port) (lacks_weaker is_control is_odd (λ b is. or_left _ _ is) (host ++ port_part v.port) odd);
  path = path_lines v.path a.path.no_control;
}

-- Git's credential code reads them in the text
pub credential_own : (v : Location) → IsWeb v → IsValue v → AgreesOverWeb v → (host : List ℕ) → v.host ≡ Some host → CredentialReads (canonical_text v) (own_credential v host)
credential_own v web is a host there =
    let h = settled_as_web v web a.settled in
    let named = host ++ port_part v.port in
    let scheme = web_scheme v web in
    let authority = web_authority v host web is a there in
    let odd = named_odd host v.port authority.form is.port in
    let writing = web_path_writing v web h.path h.common.path in
    let path = rooted_path v.path (canonical_path v) writing.front writing.decoded a.path.rooted a.path.one_slash in record {
      found = record {
        authority = authority_text v;
        suffix = canonical_path v;
        cut = record {
          whole = text_zero v named (scheme_text_free (scheme_text v.scheme) 0 scheme.text refl) authority.written (free_of_lacked is_odd 0 named odd refl) (free_of_all is_uri_byte 0 (canonical_path v) a.path.bytes refl);
          some = scheme.nonempty;
          no_mark = held_free (scheme_text v.scheme) (scheme_text_free (scheme_text v.scheme) colon scheme.text refl);
          joined = canonical_cut v;
          before_path = authority.before_path;
          path_start = starts_alike true (canonical_path v) v.path writing.front (inr h.path);
        };
        pieces = record {
          named = named;
          cut = subst (λ t. CredentialCut t v.user v.password named) (sym authority.written) (information_cut v.user v.password named is.user is.password a.user a.password h.common.credentials.0 authority.no_at);
          host = decodes_kept named (free_of_lacked is_odd percent_sign named odd refl);
          path = path_read v.path (canonical_path v) path a.path.whole (no_zero v.path a.path.no_control);
        };
      };
      lines = own_lines v host scheme.line a odd;
    }
