-- A reader of URIs reads the location's own components in the text of each location of HTTP of the class.
use Rattle.std.proofs.Common.{◌≡◌, ◌∙◌, ⊎_elim, ℕ, ◌<◌, Bool, true, false, ◌||◌, ◌==◌, ◌⊎◌, inl, inr, List, [], ◌∷◌, ◌++◌, length, decimal, Option, Some, None, IsSome, IfSome, IsUtf8, option_map, refl, sym, ap, subst, arith, append_assoc}
use Rattle.std.specs.List.{list_all}
use Rattle.std.specs.Char.{to_ascii_lowercase, is_digit}
use Rattle.std.proofs.lemmas.Bool.{agree_below_at, and_from, and_parts, both_ways, false_from_ne_true, false≢true, or_left}
use Rattle.std.proofs.lemmas.Bool.Decides.{nat_tests}
use Rattle.std.proofs.lemmas.List.{map-append}
use Rattle.std.proofs.lemmas.List.Folds.{list_all-append}
use Rattle.std.proofs.lemmas.List.Sums.{list_all-from_AllPass}
use Rattle.percent_encoding.specs.declared.ascii_set.AsciiSet.{AsciiSet}
use Rattle.percent_encoding.specs.AsciiSet.{contains, should_percent_encode}
use Rattle.percent_encoding.specs.Percent.{percent_decode, percent_encode}
use Rattle.percent_encoding.proofs.AsciiSetLemmas.{ascii_from_kept, outside_from_kept}
use Rattle.percent_encoding.proofs.PercentLemmas.{All-percent_encode}
use Rattle.git_syntax.specs.declared.escape.TheConstants.{PASSWORD, USER}
use Rattle.git_syntax.specs.Location.{Location}
use Rattle.git_syntax.specs.Bytes.{number_sign, percent_sign, slash, colon, question_mark, at_sign, left_bracket, right_bracket, FreeOf, begins_by, begins_with, IsLowercase}
use Rattle.git_syntax.specs.Escapes.{is_sound, has_percent, is_password_escaped}
use Rattle.git_syntax.specs.Schemes.{scheme_text}
use Rattle.git_syntax.specs.Hosts.{port_part}
use Rattle.git_location.specs.Text.{user_information, canonical_path, canonical_text}
use Rattle.git_location.specs.Settled.{IsValue, IsBracketedAddress, IsWeb}
use Rattle.git_class.specs.WebClass.{is_plain_host_byte, is_uri_byte, is_segment_end, HasDotSegment, AgreesOverWeb}
use Rattle.git_laws.specs.Components.{CutsPath}
use Rattle.git_laws.specs.GitWeb.{UriAuthority, UriPort, UriHost, is_host_byte, IsEscaped, UriReading, UriReads, IsNormalUri, IsOwnInformation, with_query, IsOwnUri}
use Rattle.git_syntax.proofs.Texts.CutLemmas.{all_weaker, free-append, free-cons, free_begins, free_of_all, free_or_cut}
use Rattle.git_syntax.proofs.Texts.EscapeLemmas.{decode_byte, decode_kept, decodes_in_parts, encode_sound, sound-append, sound_around, sound_free}
use Rattle.git_syntax.proofs.Texts.DecodingLemmas.{nothing_decoded}
use Rattle.git_syntax.proofs.Texts.EscapeSets.{password_holds, user_holds}
use Rattle.git_syntax.proofs.Parsing.HostLemmas.{decimal_digits}
use Rattle.git_laws.proofs.Writing.PieceTextLemmas.{user_piece, password_piece, user_no_colon, user_decoded, password_decoded}
use Rattle.git_laws.proofs.Writing.WrittenPathLemmas.{starts_alike, web_path_writing}
use Rattle.git_laws.proofs.Writing.WrittenUrlLemmas.{authority_text, canonical_cut}
use Rattle.git_location.proofs.SettledClass.SettledLemmas.{settled_as_web}
use Rattle.git_class.proofs.Classes.WebClassLemmas.{plain_lowercase}
use Rattle.git_laws.proofs.GitReadings.WebTextLemmas.{web_authority, web_scheme}

-- ---- escaped texts

-- escaped texts joined are one
escaped-append : (test : ℕ → Bool) (x y : List ℕ) → IsEscaped test x → IsEscaped test y → IsEscaped test (x ++ y)
escaped-append test x y front back = (list_all-append test x y ∙ and_from _ _ front.0 back.0, sound-append x y front.1 back.1)

-- one that is cut around a byte that isn't a hexadecimal digit is two
escaped_around : (test : ℕ → Bool) (x y : List ℕ) (c : ℕ) → is_digit c 16 ≡ false → IsEscaped test (x ++ c ∷ y) → IsEscaped test x × IsEscaped test y
escaped_around test x y c other h = grind (arith, nat_tests, and_parts, list_all-append, sound_around)

-- ---- user information

-- a byte of user information
abbrev is_information_byte : ℕ → Bool
is_information_byte b = is_host_byte b || b == colon

-- each byte of ASCII is one, or is escaped in a password
information_byte : (b : ℕ) → b < 128 → (is_password_escaped b || is_information_byte b) ≡ true
information_byte b ascii = agree_below_at (λ c. is_password_escaped c || is_information_byte c) (λ c. true) 128 b refl ascii

-- so each byte is one that a set with the bytes escaped in a password leaves
information_kept : (set : AsciiSet) → ((b : ℕ) → b < 128 → is_password_escaped b ≡ true → contains set b ≡ true) → (b : ℕ) → should_percent_encode set b ≡ false → is_information_byte b ≡ true
information_kept set has b kept =
    let ascii = ascii_from_kept set b kept in
    let raw = false_from_ne_true _ (λ is. both_ways _ (outside_from_kept set b kept) (has b ascii is)) in
    sym (ap (λ p. p || is_information_byte b) raw) ∙ information_byte b ascii

-- and a text written by such a set is escaped text of such bytes
information_escaped : (set : AsciiSet) (t : List ℕ) → ((b : ℕ) → b < 128 → is_password_escaped b ≡ true → contains set b ≡ true) → IsEscaped is_information_byte (percent_encode set t)
information_escaped set t has =
    (list_all-from_AllPass is_information_byte (percent_encode set t) (All-percent_encode (λ b. is_information_byte b ≡ true) set t (information_kept set has) (λ b escape. grind (arith, nat_tests))), encode_sound set t (has percent_sign (omega arith) refl))

-- a written user
user_escaped : (user : List ℕ) → IsEscaped is_information_byte (percent_encode USER user)
user_escaped user = information_escaped USER user (λ b ascii is. user_holds b ascii ∙ or_left _ _ is)

-- a written password
password_escaped : (password : List ℕ) → IsEscaped is_information_byte (percent_encode PASSWORD password)
password_escaped password = information_escaped PASSWORD password (λ b ascii is. password_holds b ascii ∙ is)

-- the user information, without its `@`
abbrev information_text : Option (List ℕ) → Option (List ℕ) → Option (List ℕ)
information_text None password = None
information_text (Some user) None = Some (percent_encode USER user)
information_text (Some user) (Some password) = Some (percent_encode USER user ++ colon ∷ percent_encode PASSWORD password)

-- it is escaped text
information_bytes : (user password : Option (List ℕ)) → IfSome (information_text user password) (IsEscaped is_information_byte)
information_bytes None password = tt
information_bytes (Some u) None = user_escaped u
information_bytes (Some u) (Some p) =
    escaped-append is_information_byte (percent_encode USER u) (colon ∷ percent_encode PASSWORD p) (user_escaped u) (escaped-append is_information_byte (colon ∷ []) (percent_encode PASSWORD p) (refl, refl) (password_escaped p))

-- and decodes to the user and the password, which comes with a user
information_own : (user password : Option (List ℕ)) → IfSome user IsUtf8 → IfSome password IsUtf8 → IfSome password (λ p. (0 < length p) × IsSome user) → IsOwnInformation user password (information_text user password)
information_own None None text secret beside = IsOwnInformation.absent refl refl refl
information_own None (Some p) text secret beside = absurd (false≢true beside.1)
information_own (Some u) None text secret beside = IsOwnInformation.user_alone u (percent_encode USER u) refl refl refl (user_no_colon u) (user_decoded u text)
information_own (Some u) (Some p) text secret beside = IsOwnInformation.with_password u p (percent_encode USER u) (percent_encode PASSWORD p) refl refl refl (user_no_colon u) (user_decoded u text) (password_decoded p secret)

-- and comes before the `@` of an authority
information_cut : (user password : Option (List ℕ)) (named : List ℕ) → FreeOf at_sign named → UriAuthority (user_information user password ++ named) (information_text user password) named
information_cut None password named free = UriAuthority.host_alone free refl refl
information_cut (Some u) None named free = UriAuthority.informed (percent_encode USER u) (user_piece u).no_at free (append_assoc (percent_encode USER u) (at_sign ∷ []) named) refl
information_cut (Some u) (Some p) named free =
    let name = percent_encode USER u in
    let secret = colon ∷ percent_encode PASSWORD p in
    UriAuthority.informed (name ++ secret) (free-append at_sign name secret (user_piece u).no_at (free-cons at_sign colon (percent_encode PASSWORD p) refl (password_piece p).no_at)) free (ap (λ t. t ++ named) (sym (append_assoc name secret (at_sign ∷ []))) ∙ append_assoc (name ++ secret) (at_sign ∷ []) named) refl

-- ---- the host and the port

-- the host is one of a URI, in lower case
record IsUriHost (host : List ℕ) : Type 0 where
  bytes : (begins_with left_bracket host ≡ true) ⊎ IsEscaped is_host_byte host
  lower : IsLowercase host
  read : (suffix : List ℕ) → UriHost (host ++ suffix) host suffix

-- it is if it has the bytes of a plain host
plain_host : (host : List ℕ) → list_all is_plain_host_byte host ≡ true → IsUriHost host
plain_host host h = record {
  bytes = inr (all_weaker is_plain_host_byte is_host_byte (λ b is. grind (arith, nat_tests)) host h, sound_free host (free_of_all is_plain_host_byte percent_sign host h refl));
  lower = plain_lowercase host h;
  read = λ suffix. UriHost.unbracketed (free_of_all is_plain_host_byte colon host h refl) (free_begins left_bracket host (free_of_all is_plain_host_byte left_bracket host h refl)) refl;
}

-- and if it is an address in brackets
bracketed_host : (host : List ℕ) → IsBracketedAddress host → IsUriHost host
bracketed_host host (address, normal, e) = record {
  bytes = inl (ap (begins_with left_bracket) e);
  lower = subst (λ h. IsLowercase h) (sym e) (ap (λ t. left_bracket ∷ t) (map-append to_ascii_lowercase address (right_bracket ∷ []) ∙ ap (λ t. t ++ right_bracket ∷ []) normal.lower));
  read = λ suffix. UriHost.bracketed address normal.address e refl;
}

-- the port is read after its colon
port_read : (port : Option ℕ) → IfSome port (λ p. p < 65536) → UriPort (port_part port) (option_map decimal port)
port_read None small = UriPort.absent refl refl
port_read (Some p) small = UriPort.there (decimal p) refl (decimal_digits p small).1 refl

-- ---- the path

-- the path as it is written, cut at its first `?`
record IsUriPath (t : List ℕ) : Type 0 where
  path : List ℕ
  query : Option (List ℕ)
  cut : CutsPath t path query None
  joined : with_query path query ≡ t
  path_bytes : IsEscaped is_uri_byte path
  query_bytes : IfSome query (IsEscaped is_uri_byte)

-- each escaped text is so cut
uri_path : (t : List ℕ) → IsEscaped is_uri_byte t → IsUriPath t
uri_path t h =
    let whole : FreeOf number_sign t = free_of_all is_uri_byte number_sign t h.0 refl in
    elim (free_or_cut question_mark t) [
      | inl free ↦ record { path = t; query = None; cut = (t, (whole, refl), (free, refl)); joined = refl; path_bytes = h; query_bytes = tt }
      | inr (x, y, free, e) ↦
          let parts = escaped_around is_uri_byte x y question_mark refl (subst (IsEscaped is_uri_byte) e h) in
          record { path = x; query = Some y; cut = (t, (whole, refl), (free, e)); joined = sym e; path_bytes = parts.0; query_bytes = parts.1 }
    ]

-- path and query are decoded apart
query_decoded : (path : List ℕ) (query : Option (List ℕ)) → is_sound path ≡ true → percent_decode (with_query path query) ≡ with_query (percent_decode path) (option_map percent_decode query)
query_decoded path query sound = grind (arith, nat_tests, decode_byte, decodes_in_parts)

-- a text that ends a segment of a path ends it before a query, too
end_joined : (suffix query : List ℕ) → (suffix ≡ []) ⊎ (begins_by is_segment_end suffix ≡ true) → begins_by is_segment_end (suffix ++ question_mark ∷ query) ≡ true
end_joined suffix query end = grind arith

-- so a segment `.` or `..` of a path is one of the path with its query
dots_joined : (path : List ℕ) (query : Option (List ℕ)) → HasDotSegment path → HasDotSegment (with_query path query)
dots_joined path query h = grind (arith, nat_tests, end_joined, append_assoc)

-- a text that ends a segment ends it in the decoded text
end_decoded : (suffix : List ℕ) → (suffix ≡ []) ⊎ (begins_by is_segment_end suffix ≡ true) → (percent_decode suffix ≡ []) ⊎ (begins_by is_segment_end (percent_decode suffix) ≡ true)
end_decoded suffix h = grind (arith, nat_tests, decode_byte, nothing_decoded)

-- so such a segment of an escaped text is one of its decoding
dots_decoded : (t : List ℕ) → is_sound t ≡ true → HasDotSegment t → HasDotSegment (percent_decode t)
dots_decoded t sound h =
    let front = (sound_around h.front (h.dots ++ h.suffix) slash refl (subst (λ x. is_sound x ≡ true) h.joined sound)).0 in
    let free : FreeOf percent_sign h.dots = ⊎_elim (λ e. ap has_percent e) (λ e. ap has_percent e) h.segment in
    let dots = decodes_in_parts h.dots h.suffix (sound_free h.dots free) ∙ ap (λ t. t ++ percent_decode h.suffix) (decode_kept h.dots free) in
    record {
      front = percent_decode h.front;
      dots = h.dots;
      suffix = percent_decode h.suffix;
      joined = ap percent_decode h.joined ∙ decodes_in_parts h.front (slash ∷ (h.dots ++ h.suffix)) front ∙ ap (λ t. percent_decode h.front ++ t) (decode_byte slash (h.dots ++ h.suffix) refl ∙ ap (λ t. slash ∷ t) dots);
      segment = h.segment;
      end = end_decoded h.suffix h.end;
    }

-- ---- the text

-- a reader of URIs reads the location's own components in the text of a
-- location of the class, which is in the normal form
pub uri_own : (v : Location) → IsWeb v → IsValue v → AgreesOverWeb v → (host : List ℕ) → v.host ≡ Some host → (r : UriReading) × UriReads (canonical_text v) r × IsOwnUri v r × IsNormalUri r
uri_own v web is a host there =
    let w = settled_as_web v web a.settled in
    let scheme = web_scheme v web in
    let authority = web_authority v host web is a there in
    let named = ⊎_elim (plain_host host) (bracketed_host host) authority.form in
    let written = web_path_writing v web w.path w.common.path in
    let p = uri_path (canonical_path v) (a.path.bytes, written.escaped.sound) in
    let decoded = ap percent_decode p.joined ∙ written.decoded in
    let whole = sym (query_decoded p.path p.query p.path_bytes.1) ∙ decoded in
    let no_dots : ¬ HasDotSegment (percent_decode p.path) = λ dots. a.path.no_dots (subst HasDotSegment whole (dots_joined (percent_decode p.path) (option_map percent_decode p.query) dots)) in (
      record {
        scheme = scheme_text v.scheme;
        information = information_text v.user v.password;
        host = host;
        port = option_map decimal v.port;
        path = p.path;
        query = p.query;
        fragment = None;
      },
      record {
        authority = authority_text v;
        suffix = canonical_path v;
        named = host ++ port_part v.port;
        after_host = port_part v.port;
        joined = canonical_cut v;
        before_path = authority.before_path;
        path_start = starts_alike true (canonical_path v) v.path written.front (inr w.path);
        cut = subst (λ t. UriAuthority t (information_text v.user v.password) (host ++ port_part v.port)) (sym authority.written) (information_cut v.user v.password (host ++ port_part v.port) authority.no_at);
        host = named.read (port_part v.port);
        port = port_read v.port is.port;
        path = p.cut;
        bytes = record {
          scheme = scheme.text;
          information = information_bytes v.user v.password;
          host = named.bytes;
          path = p.path_bytes;
          query = p.query_bytes;
          fragment = tt;
        };
      },
      record {
        scheme = refl;
        information = information_own v.user v.password is.user is.password w.common.credentials.0;
        host = there;
        port = refl;
        path = decoded;
        fragment = refl;
      },
      record {
        scheme = scheme.lower;
        host = named.lower;
        path = λ dots. no_dots (dots_decoded p.path p.path_bytes.1 dots);
        escaped = no_dots;
      },
    )
