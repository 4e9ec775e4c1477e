-- A settled location in the scp form comes back.
use Rattle.std.proofs.Common.{◌≡◌, ℕ, Bool, true, false, not, ◌==◌, ◌⊎◌, inl, inr, ◌<◌, List, [], ◌∷◌, ◌++◌, Option, Some, None, Ok, IfSome, refl, sym, ap, subst, ◌∙◌, arith, append_assoc, codes, eq-eqb, IsUtf8, All}
use Rattle.std.proofs.lemmas.Bool.{both_ways, false≢true, cond-true, cond-false, and_parts, and_from, or_right}
use Rattle.std.proofs.lemmas.Bool.Decides.{nat_tests}
use Rattle.std.proofs.lemmas.List.Elements.{All-cons, All-nil}
use Rattle.std.proofs.lemmas.List.Folds.{list_any_none}
use Rattle.std.proofs.lemmas.Str.Ascii.{IsAscii-from_all}
use Rattle.std.specs.List.{list_all}
use Rattle.std.specs.Char.{is_whitespace}
use Rattle.git_syntax.specs.Location.{Location, fields, path_alone}
use Rattle.git_syntax.specs.Location.Scheme.{ssh}
use Rattle.git_syntax.specs.Bytes.{percent_sign, slash, colon, at_sign, left_bracket, backslash, right_bracket, FreeOf, begins_with, Holds, LacksWhiteSpace, is_helper_name}
use Rattle.git_syntax.specs.Escapes.{escaped_percents}
use Rattle.git_syntax.specs.Addresses.{IsIpv6Text}
use Rattle.git_syntax.specs.Hosts.{SpellsHostPort, normal_host, raw_user}
use Rattle.git_syntax.specs.Hosts.HostSyntax.{git_hosts}
use Rattle.git_syntax.specs.Grammar.{HasHelperForm, IsNeither, ScpFront, ScpForm, AddressedForm, ScpUser, ScpHost, IsBracketed, Unbrackets, SpellsScp, SpellsScpBefore, Spells, scp_location}
use Rattle.git_location.specs.Text.{text, is_relative, raw_host, has_colon, wants_brackets}
use Rattle.git_location.specs.Settled.{IsValue, IsScpName, IsScpUser, IsNormalAddress, IsSettledScp, IsSettled, LooksLikeHelper, begins_with_slashes, IsScpPath}
use Rattle.git_syntax.specs.Grammar.{begins_at_home}
use Rattle.git_laws.specs.Laws.{ComesBack}
use Rattle.git_syntax.proofs.Texts.CutLemmas.{heads, tails, different_bytes, not_free, free-append, free_begins, free-cons, free_head_tail, helper_name_free}
use Rattle.git_syntax.proofs.Addresses.AddressLemmas.{is_address_byte, address_byte_ascii, address_bytes, address_free, address_utf8}
use Rattle.git_syntax.proofs.Texts.EscapeLemmas.{decode_escaped_percents, lacks_escaped_percents, escaped_percents_kept, utf8_byte, utf8_joined, white_space-append, white_space_ascii, white_space_byte}
use Rattle.git_syntax.proofs.Parsing.FormLemmas.{address_cut, addressed_joined, addressed_front_free, begins_before_at}
use Rattle.git_syntax.proofs.Parsing.ClassifierLemmas.{helper_front}
use Rattle.git_syntax.proofs.Parsing.ScpLemmas.{escaped_some}
use Rattle.git_syntax.proofs.Unique.UniqueLemmas.{bracketed_address_named}
use Rattle.git_syntax.proofs.ByMasks.SimpleTextLemmas.{home_kept}
use Rattle.git_syntax.specs.Internal.HostPieces.{in_brackets}
use Rattle.std.proofs.lemmas.Str.{IsUtf8-append}
use Rattle.git_laws.proofs.Writing.KeptLemmas.{value_of}

-- ---- values

-- the value of a location in the scp form, perhaps with a spelling
abbrev pub scp_value : Option (List ℕ) → List ℕ → List ℕ → Option (List ℕ) → Location
scp_value user host path spelling = record (path_alone ssh true path) { user = user; host = Some host; spelling = spelling }

-- a settled location in the scp form is such a value
pub scp_value_of : (v : Location) (h : List ℕ) → v.scheme ≡ ssh → IsSettledScp v → v.host ≡ Some h → v ≡ scp_value v.user h v.path v.spelling
scp_value_of v h scheme s host =
    value_of v ssh true scheme s.flagged s.no_password s.no_port ∙ ap (λ o. record (path_alone ssh true v.path) { user = v.user; host = o; spelling = v.spelling }) host

-- the location that is read is the value without a spelling
scp_value_read : (user : Option (List ℕ)) (host path : List ℕ) → begins_at_home path ≡ false → scp_value user host path None ≡ scp_location user host path
scp_value_read user host path h = ap (λ p. scp_value user host p None) (sym (home_kept path h))

-- ---- texts

-- the text, by whether the path is relative
scp_written_by : (relative : Bool) (user : Option (List ℕ)) (host path : List ℕ) (spelling : Option (List ℕ)) → is_relative path ≡ relative → text (scp_value user host path spelling) ≡ Ok (raw_user user ++ (raw_host (Some host) ++ colon ∷ path))
scp_written_by relative user host path spelling h5 = grind (arith, nat_tests)

-- user, host and path are written raw, with a colon before the path
pub scp_written : (user : Option (List ℕ)) (host path : List ℕ) (spelling : Option (List ℕ)) → text (scp_value user host path spelling) ≡ Ok (raw_user user ++ (raw_host (Some host) ++ colon ∷ path))
scp_written user host path spelling = scp_written_by (is_relative path) user host path spelling refl

-- such a text is UTF-8 if its pieces are
scp_text_utf8 : (user : Option (List ℕ)) (host path : List ℕ) → IfSome user IsUtf8 → IsUtf8 host → IsUtf8 path → IsUtf8 (raw_user user ++ (host ++ colon ∷ path))
scp_text_utf8 None host path u h p = utf8_joined host path colon h (omega arith) p
scp_text_utf8 (Some user) host path u h p =
    IsUtf8-append (user ++ at_sign ∷ []) (host ++ colon ∷ path) (IsUtf8-append user (at_sign ∷ []) u (utf8_byte at_sign (omega arith))) (utf8_joined host path colon h (omega arith) p)

-- ---- neither a URL nor a remote helper

-- no `://` begins in a front without `/`, or at the colon after it
no_mark_at : (front path x rest : List ℕ) → FreeOf slash front → begins_with_slashes path ≡ false → ¬ Holds (codes "://") path → front ++ colon ∷ path ≡ x ++ (codes "://" ++ rest) → ⊥
no_mark_at [] path [] rest free other none e = both_ways (begins_with_slashes path) other (ap begins_with_slashes (tails e))
no_mark_at [] path (c ∷ x) rest free other none e = none (x, rest, tails e)
no_mark_at (b ∷ []) path [] rest free other none e = different_bytes 58 47 refl (tails e)
no_mark_at (b ∷ c ∷ front) path [] rest free other none e =
    let suffix = (free_head_tail slash b (c ∷ front) free).1 in
    both_ways (c == slash) (free_head_tail slash c front suffix).0 (eq-eqb c slash (heads (tails e)))
no_mark_at (b ∷ front) path (c ∷ x) rest free other none e = no_mark_at front path x rest (free_head_tail slash b front free).1 other none (tails e)

-- so a front without `/`, a colon and a settled path hold none
no_mark_joined : (front path : List ℕ) → FreeOf slash front → IsScpPath path → ¬ Holds (codes "://") (front ++ colon ∷ path)
no_mark_joined front path free p (x, rest, e) = no_mark_at front path x rest free p.not_slashes p.no_mark e

-- a text with an `@` in its front isn't that of a remote helper
no_helper_at : (user suffix path : List ℕ) → FreeOf colon (user ++ at_sign ∷ suffix) → ¬ HasHelperForm ((user ++ at_sign ∷ suffix) ++ colon ∷ path)
no_helper_at user suffix path free (name, address, h) =
    let same = (helper_front _ (user ++ at_sign ∷ suffix) path name address h free refl).0 in
    not_free at_sign user suffix (subst (λ t. FreeOf at_sign t) same (helper_name_free name at_sign h.named refl))

-- ---- a name

-- the front of a text with a name: the name, or the user, `@` and the name
abbrev name_front : Option (List ℕ) → List ℕ → List ℕ
name_front None h = h
name_front (Some user) h = user ++ at_sign ∷ h

-- a name needs no brackets
name_raw : (h : List ℕ) → IsScpName h → raw_host (Some h) ≡ h
name_raw h n = let plain : wants_brackets h ≡ false = rw n.normal.unbracketed.no_colon refl in cond-false _ _ _ plain

-- the text is the front, a colon and the path
name_joined : (user : Option (List ℕ)) (h path : List ℕ) → raw_user user ++ (h ++ colon ∷ path) ≡ name_front user h ++ colon ∷ path
name_joined None h path = refl
name_joined (Some user) h path = append_assoc user (at_sign ∷ []) (h ++ colon ∷ path) ∙ sym (append_assoc user (at_sign ∷ h) (colon ∷ path))

-- the front is free of `:`
name_front_no_colon : (user : Option (List ℕ)) (h : List ℕ) → IfSome user IsScpUser → IsScpName h → FreeOf colon (name_front user h)
name_front_no_colon None h u n = n.normal.unbracketed.no_colon
name_front_no_colon (Some user) h u n = free-append colon user (at_sign ∷ h) u.no_colon (free-cons colon at_sign h refl n.normal.unbracketed.no_colon)

-- and of `/`
name_front_no_slash : (user : Option (List ℕ)) (h : List ℕ) → IfSome user IsScpUser → IsScpName h → FreeOf slash (name_front user h)
name_front_no_slash None h u n = n.no_slash
name_front_no_slash (Some user) h u n = free-append slash user (at_sign ∷ h) u.no_slash (free-cons slash at_sign h refl n.no_slash)

-- the front begins with no bracket either
name_front_no_bracket : (user : Option (List ℕ)) (h : List ℕ) → IfSome user IsScpUser → IsScpName h → begins_with left_bracket (name_front user h) ≡ false
name_front_no_bracket None h u n = free_begins left_bracket h n.normal.unbracketed.no_left_bracket
name_front_no_bracket (Some user) h u n = begins_before_at user h u.no_bracket

-- the text isn't that of a remote helper: its front is the name
-- alone, or holds an `@`, which no helper's name does
name_no_helper : (user : Option (List ℕ)) (h path : List ℕ) → FreeOf colon (name_front user h) → ¬ LooksLikeHelper (scp_value user h path None) h → ¬ HasHelperForm (name_front user h ++ colon ∷ path)
name_no_helper None h path free other (name, address, k) =
    let same = helper_front _ h path name address k free refl in
    other (refl, ap is_helper_name (sym same.0) ∙ k.named, ap (begins_with colon) (sym same.1))
name_no_helper (Some user) h path free other k = no_helper_at user h path free k

-- the text has neither the form of a remote helper nor that of a URL
name_neither : (user : Option (List ℕ)) (h path : List ℕ) → IfSome user IsScpUser → IsScpName h → IsScpPath path → ¬ LooksLikeHelper (scp_value user h path None) h → IsNeither (name_front user h ++ colon ∷ path)
name_neither user h path u n p other = record {
  no_helper = name_no_helper user h path (name_front_no_colon user h u n) other;
  no_mark = no_mark_joined (name_front user h) path (name_front_no_slash user h u n) p;
}

-- the shape of the text
name_form : (user : Option (List ℕ)) (h path : List ℕ) → IfSome user IsScpUser → IsScpName h → IsScpPath path → ¬ LooksLikeHelper (scp_value user h path None) h → ScpForm (name_front user h ++ colon ∷ path) (name_front user h) path
name_form user h path u n p other = record {
  joined = refl;
  neither = name_neither user h path u n p other;
  no_slash = name_front_no_slash user h u n;
  form = ScpFront.plain (name_front_no_colon user h u n) (inl (name_front_no_bracket user h u n));
}

-- the front is split again
name_split : (user : Option (List ℕ)) (h : List ℕ) → ScpUser (name_front user h) user h
name_split None h = ScpUser.host_alone refl refl
name_split (Some user) h = ScpUser.with_user user refl refl

-- a settled name, with its `%` as escapes, names itself
name_named : (h : List ℕ) → IsUtf8 h → IsScpName h → SpellsHostPort git_hosts (escaped_percents h) (Some h) None
name_named h text n =
    let open_name = n.normal.unbracketed in
    let decoded = decode_escaped_percents h in
    SpellsHostPort.plain h record {
      nonempty = escaped_some h open_name.nonempty;
      no_colon = lacks_escaped_percents (λ b. b == colon) h refl refl refl open_name.no_colon;
      no_bracket = free_begins left_bracket (escaped_percents h) (lacks_escaped_percents (λ b. b == left_bracket) h refl refl refl open_name.no_left_bracket);
    } (subst (λ t. IsUtf8 t) (sym decoded) text, sym (ap normal_host decoded ∙ n.normal.normal)) refl refl

-- a text free of `[` isn't in brackets
not_bracketed : (h : List ℕ) → FreeOf left_bracket h → ¬ IsBracketed h
not_bracketed h free (inner, e) = false≢true (sym (free_head_tail left_bracket left_bracket (inner ++ right_bracket ∷ []) (subst (λ t. FreeOf left_bracket t) e free)).0)

-- so a settled name denotes itself in the scp form
name_hosted : (h : List ℕ) → IsUtf8 h → IsScpName h → ScpHost h h
name_hosted h text n = record {
  named = h;
  no_at = n.no_at;
  no_backslash = n.no_backslash;
  no_white_space = n.no_white_space;
  names = name_named h text n;
  unbracketed = Unbrackets.same (not_bracketed h n.normal.unbracketed.no_left_bracket) refl;
}

-- the text spells the location
name_spelled_front : (user : Option (List ℕ)) (h path : List ℕ) → IsUtf8 (name_front user h ++ colon ∷ path) → IsUtf8 h → IfSome user IsScpUser → IsScpName h → IsScpPath path → ¬ LooksLikeHelper (scp_value user h path None) h → SpellsScpBefore (name_front user h ++ colon ∷ path) (scp_value user h path None)
name_spelled_front user h path text host u n p other = record {
  front = name_front user h;
  path = path;
  user = user;
  host = h;
  denoted = h;
  form = name_form user h path u n p other;
  text = text;
  pathed = p.nonempty;
  split = name_split user h;
  hosted = name_hosted h host n;
  value = scp_value_read user h path p.not_home;
}

-- and so does the written text
name_spelled : (user : Option (List ℕ)) (h path : List ℕ) → IfSome user IsUtf8 → IsUtf8 h → IfSome user IsScpUser → IsScpName h → IsScpPath path → ¬ LooksLikeHelper (scp_value user h path None) h → SpellsScp (raw_user user ++ (raw_host (Some h) ++ colon ∷ path)) (scp_value user h path None)
name_spelled user h path named host u n p other =
    let joined = name_joined user h path in
    let text = subst (λ t. IsUtf8 t) joined (scp_text_utf8 user h path named host p.path_text) in
    subst (λ t. SpellsScp (raw_user user ++ (t ++ colon ∷ path)) (scp_value user h path None)) (sym (name_raw h n)) (subst (λ t. SpellsScp t (scp_value user h path None)) (sym joined) (inl (name_spelled_front user h path text host u n p other)))

-- ---- an address

-- a text with a colon in it holds one
pub holds_colon : (x y : List ℕ) → has_colon (x ++ colon ∷ y) ≡ true
holds_colon [] y = refl
holds_colon (b ∷ x) y = or_right (b == colon) (has_colon (x ++ colon ∷ y)) (holds_colon x y)

-- an address needs brackets
pub address_raw : (h : List ℕ) → IsNormalAddress h → raw_host (Some h) ≡ in_brackets h
address_raw h h1 = grind (arith, nat_tests, address_cut, holds_colon, free_begins, address_free, and_from, not, cond-true)

-- an address in brackets is free of each byte that no address holds
in_brackets_free : (c : ℕ) (h : List ℕ) → is_address_byte c ≡ false → (left_bracket == c) ≡ false → (right_bracket == c) ≡ false → IsNormalAddress h → FreeOf c (in_brackets h)
in_brackets_free c h other left right a =
    free-cons c left_bracket (h ++ right_bracket ∷ []) left (free-append c h (right_bracket ∷ []) (address_free c h other a.address) (free-cons c right_bracket [] right refl))

-- a lowercase address in brackets names itself
address_named : (h : List ℕ) → IsNormalAddress h → SpellsHostPort git_hosts (in_brackets h) (Some (in_brackets h)) None
address_named h a = subst (λ n. SpellsHostPort git_hosts (in_brackets h) (Some (in_brackets n)) None) a.lower (bracketed_address_named h a.address)

-- an address in brackets is UTF-8
in_brackets_utf8 : (h : List ℕ) → IsNormalAddress h → IsUtf8 (in_brackets h)
in_brackets_utf8 h a =
    IsUtf8-append (left_bracket ∷ []) (h ++ right_bracket ∷ []) (utf8_byte left_bracket (omega arith)) (IsUtf8-append h (right_bracket ∷ []) (address_utf8 h a.address) (utf8_byte right_bracket (omega arith)))

-- a property of each byte that an address may hold holds of all of its bytes
all_address_bytes : (P : ℕ → Type 0) → ((b : ℕ) → is_address_byte b ≡ true → P b) → (t : List ℕ) → list_all is_address_byte t ≡ true → All P t
all_address_bytes P each [] h = All-nil P
all_address_bytes P each (b ∷ t) h =
    let parts = and_parts (is_address_byte b) (list_all is_address_byte t) h in
    All-cons P b t (each b parts.0) (all_address_bytes P each t parts.1)

-- such a byte isn't white space
address_byte_no_space : (b : ℕ) → is_address_byte b ≡ true → is_whitespace b ≡ false
address_byte_no_space b h = grind (arith, nat_tests)

-- an address holds no white space
address_no_white_space : (t : List ℕ) → IsIpv6Text t → LacksWhiteSpace t
address_no_white_space t a =
    let bytes = address_bytes t a in
    white_space_ascii t (IsAscii-from_all t (all_address_bytes (λ b. b < 128) address_byte_ascii t bytes)) (list_any_none is_whitespace t (all_address_bytes (λ b. is_whitespace b ≡ false) address_byte_no_space t bytes))

-- nor does it between brackets
in_brackets_no_white_space : (h : List ℕ) → IsNormalAddress h → LacksWhiteSpace (in_brackets h)
in_brackets_no_white_space h a =
    let text = address_utf8 h a.address in
    let left = white_space_byte left_bracket (omega arith) refl in
    let right = white_space_byte right_bracket (omega arith) refl in
    white_space-append (left_bracket ∷ []) (h ++ right_bracket ∷ []) (utf8_byte left_bracket (omega arith)) left (white_space-append h (right_bracket ∷ []) text (address_no_white_space h a.address) right)

-- it denotes the address in the scp form
address_hosted : (h : List ℕ) → IsNormalAddress h → ScpHost (in_brackets h) h
address_hosted h a = record {
  named = in_brackets h;
  no_at = in_brackets_free at_sign h refl refl refl a;
  no_backslash = in_brackets_free backslash h refl refl refl a;
  no_white_space = in_brackets_no_white_space h a;
  names = subst (λ t. SpellsHostPort git_hosts t (Some (in_brackets h)) None) (sym (escaped_percents_kept (in_brackets h) (in_brackets_free percent_sign h refl refl refl a))) (address_named h a);
  unbracketed = Unbrackets.brackets refl;
}

-- a text that begins with a bracket isn't that of a remote helper
bracket_no_helper : (rest name address : List ℕ) → is_helper_name name ≡ true → left_bracket ∷ rest ≡ name ++ colon ∷ (colon ∷ address) → ⊥
bracket_no_helper rest name address h3 h4 = grind (arith, nat_tests, false≢true, both_ways, free_head_tail, helper_name_free, eq-eqb, heads)

-- the shape of the text without a user
address_form : (h path : List ℕ) → IsNormalAddress h → IsScpPath path → ScpForm (in_brackets h ++ colon ∷ path) (in_brackets h) path
address_form h path a p = record {
  joined = refl;
  neither = record {
    no_helper = λ (name, address, k). bracket_no_helper ((h ++ right_bracket ∷ []) ++ colon ∷ path) name address k.named k.joined;
    no_mark = no_mark_joined (in_brackets h) path (in_brackets_free slash h refl refl refl a) p;
  };
  no_slash = in_brackets_free slash h refl refl refl a;
  form = ScpFront.bracketed h [] (address_free right_bracket h refl a.address) refl refl;
}

-- that text spells the location
address_spelled : (h path : List ℕ) → IsNormalAddress h → IsScpPath path → SpellsScp (in_brackets h ++ colon ∷ path) (scp_value None h path None)
address_spelled h path a p = inl record {
  front = in_brackets h;
  path = path;
  user = None;
  host = in_brackets h;
  denoted = h;
  form = address_form h path a p;
  text = scp_text_utf8 None (in_brackets h) path tt (in_brackets_utf8 h a) p.path_text;
  pathed = p.nonempty;
  split = ScpUser.host_alone refl refl;
  hosted = address_hosted h a;
  value = scp_value_read None h path p.not_home;
}

-- ---- an address with a user

-- the text `user@[address]:path`
abbrev addressed_text : List ℕ → List ℕ → List ℕ → List ℕ
addressed_text user h path = user ++ at_sign ∷ (left_bracket ∷ (h ++ right_bracket ∷ (colon ∷ path)))

-- the written text is that text
addressed_written : (user h path : List ℕ) → raw_user (Some user) ++ (in_brackets h ++ colon ∷ path) ≡ addressed_text user h path
addressed_written user h path =
    append_assoc user (at_sign ∷ []) (in_brackets h ++ colon ∷ path) ∙ ap (λ t. user ++ at_sign ∷ (left_bracket ∷ t)) (append_assoc h (right_bracket ∷ []) (colon ∷ path))

-- that text isn't that of a remote helper: its first colon is in the address
addressed_no_helper : (user h path : List ℕ) → IsScpUser user → IsNormalAddress h → ¬ HasHelperForm (addressed_text user h path)
addressed_no_helper user h path u a =
    let (x, y, free, e) = address_cut h a.address in
    subst (λ t. ¬ HasHelperForm t) (sym (addressed_joined user h path x y e)) (no_helper_at user (left_bracket ∷ x) (y ++ right_bracket ∷ (colon ∷ path)) (addressed_front_free user x u.no_colon free))

-- nor that of a URL
addressed_no_mark : (user h path : List ℕ) → IsScpUser user → IsNormalAddress h → IsScpPath path → ¬ Holds (codes "://") (addressed_text user h path)
addressed_no_mark user h path u a p =
    let front = user ++ at_sign ∷ in_brackets h in
    let free : FreeOf slash front = free-append slash user (at_sign ∷ in_brackets h) u.no_slash (free-cons slash at_sign (in_brackets h) refl (in_brackets_free slash h refl refl refl a)) in
    subst (λ t. ¬ Holds (codes "://") t) (sym (name_joined (Some user) (in_brackets h) path) ∙ addressed_written user h path) (no_mark_joined front path free p)

-- the shape of the text with a user
addressed_form : (user h path : List ℕ) → IsScpUser user → IsNormalAddress h → IsScpPath path → AddressedForm (addressed_text user h path) user h path
addressed_form user h path u a p = record {
  cut = record { joined = refl; no_slash = u.no_slash; no_colon = u.no_colon; addressed = a.address };
  neither = record { no_helper = addressed_no_helper user h path u a; no_mark = addressed_no_mark user h path u a p };
}

-- that text spells the location
addressed_spelled : (user h path : List ℕ) → IsUtf8 user → IsScpUser user → IsNormalAddress h → IsScpPath path → SpellsScp (addressed_text user h path) (scp_value (Some user) h path None)
addressed_spelled user h path named u a p = inr record {
  user = user;
  address = h;
  path = path;
  form = addressed_form user h path u a p;
  text = subst (λ t. IsUtf8 t) (addressed_written user h path) (scp_text_utf8 (Some user) (in_brackets h) path named (in_brackets_utf8 h a) p.path_text);
  pathed = p.nonempty;
  value = scp_value_read (Some user) h path p.not_home ∙ ap (λ t. scp_location (Some user) t path) (sym a.lower);
}

-- ---- both hosts

-- the text in brackets spells the location, with a user or without
bracketed_spelled : (user : Option (List ℕ)) (h path : List ℕ) → IfSome user IsUtf8 → IfSome user IsScpUser → IsNormalAddress h → IsScpPath path → SpellsScp (raw_user user ++ (in_brackets h ++ colon ∷ path)) (scp_value user h path None)
bracketed_spelled user h path h3 h4 h5 h6 = grind (arith, nat_tests, address_spelled, addressed_written, addressed_spelled)

-- the written text spells the location
pub scp_spelled : (user : Option (List ℕ)) (h path : List ℕ) → IfSome user IsUtf8 → IsUtf8 h → IfSome user IsScpUser → IsScpName h ⊎ IsNormalAddress h → IsScpPath path → ¬ LooksLikeHelper (scp_value user h path None) h → SpellsScp (raw_user user ++ (raw_host (Some h) ++ colon ∷ path)) (scp_value user h path None)
scp_spelled user h path named host u (inl n) p other = name_spelled user h path named host u n p other
scp_spelled user h path named host u (inr a) p other =
    subst (λ t. SpellsScp (raw_user user ++ (t ++ colon ∷ path)) (scp_value user h path None)) (sym (address_raw h a)) (bracketed_spelled user h path named u a p)

-- ---- settled locations come back

-- the location without its spelling is settled
scp_read_settled : (v : Location) (h : List ℕ) → IsSettledScp v → IsScpName h ⊎ IsNormalAddress h → ¬ LooksLikeHelper v h → IsSettledScp (scp_value v.user h v.path None)
scp_read_settled v h s kind other =
    record { flagged = refl; no_password = refl; no_port = refl; path = s.path; user = s.user; host = (h, refl, kind, other) }

-- a settled location in the scp form comes back without its spelling
pub scp_again : (v : Location) → v.scheme ≡ ssh → IsValue v → IsSettledScp v → (back : ComesBack v) × IsSettled back.reread
scp_again v scheme is s =
    let (h, host, kind, other) = s.host in
    let value = scp_value_of v h scheme s host in
    let text_of_host : IsUtf8 h = subst (λ o. IfSome o IsUtf8) host is.host in (
      record {
        written = raw_user v.user ++ (raw_host (Some h) ++ colon ∷ v.path);
        reread = scp_value v.user h v.path None;
        has_text = ap (λ l. text l) value ∙ scp_written v.user h v.path v.spelling;
        spelled = Spells.scp_form (scp_spelled v.user h v.path is.user text_of_host s.user kind s.path other);
        same_fields = sym (ap (λ l. fields l) value);
        same_text = scp_written v.user h v.path None;
      },
      inl (scp_read_settled v h s kind other),
    )
