-- The settled class by its tests: the results of the small tests, joined.
use Rattle.std.proofs.Common.{⊎_elim, ◌≡◌, ◌↔◌, ℕ, Bool, true, false, not, ◌≤◌, ◌⊎◌, inl, inr, List, [], ◌∷◌, ◌++◌, ◌+◌, drop, refl, sym, ap, subst, ◌∙◌, append_assoc, arith, codes, length, length-append, Option, Some, None, Ok, IsTrue}
use Rattle.std.specs.List.{list_all}
use Rattle.std.specs.Option.{is_some}
use Rattle.std.proofs.lemmas.List.{append_cancel_right, length-drop, same_from_push}
use Rattle.std.proofs.lemmas.List.Folds.{list_all-append}
use Rattle.std.proofs.lemmas.Bool.{both_ways, false≢true, true≢false, le-leb, not-false, and_parts, or_left}
use Rattle.git_syntax.specs.Location.{Location}
use Rattle.git_syntax.specs.Bytes.{slash, colon, left_bracket, right_bracket, percent_sign, FreeOf, lowercase}
use Rattle.git_syntax.specs.Escapes.{has_percent, is_plain}
use Rattle.git_syntax.specs.Addresses.{Literal, IsIpv6Text}
use Rattle.git_syntax.specs.Addresses.Literal.{address, zoned}
use Rattle.git_syntax.specs.Hosts.{is_http_host_byte, port_part}
use Rattle.git_syntax.specs.Internal.HostPieces.{IsEscapedZone, IsSimpleHost, is_simple_byte}
use Rattle.git_location.specs.Settled.{HasFittingText, HasUrlPath, IsNormalAddress, IsNormalName, IsScpName, IsSettled, IsSettledBy, IsSettledRaw, IsSettledUrl, IsSettledWeb, IsWeb, IsWebName, IsWebHost}
use Rattle.git_location.specs.Settled.IsWebHost.{literal, literal_colon, named, named_colon}
use Rattle.git_location.specs.Internal.SettledPieces.{IsNormalLiteral, IsBracketedLiteral, IsClosedHost, HasRawPath, IsSettledBesidePath, IsPiecesShort}
use Rattle.git_syntax.specs.Schemes.{scheme_text}
use Rattle.git_location.specs.Text.{text, canonical_text, user_information, host_part, canonical_path}
use Rattle.git_syntax.specs.Authority.{FitsText}
use Rattle.git_syntax.proofs.Parsing.LengthLemmas.{fits_text, fits_tested}
use Rattle.git_syntax.proofs.Addresses.AddressLemmas.{address_free}
use Rattle.git_syntax.proofs.Parsing.HostLemmas.{simple_http, simple_normal}
use Rattle.git_syntax.proofs.Parsing.ScpLemmas.{simple_scp_host}
use Rattle.git_syntax.proofs.Texts.CutLemmas.{cut_unique, different_bytes, free_of_all, not_free, tails}
use Rattle.git_syntax.proofs.Texts.EscapeLemmas.{sound_free}
use Rattle.git_syntax.proofs.Texts.PlainLemmas.{plain_free, plain_utf8, plain_white_space}
use Rattle.git_location.proofs.Writing.WrittenAsUrlLemmas.{one_text}

-- ---- tests in a row

-- the second test of two decides, if the first holds
pub second_decides : {A B R : Type 0} (b : Bool) → A → (IsTrue b ↔ B) → ((A × B) ↔ R) → IsTrue b ↔ R
second_decides b first second both = (λ yes. both.0 (first, second.0 yes), λ all. second.1 (both.1 all).1)

-- the first test of two decides, if it fails
pub first_fails : {A B R : Type 0} (b : Bool) → b ≡ false → (IsTrue b ↔ A) → ((A × B) ↔ R) → IsTrue b ↔ R
first_fails b fails first both = (λ yes. absurd (both_ways b fails yes), λ all. absurd (both_ways b fails (first.1 (both.1 all).0)))

-- the first test of two decides, if it holds and one is enough
pub first_suffices : {A B R : Type 0} (b : Bool) → b ≡ true → A → ((A ⊎ B) ↔ R) → IsTrue b ↔ R
first_suffices b holds first either = (λ yes. either.0 (inl first), λ all. holds)

-- the second test of two decides, if the first fails and one is enough
pub second_needed : {A B R : Type 0} (a b : Bool) → a ≡ false → (IsTrue a ↔ A) → (IsTrue b ↔ B) → ((A ⊎ B) ↔ R) → IsTrue b ↔ R
second_needed a b fails first second either = (
  λ yes. either.0 (inr (second.0 yes)),
  λ all. ⊎_elim (λ x. absurd (both_ways a fails (first.1 x))) (λ y. second.1 y) (either.1 all),
)

-- `is_none` is true exactly if there is no value
pub none_tested : {A : Type 0} (o : Option A) (b : Bool) → is_some o ≡ not b → IsTrue b ↔ (o ≡ None)
none_tested None b e = (λ yes. refl, λ none. not-false b (sym e))
none_tested (Some x) b e = (λ yes. absurd (true≢false (e ∙ ap not yes)), λ none. cc)

-- ---- literals

-- a literal without `%` is an address
address_without_zone : (t : List ℕ) → FreeOf percent_sign t → Literal t t → IsNormalAddress t
address_without_zone t free (address a e) = record { address = a; lower = sym e }
address_without_zone t free (zoned a z addressed zone joined normal) =
    absurd (not_free percent_sign a (50 ∷ 53 ∷ z) (subst (λ x. FreeOf percent_sign x) joined free))

-- a text without `%` is a settled literal if it is a settled address
pub literal_without_zone : (t : List ℕ) → FreeOf percent_sign t → IsNormalAddress t ↔ IsNormalLiteral t
literal_without_zone t free = (λ n. address n.address (sym n.lower), λ l. address_without_zone t free l)

-- an address and an escaped zone after it are a literal
literal_of_parts : (t a e : List ℕ) → t ≡ a ++ percent_sign ∷ e → IsNormalAddress a → IsEscapedZone e → Literal t t
literal_of_parts t a e joined normal (z, zone, escaped) =
    let whole : t ≡ a ++ (percent_sign ∷ 50 ∷ 53 ∷ z) = joined ∙ ap (λ x. a ++ percent_sign ∷ x) escaped in
    zoned a z normal.address zone whole (whole ∙ ap (λ x. x ++ (percent_sign ∷ 50 ∷ 53 ∷ z)) (sym normal.lower))

-- a literal with `%` is an address and an escaped zone after it
parts_of_literal : (t a e : List ℕ) → FreeOf percent_sign a → t ≡ a ++ percent_sign ∷ e → Literal t t → IsNormalAddress a × IsEscapedZone e
parts_of_literal t a e free joined (address whole n) =
    absurd (not_free percent_sign a e (subst (λ x. FreeOf percent_sign x) joined (address_free percent_sign t refl whole)))
parts_of_literal t a e free joined (zoned b z addressed zone same normal) =
    let cuts : (a ≡ b) × (e ≡ 50 ∷ 53 ∷ z) = cut_unique percent_sign a b e (50 ∷ 53 ∷ z) free (address_free percent_sign b refl addressed) (sym joined ∙ same) in
    let lower : lowercase b ≡ b = append_cancel_right (lowercase b) b (percent_sign ∷ 50 ∷ 53 ∷ z) (sym normal ∙ same) in (
      record { address = subst IsIpv6Text (sym cuts.0) addressed; lower = ap lowercase cuts.0 ∙ lower ∙ sym cuts.0 },
      (z, zone, cuts.1),
    )

-- a text with `%` is a settled literal if an address comes before its first `%` and a zone follows
pub literal_with_zone : (t a e : List ℕ) → FreeOf percent_sign a → t ≡ a ++ percent_sign ∷ e → (IsNormalAddress a × IsEscapedZone e) ↔ IsNormalLiteral t
literal_with_zone t a e free joined =
    (λ parts. literal_of_parts t a e joined parts.0 parts.1, λ l. parts_of_literal t a e free joined l)

-- brackets are cut off in one way
inside_brackets : (x y : List ℕ) → left_bracket ∷ (x ++ right_bracket ∷ []) ≡ left_bracket ∷ (y ++ right_bracket ∷ []) → x ≡ y
inside_brackets x y e = (same_from_push x y right_bracket right_bracket (tails e)).0

-- brackets hold a literal that stays unchanged if the text between them is one
pub literal_in_brackets : (b : Bool) (host inner : List ℕ) → host ≡ left_bracket ∷ (inner ++ right_bracket ∷ []) → (IsTrue b ↔ IsNormalLiteral inner) → IsTrue b ↔ IsBracketedLiteral host
literal_in_brackets b host inner joined test = (
  λ yes. (inner, test.0 yes, joined),
  λ (n, l, e). test.1 (subst IsNormalLiteral (inside_brackets n inner (sym e ∙ joined)) l),
)

-- ---- hosts of HTTP

-- a text that ends in `]` doesn't end in `:`
bracket_or_colon : {A : Type 0} (front x : List ℕ) → x ++ right_bracket ∷ [] ≡ front ++ colon ∷ [] → A
bracket_or_colon front x e = different_bytes right_bracket colon {x = []} {y = []} refl (ap (λ c. c ∷ []) (same_from_push x front right_bracket colon e).1)

-- a name of HTTP doesn't end in `:`
name_or_colon : {A : Type 0} (host front : List ℕ) → IsWebName host → host ≡ front ++ colon ∷ [] → A
name_or_colon host front name e =
    let all = sym (list_all-append is_http_host_byte front (colon ∷ [])) ∙ ap (list_all is_http_host_byte) (sym e) ∙ name.bytes in
    absurd (false≢true (and_parts _ _ all).1)

-- the colon after brackets follows the piece that they are part of
colon_after : (n : List ℕ) → left_bracket ∷ (n ++ right_bracket ∷ (colon ∷ [])) ≡ (left_bracket ∷ (n ++ right_bracket ∷ [])) ++ colon ∷ []
colon_after n = sym (append_assoc (left_bracket ∷ n) (right_bracket ∷ []) (colon ∷ []))

-- a closed host and a colon are a settled host if there is no port
colon_host_from : (port : Option ℕ) (host front : List ℕ) → host ≡ front ++ colon ∷ [] → port ≡ None → IsClosedHost front → IsWebHost port host
colon_host_from port host front joined none (inl (n, l, e)) =
    literal_colon n l none (joined ∙ ap (λ x. x ++ colon ∷ []) e ∙ sym (colon_after n))
colon_host_from port host front joined none (inr (name, plain)) = named_colon front name plain none joined

-- and such a host has no port, and is closed before its colon
colon_host_to : (port : Option ℕ) (host front : List ℕ) → host ≡ front ++ colon ∷ [] → IsWebHost port host → (port ≡ None) × IsClosedHost front
colon_host_to port host front joined (literal n l e) = bracket_or_colon front (left_bracket ∷ n) (sym e ∙ joined)
colon_host_to port host front joined (literal_colon n l none e) =
    (none, inl (n, l, sym (same_from_push (left_bracket ∷ (n ++ right_bracket ∷ [])) front colon colon (sym (colon_after n) ∙ sym e ∙ joined)).0))
colon_host_to port host front joined (named name) = name_or_colon host front name joined
colon_host_to port host front joined (named_colon n name plain none e) =
    let same : n ≡ front = (same_from_push n front colon colon (sym e ∙ joined)).0 in
    (none, inr (subst IsWebName same name, subst (λ x. has_percent x ≡ false) same plain))

-- a host with a colon after it is settled if there is no port, and it is closed before the colon
pub web_host_colon : (port : Option ℕ) (host front : List ℕ) → host ≡ front ++ colon ∷ [] → ((port ≡ None) × IsClosedHost front) ↔ IsWebHost port host
web_host_colon port host front joined =
    (λ parts. colon_host_from port host front joined parts.0 parts.1, λ settled. colon_host_to port host front joined settled)

-- a host with no colon after it is settled if it is a literal in brackets or a name
bare_host_from : (port : Option ℕ) (host : List ℕ) → IsBracketedLiteral host ⊎ IsWebName host → IsWebHost port host
bare_host_from port host (inl (n, l, e)) = literal n l e
bare_host_from port host (inr name) = named name

bare_host_to : (port : Option ℕ) (host : List ℕ) → ((front : List ℕ) → ¬ (host ≡ front ++ colon ∷ [])) → IsWebHost port host → IsBracketedLiteral host ⊎ IsWebName host
bare_host_to port host ends (literal n l e) = inl (n, l, e)
bare_host_to port host ends (literal_colon n l none e) = absurd (ends (left_bracket ∷ (n ++ right_bracket ∷ [])) (e ∙ colon_after n))
bare_host_to port host ends (named name) = inr name
bare_host_to port host ends (named_colon n name plain none e) = absurd (ends n e)

pub web_host_bare : (port : Option ℕ) (host : List ℕ) → ((front : List ℕ) → ¬ (host ≡ front ++ colon ∷ [])) → (IsBracketedLiteral host ⊎ IsWebName host) ↔ IsWebHost port host
web_host_bare port host ends = (λ either. bare_host_from port host either, λ settled. bare_host_to port host ends settled)

-- ---- simple hosts

-- a simple host is a settled host of HTTP
pub simple_web_host : (port : Option ℕ) (host : List ℕ) → IsSimpleHost host → IsWebHost port host
simple_web_host port host h =
    named (record { nonempty = h.nonempty; bytes = simple_http host h.bytes; sound = sound_free host (free_of_all is_simple_byte percent_sign host h.bytes refl); normal = simple_normal host h.bytes })

-- and a settled name
pub simple_normal_name : (host : List ℕ) → IsSimpleHost host → IsNormalName host
simple_normal_name host h = record {
  unbracketed = record {
    nonempty = h.nonempty;
    no_colon = free_of_all is_simple_byte colon host h.bytes refl;
    no_left_bracket = free_of_all is_simple_byte left_bracket host h.bytes refl;
    no_right_bracket = free_of_all is_simple_byte right_bracket host h.bytes refl;
  };
  normal = simple_normal host h.bytes;
}

-- and one in the scp form
pub simple_scp_name : (host : List ℕ) → IsSimpleHost host → IsScpName host
simple_scp_name host h =
    let scp = simple_scp_host host h in
    record {
      normal = simple_normal_name host h;
      no_at = scp.no_at;
      no_slash = free_of_all is_simple_byte slash host h.bytes refl;
      no_backslash = scp.no_backslash;
      no_white_space = scp.no_white_space;
    }

-- ---- hosts that are there

-- there is a host that passes if the one that is there does
pub host_tested : (P : List ℕ → Type 0) (host : Option (List ℕ)) (h : List ℕ) (b : Bool) → host ≡ Some h → (IsTrue b ↔ P h) → IsTrue b ↔ ((x : List ℕ) × (host ≡ Some x) × P x)
host_tested P host h b is test = (
  λ yes. (h, is, test.0 yes),
  λ (x, e, passes). let same : Some x ≡ Some h = sym e ∙ is in let equal : x ≡ h = cc in test.1 (subst P equal passes),
)

-- ---- paths, and the other conditions

-- a plain path without a spelling is one of a settled URL, and raw
pub plain_raw_path : (v : Location) → v.spelling ≡ None → is_plain v.path ≡ true → HasRawPath v
plain_raw_path v none plain = (
  record { path_text = plain_utf8 v.path plain; spelling = λ s some decodes. let wrong : None ≡ Some s = sym none ∙ some in cc },
  λ unmatched. (plain_free v.path plain, plain_white_space v.path plain),
)

-- a settled URL has a path and meets the other conditions
pub url_by_parts : (v : Location) → (HasUrlPath v × IsSettledBesidePath v) ↔ IsSettledUrl v
url_by_parts v = (
  λ parts. record { unflagged = parts.1.unflagged; credentials = parts.1.credentials; hosted = parts.1.hosted; path = parts.0; fits = parts.1.fits },
  λ url. (url.path, record { unflagged = url.unflagged; credentials = url.credentials; hosted = url.hosted; fits = url.fits }),
)

-- so does one with a raw path
pub raw_by_parts : (v : Location) → (HasRawPath v × IsSettledBesidePath v) ↔ IsSettledRaw v
raw_by_parts v = (
  λ parts. record { common = (url_by_parts v).0 (parts.0.0, parts.1); raw = parts.0.1 },
  λ url. let parts = (url_by_parts v).1 url.common in ((parts.0, url.raw), parts.1),
)

-- ---- locations of HTTP

-- a settled location of HTTP is settled
pub web_settled : (v : Location) → IsWeb v → IsSettledWeb v → IsSettled v
web_settled v (inl e) h = subst (λ p. IsSettledBy p v) (sym e) h
web_settled v (inr e) h = subst (λ p. IsSettledBy p v) (sym e) h

-- and settled as one
pub settled_as_web : (v : Location) → IsWeb v → IsSettled v → IsSettledWeb v
settled_as_web v (inl e) h = subst (λ p. IsSettledBy p v) e h
settled_as_web v (inr e) h = subst (λ p. IsSettledBy p v) e h

-- ---- the texts of settled URLs

-- the text of a URL is short enough if the walk over it is
pub fitting_text : (v : Location) (t : List ℕ) → FreeOf colon (scheme_text v.scheme) → text v ≡ Ok (canonical_text v) → Ok t ≡ text v → IsPiecesShort (scheme_text v.scheme) t ↔ HasFittingText v
fitting_text v t free canonical is =
    let okay : Ok t ≡ Ok (canonical_text v) = is ∙ canonical in
    let same : t ≡ canonical_text v = cc in
    let rest = user_information v.user v.password ++ (host_part v v.host ++ (port_part v.port ++ canonical_path v)) in
    let test : IsPiecesShort (scheme_text v.scheme) t ↔ FitsText t = fits_text (scheme_text v.scheme) rest t free same in (
      λ short. (t, sym is, test.0 short),
      λ (x, e, fits). test.1 (subst FitsText (one_text e (sym is)) fits),
    )

-- so it is if it has no more bytes than the limit
pub short_text : (v : Location) → FreeOf colon (scheme_text v.scheme) → text v ≡ Ok (canonical_text v) → length (canonical_text v) ≤ 1024 → HasFittingText v
short_text v free canonical short =
    let rest = codes "://" ++ (user_information v.user v.password ++ (host_part v v.host ++ (port_part v.port ++ canonical_path v))) in
    let whole = length-append (scheme_text v.scheme) rest in
    let suffix = drop (length (scheme_text v.scheme) + 3) (canonical_text v) in
    let few : length suffix ≤ 1024 = omega (arith, short, length-drop (length (scheme_text v.scheme) + 3) (canonical_text v)) in
    let fits = fits_tested (scheme_text v.scheme) suffix (omega (arith, whole, short)) in
    (fitting_text v (canonical_text v) free canonical (sym canonical)).0 (fits.0 (or_left _ _ (le-leb (length suffix) 1024 few)))

-- and a test of its scheme and of its pieces decides it
pub text_tested : (v : Location) (s t : List ℕ) (b : Bool) → s ≡ scheme_text v.scheme → FreeOf colon (scheme_text v.scheme) → text v ≡ Ok (canonical_text v) → Ok t ≡ text v
    → (IsTrue b ↔ IsPiecesShort s t) → IsTrue b ↔ HasFittingText v
text_tested v s t b same_scheme free canonical is test =
    let reported = subst (λ n. IsTrue b ↔ IsPiecesShort n t) same_scheme test in
    let class = fitting_text v t free canonical is in
    (λ yes. class.0 (reported.0 yes), λ fits. reported.1 (class.1 fits))
