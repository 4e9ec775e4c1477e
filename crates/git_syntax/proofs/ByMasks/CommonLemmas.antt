-- Texts of common bytes: they are plain, their pieces are too, and no byte of them needs another test.
use Rattle.std.proofs.Common.{◌≡◌, ◌∙◌, ◌<◌, ◌≤◌, ◌⊎◌, ◌++◌, ◌∷◌, ◌==◌, ℕ, Bool, true, false, List, [], Option, length, codes, refl, sym, ap, subst, inl, inr, arith, length-append}
use Rattle.std.specs.Str.{IsUtf8}
use Rattle.std.proofs.lemmas.Bool.{and_parts, false≢true, le-leb, or_left}
use Rattle.std.proofs.lemmas.Bool.Decides.{nat_tests}
use Rattle.std.proofs.lemmas.List.Folds.{list_all-append}
use Rattle.percent_encoding.specs.Percent.{percent_decode}
use Rattle.git_syntax.specs.Authority.{Fits}
use Rattle.git_syntax.specs.Bytes.{FreeOf, Lacks, StartsPath, backslash, begins_with, colon, is_path_start, is_scheme_text, left_bracket, slash}
use Rattle.git_syntax.specs.Escapes.{has_percent, is_plain, is_plain_byte}
use Rattle.git_syntax.specs.Flaws.{OtherUrlForm}
use Rattle.git_syntax.specs.Grammar.{HasUrlSyntax, IsNeither}
use Rattle.git_syntax.specs.Grammar.ScpFront.{plain}
use Rattle.git_syntax.specs.Schemes.{host_syntax_of, is_web_scheme, requires_host}
use Rattle.git_syntax.specs.Internal.Forms.{ColonCut, FrontCut, HasAddressedCut}
use Rattle.git_syntax.specs.Internal.Masks.{is_common, is_common_byte}
use Rattle.git_syntax.specs.Internal.UrlPieces.{HoldsHosted}
use Rattle.git_syntax.proofs.Parsing.ClassifierLemmas.{no_helper_alone, no_mark_at_colon}
use Rattle.git_syntax.proofs.Parsing.LengthLemmas.{fits_tested}
use Rattle.git_syntax.proofs.Parsing.UrlLemmas.{rest_cut, spelled, url_cut}
use Rattle.git_syntax.proofs.Texts.CutLemmas.{free_begins, free_head_tail, free_of_all, free_parts, lacks-cons}
use Rattle.git_syntax.proofs.Texts.PlainLemmas.{plain_free, plain_means_utf8, plain_sound, plain_utf8, plain_white_space}

-- a common byte is plain
common_byte_plain : (b : ℕ) → is_common_byte b ≡ true → is_plain_byte b ≡ true
common_byte_plain b common = grind (arith, nat_tests)

-- a text of common bytes is plain
pub common_plain : (t : List ℕ) → is_common t ≡ true → is_plain t ≡ true
common_plain [] common = refl
common_plain (b ∷ t) common =
    let (byte, more) = and_parts (is_common_byte b) (is_common t) common in rw (common_byte_plain b byte) (common_plain t more)

-- it is UTF-8
pub common_utf8 : (t : List ℕ) → is_common t ≡ true → IsUtf8 t
common_utf8 t common = plain_utf8 t (common_plain t common)

-- it decodes to UTF-8
pub common_means_utf8 : (t : List ℕ) → is_common t ≡ true → IsUtf8 (percent_decode t)
common_means_utf8 t common = plain_means_utf8 t (common_plain t common)

-- it has no `%`
pub common_free_of_percent : (t : List ℕ) → is_common t ≡ true → has_percent t ≡ false
common_free_of_percent t common = plain_free t (common_plain t common)

-- it has no opening bracket
common_free_of_bracket : (t : List ℕ) → is_common t ≡ true → FreeOf left_bracket t
common_free_of_bracket t common = free_of_all is_common_byte left_bracket t common refl

-- ---- pieces

-- the pieces of such a text are such texts
pub common_parts : (x y : List ℕ) → is_common (x ++ y) ≡ true → (is_common x ≡ true) × (is_common y ≡ true)
common_parts x y common = and_parts _ _ (sym (list_all-append is_common_byte x y) ∙ common)

-- so are those around a byte
pub common_around : (t x y : List ℕ) (c : ℕ) → is_common t ≡ true → t ≡ x ++ c ∷ y → (is_common x ≡ true) × (is_common y ≡ true)
common_around t x y c common joined =
    let parts = common_parts x (c ∷ y) (subst (λ s. is_common s ≡ true) joined common) in
    (parts.0, (and_parts (is_common_byte c) (is_common y) parts.1).1)

-- so are the authority and the path of a URL
pub common_after : (b scheme rest authority path : List ℕ) → OtherUrlForm b scheme rest → is_common b ≡ true → rest ≡ authority ++ path
    → (is_common authority ≡ true) × (is_common path ≡ true)
common_after b scheme rest authority path form common joined =
    let suffix = (common_parts scheme (codes "://" ++ rest) (subst (λ s. is_common s ≡ true) form.form.joined common)).1 in
    let after_mark = (common_parts (codes "://") rest suffix).1 in
    common_parts authority path (subst (λ s. is_common s ≡ true) joined after_mark)

-- ---- the scp form and local paths

-- no address is in brackets after a user
pub not_addressed : (b : List ℕ) → is_common b ≡ true → ¬ HasAddressedCut b
not_addressed b common (user, address, path, cut) =
    false≢true (sym (free_parts left_bracket user _ (subst (λ t. FreeOf left_bracket t) cut.joined (common_free_of_bracket b common))).1)

-- a text whose first colon is its last, and doesn't begin `://`, is neither a remote helper nor a URL
pub neither_by_colon : (b front rest : List ℕ) → ColonCut b front rest → ((suffix : List ℕ) → ¬ (rest ≡ slash ∷ (slash ∷ suffix))) → FreeOf colon rest → IsNeither b
neither_by_colon b front rest cut no_mark free = record {
  no_helper = no_helper_alone b front rest cut.no_colon cut.joined (free_begins colon rest free);
  no_mark = no_mark_at_colon b front rest cut no_mark free;
}

-- its first colon is that of the scp form
pub around_colon : (b front rest : List ℕ) → is_common b ≡ true → ColonCut b front rest → FrontCut b front rest
around_colon b front rest common cut =
    let front_common = (common_around b front rest colon common cut.joined).0 in
    record { joined = cut.joined; form = plain cut.no_colon (inl (free_begins left_bracket front (common_free_of_bracket front front_common))) }

-- ---- URLs

-- a path that isn't empty begins with a slash
pub rooted : (path : List ℕ) → 0 < length path → (path ≡ []) ⊎ (begins_with slash path ≡ true) → begins_with slash path ≡ true
rooted path some (inl e) = absurd (omega (arith, ap length e))
rooted path some (inr begins) = begins

no_start : (web : Bool) (b : ℕ) → is_common_byte b ≡ true → (b == slash) ≡ false → is_path_start web b ≡ false
no_start true b common other = grind (arith, nat_tests)
no_start false b common other = grind (arith, nat_tests)

-- no path starts before the first slash
lacks_starts : (web : Bool) (t : List ℕ) → is_common t ≡ true → FreeOf slash t → Lacks (is_path_start web) t
lacks_starts web [] common free = refl
lacks_starts web (b ∷ t) common free =
    let (byte, more) = and_parts (is_common_byte b) (is_common t) common in
    let (other, rest) = free_head_tail slash b t free in
    lacks-cons (is_path_start web) b t (no_start web b byte other) (lacks_starts web t more rest)

-- a path may start at a slash
starts_path : (web : Bool) (path : List ℕ) → (path ≡ []) ⊎ (begins_with slash path ≡ true) → StartsPath web path
starts_path web path (inl e) = inl e
starts_path web [] (inr begins) = inl refl
starts_path web (b ∷ path) (inr begins) = inr (or_left (b == slash) _ begins)

-- a short URL fits
pub short_fits : (b scheme rest : List ℕ) → b ≡ scheme ++ (codes "://" ++ rest) → length b ≤ 64 → Fits scheme rest
short_fits b scheme rest joined short =
    let whole = ap length joined in
    let first = length-append scheme (codes "://" ++ rest) in
    let second = length-append (codes "://") rest in
    (fits_tested scheme rest (omega (arith, whole, first, second))).0 (or_left _ _ (le-leb (length rest) 1024 (omega (arith, whole, first, second))))

-- a text of common bytes is a URL with these fields
pub url_of_common : (b scheme rest authority path : List ℕ) (user password host : Option (List ℕ)) (port : Option ℕ) (web : Bool)
    → OtherUrlForm b scheme rest → web ≡ is_web_scheme scheme → is_common b ≡ true → length b ≤ 64 → true ≡ is_scheme_text scheme
    → rest ≡ authority ++ path → FreeOf slash authority → (path ≡ []) ⊎ (begins_with slash path ≡ true)
    → HoldsHosted (host_syntax_of scheme) (requires_host scheme) authority user password host port
    → HasUrlSyntax b (record { scheme = scheme; user = user; password = password; host = host; port = port; path = path })
url_of_common b scheme rest authority path user password host port web form ruled common short named joined free starts held =
    let pieces = common_after b scheme rest authority path form common joined in
    let cut = url_cut form named (rest_cut ruled joined (lacks_starts web authority pieces.0 free) (starts_path web path starts)) in
    let fits = short_fits b scheme rest form.form.joined short in
    let plain_text = common_plain b common in
    let no_backslash = free_of_all is_common_byte backslash authority pieces.0 refl in
    spelled cut (plain_utf8 b plain_text) (plain_white_space b plain_text) (sym (plain_sound b plain_text)) no_backslash (rw joined at fits) held (common_means_utf8 path pieces.1)
