-- A URL whose path starts soon has a text that is short enough, however long the path is.
use Rattle.std.proofs.Common.{◌≡◌, ◌∙◌, ap, sym, subst, refl, ℕ, Bool, true, false, ◌+◌, ◌*◌, ◌≤◌, ◌<◌, ◌==◌, List, [], ◌∷◌, ◌++◌, append_assoc, arith, codes, length, length-append, take, drop, Option, Some, None, IfSome, Ok, inl, inr, zero, suc}
use Rattle.std.specs.Prelude.{not, ◌&&◌, ◌||◌}
use Rattle.std.specs.Char.{is_ascii_whitespace}
use Rattle.std.specs.List.{list_any}
use Rattle.std.proofs.lemmas.Bool.{cases_Bool, false≢true, cond_both, or_left, or_right, or_parts}
use Rattle.std.proofs.lemmas.Bool.Decides.{nat_tests}
use Rattle.std.proofs.lemmas.List.Elements.{filter-append}
use Rattle.percent_encoding.specs.declared.ascii_set.AsciiSet.{AsciiSet}
use Rattle.percent_encoding.specs.AsciiSet.{should_percent_encode}
use Rattle.percent_encoding.specs.Percent.{percent_encode, percent_encode_byte}
use Rattle.percent_encoding.proofs.PercentLemmas.{percent_encode_escaped, percent_encode_kept}
use Rattle.git_syntax.specs.declared.length.Stage.TheVariants.{Slashes}
use Rattle.git_syntax.specs.Location.{Scheme, Location}
use Rattle.git_syntax.specs.Location.Scheme.{file, git, ssh, http, https, ext, helper, helper_url}
use Rattle.git_syntax.specs.Authority.{Fits, without_white_space}
use Rattle.git_syntax.specs.Bytes.{FreeOf, begins_by, begins_with, colon, slash, left_bracket, percent_sign, is_path_start, is_any_slash}
use Rattle.git_syntax.specs.Escapes.{matches, password_set, path_set, user_set}
use Rattle.git_syntax.specs.AddressTest.{is_ipv6_text}
use Rattle.git_syntax.specs.Internal.LengthChecks.{is_in_time, is_skipped, starts_within, without_slashes}
use Rattle.git_syntax.specs.Schemes.{scheme_text, requires_path, is_web_scheme}
use Rattle.git_syntax.specs.Hosts.{port_part}
use Rattle.git_location.specs.Settled.{HasFittingText}
use Rattle.git_location.specs.Internal.SettledPieces.{IsRootedWithoutUser, IsShortHost}
use Rattle.git_location.specs.Text.{keeps_host, open_host, needs_brackets, host_part, canonical_path, canonical_text, matching_or, plain_path, text, user_information}
use Rattle.git_syntax.proofs.Parsing.LengthLemmas.{fits_tested, other_left_in, without_shorter}
use Rattle.git_location.proofs.Writing.LongestLemmas.{host_longest, port_longest}

-- the text begins with a byte that counts
abbrev pub BeginsAuthority : List ℕ → Type 0
BeginsAuthority t = (x : ℕ) × (xs : List ℕ) × (t ≡ x ∷ xs) × (is_skipped x ≡ false)

begins_cut : (c : ℕ) (t : List ℕ) → begins_with c t ≡ true → (r : List ℕ) × (t ≡ c ∷ r)
begins_cut c [] h = absurd (false≢true h)
begins_cut c (b ∷ bs) h = (bs, ap (λ x. x ∷ bs) (grind (arith, nat_tests)))

-- a byte that counts is written as it is, or as an escape
escapes_begin : (set : AsciiSet) (b : ℕ) (bs : List ℕ) → is_skipped b ≡ false → BeginsAuthority (percent_encode set (b ∷ bs))
unfolding percent_encode_byte
escapes_begin set b bs counts =
    elim (cases_Bool (should_percent_encode set b)) [
      | inl escaped ↦ (percent_sign, _, percent_encode_escaped set b bs escaped, refl)
      | inr kept ↦ (b, percent_encode set bs, percent_encode_kept set b bs kept, counts)
    ]

open_begins : (scheme : Scheme) (b : ℕ) (bs : List ℕ) → is_skipped b ≡ false → BeginsAuthority (open_host scheme (b ∷ bs))
open_begins scheme b bs counts =
    cond_both (keeps_host scheme) _ _ BeginsAuthority (λ kept. (b, bs, refl, counts))
    (λ other. cond_both (is_ipv6_text (b ∷ bs)) _ _ BeginsAuthority (λ address. escapes_begin password_set b bs counts) (λ name. escapes_begin user_set b bs counts))

pub host_begins : (v : Location) (b : ℕ) (bs : List ℕ) → is_skipped b ≡ false → BeginsAuthority (host_part v (Some (b ∷ bs)))
host_begins v b bs counts =
    cond_both (needs_brackets v.port (b ∷ bs)) _ _ BeginsAuthority (λ needed. (left_bracket, _, refl, refl)) (λ unneeded. open_begins v.scheme b bs counts)

escaped_begins : (path : List ℕ) → begins_with slash path ≡ true → begins_with slash (percent_encode path_set path) ≡ true
unfolding should_percent_encode
escaped_begins path rooted =
    let (rest, is) = begins_cut slash path rooted in
    ap (λ p. begins_with slash (percent_encode path_set p)) is ∙ ap (begins_with slash) (percent_encode_kept path_set slash rest refl)

plain_begins : (scheme : Scheme) (path : List ℕ) → begins_with slash path ≡ true → begins_with slash (plain_path scheme path) ≡ true
plain_begins http path rooted = escaped_begins path rooted
plain_begins https path rooted = escaped_begins path rooted
plain_begins file path rooted = rooted
plain_begins git path rooted = rooted
plain_begins ssh path rooted = rooted
plain_begins ext path rooted = rooted
plain_begins (helper name) path rooted = rooted
plain_begins (helper_url name) path rooted = rooted

matching_begins : (spelling : Option (List ℕ)) (path other : List ℕ) → IfSome spelling (λ s. begins_with slash s ≡ true) → begins_with slash other ≡ true → begins_with slash (matching_or spelling path other) ≡ true
matching_begins None path other spelled plain = plain
matching_begins (Some s) path other spelled plain =
    cond_both (matches (Some s) path) s other (λ t. begins_with slash t ≡ true) (λ match. spelled) (λ none. plain)

-- a path that starts in time
starts_found : (web : Bool) (n : ℕ) (front rest : List ℕ) → length front < n → list_any (is_path_start web) (take n (front ++ slash ∷ rest)) ≡ true
starts_found web zero front rest few = absurd (omega (arith, few))
starts_found web (suc n) [] rest few = refl
starts_found web (suc n) (b ∷ bs) rest few = or_right (is_path_start web b) _ (starts_found web n bs rest (omega (arith, few)))

starts_soon : (web : Bool) (x : ℕ) (xs rest : List ℕ) → is_skipped x ≡ false → length xs < 1024 → is_in_time web Slashes (x ∷ (xs ++ slash ∷ rest)) ≡ true
starts_soon web x xs rest counts few =
    let parts = or_parts (is_any_slash x) (is_ascii_whitespace x) counts in
    let all = xs ++ slash ∷ rest in
    let left : without_white_space (x ∷ all) ≡ x ∷ without_white_space all = other_left_in x all parts.1 in
    let cut : without_white_space all ≡ without_white_space xs ++ slash ∷ without_white_space rest = filter-append (λ b. not (is_ascii_whitespace b)) xs (slash ∷ rest) in
    let found = starts_found web 1024 (without_white_space xs) (without_white_space rest) (omega (arith, few, without_shorter xs)) in
    let soon : list_any (is_path_start web) (take 1024 (without_white_space all)) ≡ true = ap (λ t. list_any (is_path_start web) (take 1024 t)) cut ∙ found in
    ap (λ t. starts_within web 1025 (without_slashes t)) left ∙ rw parts.0 (or_right (is_path_start web x) _ soon)

-- the path is written with a `/` first if it begins with one, and its spelling does
path_begins : (v : Location) → begins_with slash v.path ≡ true → IfSome v.spelling (λ s. begins_with slash s ≡ true) → begins_with slash (canonical_path v) ≡ true
path_begins v rooted spelled =
    let plain : begins_with slash (plain_path v.scheme v.path) ≡ true = plain_begins v.scheme v.path rooted in
    let matching = matching_begins v.spelling v.path (plain_path v.scheme v.path) spelled plain in
    cond_both (requires_path v.scheme && not (begins_with slash v.path)) (slash ∷ []) [] (λ t. begins_with slash (t ++ matching_or v.spelling v.path (plain_path v.scheme v.path)) ≡ true)
    (λ needed. refl) (λ other. matching)

host_cut : (t : List ℕ) → 0 < length t → begins_by is_skipped t ≡ false → (b : ℕ) × (bs : List ℕ) × (t ≡ b ∷ bs) × (is_skipped b ≡ false)
host_cut [] some counts = absurd (omega (arith, some))
host_cut (b ∷ bs) some counts = (b, bs, refl, counts)

-- a URL without a user, whose host begins with a byte that counts and whose path begins with a `/`
pub soon_fits : (v : Location) (host : List ℕ) → FreeOf colon (scheme_text v.scheme) → text v ≡ Ok (canonical_text v) → IfSome v.port (λ p. p < 65536) → IsRootedWithoutUser v → length (scheme_text v.scheme) ≤ 1024
    → v.host ≡ Some host → IsShortHost host → HasFittingText v
soon_fits v host free canonical small rooted scheme_short is short =
    let (b, bs, host_cut_is, counts) = host_cut host short.0 short.1 in
    let (r, begins) = begins_cut slash (canonical_path v) (path_begins v rooted.1 rooted.2) in
    let (x, xs, begun, counted) = host_begins v b bs counts in
    let host_is : host_part v (Some host) ≡ x ∷ xs = ap (λ t. host_part v (Some t)) host_cut_is ∙ begun in
    let port = port_part v.port in
    let host_few = host_longest v (Some host) in
    let port_few = port_longest v.port small in
    let host_len : length (host_part v (Some host)) ≡ length (x ∷ xs) = ap length host_is in
    let front_len = length-append xs port in
    let rest = user_information v.user v.password ++ (host_part v v.host ++ (port ++ canonical_path v)) in
    let rest_is : rest ≡ x ∷ ((xs ++ port) ++ slash ∷ r) =
    ap (λ u. user_information u v.password ++ (host_part v v.host ++ (port ++ canonical_path v))) rooted.0
    ∙ ap (λ h. host_part v h ++ (port ++ canonical_path v)) is
    ∙ ap (λ h. h ++ (port ++ canonical_path v)) host_is
    ∙ ap (λ t. x ∷ (xs ++ (port ++ t))) begins
    ∙ ap (λ t. x ∷ t) (sym (append_assoc xs port (slash ∷ r))) in
    let scheme = scheme_text v.scheme in
    let in_time = starts_soon (is_web_scheme scheme) x (xs ++ port) r counted (omega (arith, host_few, port_few, host_len, front_len, short.2)) in
    let fits : Fits scheme rest = (fits_tested scheme rest scheme_short).0 (or_right _ _ (ap (is_in_time (is_web_scheme scheme) Slashes) rest_is ∙ in_time)) in
    (canonical_text v, canonical, record { scheme = scheme; rest = rest; no_colon = free; joined = refl; fits = fits })
