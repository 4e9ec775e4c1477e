-- The front of a URL: its first `://`, its scheme, and that it isn't a remote helper.
use Rattle.std.proofs.Common.{◌≡◌, ◌∙◌, ℕ, ◌+◌, ◌||◌, ◌==◌, Bool, true, false, if◌then◌else◌, List, [], ◌∷◌, ◌++◌, length, take, drop, codes, bytes_eq, Option, Some, None, option_map, refl, sym, ap, ap₂, subst, arith, append_assoc}
use Rattle.std.specs.Option.{unwrap_or}
use Rattle.std.specs.Cmp.{both_ways as same_tests}
use Rattle.std.proofs.lemmas.Bool.{both_ways, eq-eqb, false_from_ne_true}
use Rattle.std.proofs.lemmas.Bool.Decides.{Decides-eqb}
use Rattle.std.proofs.lemmas.Option.{same_Some, none-some}
use Rattle.std.proofs.lemmas.Slice.Eq.{bytes_eq-Decides, starts_is}
use Rattle.git_syntax.specs.Bytes.{FreeOf, colon, is_helper_name}
use Rattle.git_syntax.specs.Schemes.{is_web_scheme}
use Rattle.git_syntax.specs.Grammar.{HasHelperForm}
use Rattle.git_syntax.proofs.Texts.CutLemmas.{cut_unique, free_head_tail, heads}
use Rattle.git_secrets.specs.Tokens.{has_front}
use Rattle.git_secrets.specs.declared.mark.Mark.TheVariants as mark
use Rattle.git_secrets.specs.Secrets.{begins_as, first_mark, helper_end, helper_len, is_web, mark_end}
use Rattle.git_secrets.proofs.Cuts.CutLemmas.{one_less}
use Rattle.git_secrets.proofs.Cuts.MarkLemmas.{first_here, first_step}

-- a text with a front is the front and the rest
front_cut : (text front : List ℕ) → has_front text front ≡ true → text ≡ front ++ drop (length front) text
front_cut text front e = (starts_is Decides-eqb text front (has_front text front) refl).0 e

-- a text that begins so has the front
pub has_its_front : (front rest : List ℕ) → has_front (front ++ rest) front ≡ true
has_its_front front rest = (starts_is Decides-eqb (front ++ rest) front (has_front (front ++ rest) front) refl).1 rest refl

-- ---- the mark of a URL

-- no `://` begins at another byte than `:`
no_mark : (b : ℕ) (bs : List ℕ) → (b == colon) ≡ false → begins_as mark.Authority (b ∷ bs) ≡ false
no_mark b bs other =
    false_from_ne_true (begins_as mark.Authority (b ∷ bs)) (λ e. both_ways (b == colon) other (eq-eqb b colon (heads (front_cut (b ∷ bs) (codes "://") e))))

-- the first `://` is after a scheme
pub first_authority : (scheme rest : List ℕ) → FreeOf colon scheme → first_mark mark.Authority (scheme ++ (codes "://" ++ rest)) ≡ Some (length scheme)
first_authority [] rest free = first_here mark.Authority 58 (47 ∷ 47 ∷ rest) (has_its_front (codes "://") rest)
first_authority (b ∷ scheme) rest free =
    let parts = free_head_tail colon b scheme free in
    first_step mark.Authority b (scheme ++ (codes "://" ++ rest)) (no_mark b (scheme ++ (codes "://" ++ rest)) parts.0)
    ∙ ap (λ f. option_map (λ k. k + 1) f) (first_authority scheme rest parts.1) ∙ ap Some (omega arith)

-- ---- the scheme

-- a URL begins with a name and `://` exactly if the name is its scheme
front_is_scheme : (name scheme rest : List ℕ) → FreeOf colon name → FreeOf colon scheme → has_front (scheme ++ (codes "://" ++ rest)) (name ++ codes "://") ≡ bytes_eq scheme name
front_is_scheme name scheme rest free other =
    let text = scheme ++ (codes "://" ++ rest) in
    let front = name ++ codes "://" in
    same_tests (has_front text front) (bytes_eq scheme name)
    (λ e.
    let cut : text ≡ name ++ (codes "://" ++ drop (length front) text) = front_cut text front e ∙ append_assoc name (codes "://") (drop (length front) text) in
    (bytes_eq-Decides scheme name).1 (cut_unique colon scheme name (47 ∷ 47 ∷ rest) (47 ∷ 47 ∷ drop (length front) text) other free cut).0)
    (λ e.
    let same : scheme ≡ name = (bytes_eq-Decides scheme name).0 e in
    let whole : front ++ rest ≡ text = append_assoc name (codes "://") rest ∙ ap (λ s. s ++ (codes "://" ++ rest)) (sym same) in
    subst (λ t. has_front t front ≡ true) whole (has_its_front front rest))

-- a URL is one of HTTP by its scheme
pub web_by_scheme : (scheme rest : List ℕ) → FreeOf colon scheme → is_web (scheme ++ (codes "://" ++ rest)) ≡ is_web_scheme scheme
web_by_scheme scheme rest free =
    ap₂ (λ x y. x || y) (front_is_scheme (codes "http") scheme rest refl free) (front_is_scheme (codes "https") scheme rest refl free)

-- ---- remote helpers

-- the text around its first `::`
abbrev HelperPlace : List ℕ → ℕ → Type 0
HelperPlace text n = (rest : List ℕ) × (text ≡ take n text ++ colon ∷ (colon ∷ rest))

-- it is at the front, or in the text after the first byte
place_by : (b : ℕ) (bs : List ℕ) (is : Bool) (n : ℕ) → begins_as mark.Helper (b ∷ bs) ≡ is → ((k : ℕ) → first_mark mark.Helper bs ≡ Some k → HelperPlace bs k) → (if is then Some 0 else option_map (λ k. k + 1) (first_mark mark.Helper bs)) ≡ Some n → HelperPlace (b ∷ bs) n
place_by b bs true n e rest found =
    let front : 0 ≡ n = same_Some 0 n found in
    subst (HelperPlace (b ∷ bs)) front (drop 2 (b ∷ bs), front_cut (b ∷ bs) (codes "::") e)
place_by b bs false n e rest found =
    let less = one_less (first_mark mark.Helper bs) n found in
    let place = rest less.0 less.1 in
    subst (HelperPlace (b ∷ bs)) less.2 (place.0, ap (λ t. b ∷ t) place.1)

-- the text is cut around the first `::` that is found
helper_place : (text : List ℕ) (n : ℕ) → first_mark mark.Helper text ≡ Some n → HelperPlace text n
helper_place [] n found = absurd (none-some n found)
helper_place (b ∷ bs) n found = place_by b bs (begins_as mark.Helper (b ∷ bs)) n refl (λ k e. helper_place bs k e) found

-- the text before that `::` isn't a helper's name
len_by : (text : List ℕ) (found : Option ℕ) → ¬ HasHelperForm text → first_mark mark.Helper text ≡ found → unwrap_or (option_map (helper_end text) found) 0 ≡ 0
len_by text None none e = refl
len_by text (Some n) none e =
    let place = helper_place text n e in
    let other : is_helper_name (take n text) ≡ false = false_from_ne_true (is_helper_name (take n text)) (λ named. none (take n text, place.0, record { named = named; joined = place.1 })) in
    ap (λ (is : Bool). if is then mark_end mark.Helper text n else 0) other

-- a text that isn't a remote helper has no name of one at its front
pub no_helper_len : (text : List ℕ) → ¬ HasHelperForm text → helper_len text ≡ 0
no_helper_len text none = len_by text (first_mark mark.Helper text) none refl
