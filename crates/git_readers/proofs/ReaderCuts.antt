-- How texts are cut that hold the byte of a cut once.
use Rattle.std.proofs.Common.{◌≡◌, ◌∙◌, ℕ, Bool, true, false, ◌==◌, List, [], ◌∷◌, ◌++◌, Some, None, codes, inl, inr, refl, sym, ap, arith}
use Rattle.std.proofs.lemmas.Bool.{cases_Bool, cond-true, cond-false, and_left, eq-eqb, or_right}
use Rattle.git_syntax.specs.Bytes.{colon, Lacks, FreeOf}
use Rattle.git_syntax.proofs.Texts.CutLemmas.{free_head_tail, lacks_head_tail}
use Rattle.git_location.specs.Settled.{begins_with_slashes}
use Rattle.git_readers.specs.Readers.{Which, begins_mark, cut, cut_first, cut_last, from, holds_mark, later_or, until, with_front}
use Rattle.git_readers.specs.Readers.Which.{first, last}

-- ---- tests

-- a text without a byte of the test is before the first one
pub until_cut : (test : ℕ → Bool) (a : List ℕ) (b : ℕ) (x : List ℕ) → Lacks test a → test b ≡ true → until test (a ++ b ∷ x) ≡ a
until_cut test [] b x lacks hit = cond-true _ _ _ hit
until_cut test (d ∷ a) b x lacks hit =
    let parts = lacks_head_tail test d a lacks in
    cond-false _ _ _ parts.0 ∙ ap (λ y. d ∷ y) (until_cut test a b x parts.1 hit)

-- and the rest begins with that byte
pub from_cut : (test : ℕ → Bool) (a : List ℕ) (b : ℕ) (x : List ℕ) → Lacks test a → test b ≡ true → from test (a ++ b ∷ x) ≡ b ∷ x
from_cut test [] b x lacks hit = cond-true _ _ _ hit
from_cut test (d ∷ a) b x lacks hit =
    let parts = lacks_head_tail test d a lacks in
    cond-false _ _ _ parts.0 ∙ from_cut test a b x parts.1 hit

-- a text without one is whole
pub until_whole : (test : ℕ → Bool) (a : List ℕ) → Lacks test a → until test a ≡ a
until_whole test [] lacks = refl
until_whole test (d ∷ a) lacks =
    let parts = lacks_head_tail test d a lacks in
    cond-false _ _ _ parts.0 ∙ ap (λ y. d ∷ y) (until_whole test a parts.1)

-- and nothing follows
pub from_whole : (test : ℕ → Bool) (a : List ℕ) → Lacks test a → from test a ≡ []
from_whole test [] lacks = refl
from_whole test (d ∷ a) lacks =
    let parts = lacks_head_tail test d a lacks in
    cond-false _ _ _ parts.0 ∙ from_whole test a parts.1

-- the text before the byte and the text from it on are the whole
pub until_from : (test : ℕ → Bool) (t : List ℕ) → t ≡ until test t ++ from test t
until_from test [] = refl
until_from test (b ∷ bs) = elim (cases_Bool (test b)) [
  | inl hit ↦ sym (ap (λ x. x ++ from test (b ∷ bs)) (cond-true _ _ _ hit) ∙ cond-true _ _ _ hit)
  | inr miss ↦
      let split : until test (b ∷ bs) ++ from test (b ∷ bs) ≡ b ∷ (until test bs ++ from test bs) =
      ap (λ x. x ++ from test (b ∷ bs)) (cond-false _ _ _ miss) ∙ ap (λ x. (b ∷ until test bs) ++ x) (cond-false _ _ _ miss) in
      ap (λ x. b ∷ x) (until_from test bs) ∙ sym split
]

-- ---- one byte

-- a byte is itself
same : (c : ℕ) → (c == c) ≡ true
same c = eq-eqb c c refl

-- a text is cut at the one c, be it taken for the first or the last
pub cut_first_at : (c : ℕ) (a b : List ℕ) → FreeOf c a → cut_first c (a ++ c ∷ b) ≡ Some (a, b)
cut_first_at c [] b free = cond-true _ _ _ (same c)
cut_first_at c (d ∷ a) b free =
    let parts = free_head_tail c d a free in
    cond-false _ _ _ parts.0 ∙ ap (λ x. with_front d x) (cut_first_at c a b parts.1)

pub cut_first_none : (c : ℕ) (t : List ℕ) → FreeOf c t → cut_first c t ≡ None
cut_first_none c [] free = refl
cut_first_none c (d ∷ t) free =
    let parts = free_head_tail c d t free in
    cond-false _ _ _ parts.0 ∙ ap (λ x. with_front d x) (cut_first_none c t parts.1)

pub cut_last_none : (c : ℕ) (t : List ℕ) → FreeOf c t → cut_last c t ≡ None
cut_last_none c [] free = refl
cut_last_none c (d ∷ t) free =
    let parts = free_head_tail c d t free in
    ap (λ x. later_or c d t x) (cut_last_none c t parts.1) ∙ cond-false _ _ _ parts.0

pub cut_last_at : (c : ℕ) (a b : List ℕ) → FreeOf c b → cut_last c (a ++ c ∷ b) ≡ Some (a, b)
cut_last_at c [] b free = ap (λ x. later_or c c b x) (cut_last_none c b free) ∙ cond-true _ _ _ (same c)
cut_last_at c (d ∷ a) b free = ap (λ x. later_or c d (a ++ c ∷ b) x) (cut_last_at c a b free)

pub cut_at : (w : Which) (c : ℕ) (a b : List ℕ) → FreeOf c a → FreeOf c b → cut w c (a ++ c ∷ b) ≡ Some (a, b)
cut_at first c a b before suffix = cut_first_at c a b before
cut_at last c a b before suffix = cut_last_at c a b suffix

-- a text without c isn't cut
pub cut_none : (w : Which) (c : ℕ) (t : List ℕ) → FreeOf c t → cut w c t ≡ None
cut_none first c t free = cut_first_none c t free
cut_none last c t free = cut_last_none c t free

-- ---- the mark of a URL

-- a text with `://` in it holds the mark
pub mark_held : (a x : List ℕ) → holds_mark (a ++ (codes "://" ++ x)) ≡ true
mark_held [] x = refl
mark_held (b ∷ a) x = or_right _ _ (mark_held a x)

-- a byte that isn't a colon begins no mark
other_begins : (b : ℕ) (bs : List ℕ) → (b == colon) ≡ false → begins_mark (b ∷ bs) ≡ false
other_begins b bs other = and_left _ _ other

-- a text without a colon holds none
pub no_mark : (t : List ℕ) → FreeOf colon t → holds_mark t ≡ false
no_mark [] free = refl
no_mark (b ∷ bs) free =
    let parts = free_head_tail colon b bs free in
    rw (other_begins b bs parts.0) (no_mark bs parts.1)

-- nor does one whose only colon isn't followed by two slashes
pub no_mark_at : (a p : List ℕ) → FreeOf colon a → FreeOf colon p → begins_mark (colon ∷ p) ≡ false → holds_mark (a ++ colon ∷ p) ≡ false
no_mark_at [] p free suffix none = rw none (no_mark p suffix)
no_mark_at (b ∷ a) p free suffix none =
    let parts = free_head_tail colon b a free in
    rw (other_begins b (a ++ colon ∷ p) parts.0) (no_mark_at a p parts.1 suffix none)

-- a path that doesn't begin with two slashes doesn't make a mark of the colon before it
pub slashes_mark : (p : List ℕ) → begins_with_slashes p ≡ false → begins_mark (colon ∷ p) ≡ false
slashes_mark [] none = refl
slashes_mark (a ∷ []) none = grind arith
slashes_mark (a ∷ b ∷ rest) none = grind arith
