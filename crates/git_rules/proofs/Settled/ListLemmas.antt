-- Lists that are cut at an element, and lists of numbers in ascending order.
use Rattle.std.proofs.Common.{◌≡◌, ℕ, zero, suc, ◌+◌, ◌<◌, ◌≤◌, ◌⊎◌, ◌↔◌, inl, inr, List, [], ◌∷◌, ◌++◌, length, refl, sym, ap, subst, ◌∙◌, arith, Contains}
use Rattle.std.specs.List.{AllPairs}
use Rattle.std.specs.List.Sorted.{IsStrictlyIncreasing}

-- ---- cuts

head_same : {T : Type 0} (x y : T) (xs ys : List T) → x ∷ xs ≡ y ∷ ys → x ≡ y
head_same x y xs ys e = cc

pub tail_same : {T : Type 0} (x y : T) (xs ys : List T) → x ∷ xs ≡ y ∷ ys → xs ≡ ys
tail_same x y xs ys e = cc

-- an element with a place in the front of a list is cut out of the front
pub in_front : {T : Type 0} (a b done more : List T) (x : T) → done ++ more ≡ a ++ x ∷ b → length a < length done → (c : List T) × (done ≡ a ++ x ∷ c)
in_front a b [] more x e short = absurd (omega arith)
in_front [] b (d ∷ done) more x e short = (done, ap (λ z. z ∷ done) (head_same d x (done ++ more) b e))
in_front (y ∷ a) b (d ∷ done) more x e short =
    let rest = in_front a b done more x (tail_same d y (done ++ more) (a ++ x ∷ b) e) (omega arith) in
    (rest.0, ap (λ z. z ∷ done) (head_same d y (done ++ more) (a ++ x ∷ b) e) ∙ ap (λ z. y ∷ z) rest.1)

-- an element after a front is the one that is there
pub at_seam : {T : Type 0} (a b done more : List T) (x t : T) → done ++ t ∷ more ≡ a ++ x ∷ b → length a ≡ length done → (a ≡ done) × (x ≡ t)
at_seam [] b [] more x t e same = (refl, sym (head_same t x more b e))
at_seam [] b (d ∷ done) more x t e same = absurd (omega arith)
at_seam (y ∷ a) b [] more x t e same = absurd (omega arith)
at_seam (y ∷ a) b (d ∷ done) more x t e same =
    let rest = at_seam a b done more x t (tail_same d y (done ++ t ∷ more) (a ++ x ∷ b) e) (omega arith) in
    (ap (λ z. z ∷ a) (sym (head_same d y (done ++ t ∷ more) (a ++ x ∷ b) e)) ∙ ap (λ z. d ∷ z) rest.0, rest.1)

-- ---- numbers in ascending order

-- each number is below those after it
abbrev pub IsAscending : List ℕ → Type 0
IsAscending xs = AllPairs (λ x y. x < y) xs

pub increasing_from_ascending : (xs : List ℕ) → IsAscending xs → IsStrictlyIncreasing xs
increasing_from_ascending xs h = λ k within. h k (k + 1) 0 (omega arith) within

ascending_tail : (x : ℕ) (xs : List ℕ) → IsAscending (x ∷ xs) → IsAscending xs
ascending_tail x xs h = λ i j d below within. h (suc i) (suc j) d (omega arith) (omega arith)

below_rest : (x : ℕ) (xs : List ℕ) → IsAscending (x ∷ xs) → (i : ℕ) → Contains xs i → x < i
below_rest x xs h i (k, within, is) = subst (λ z. x < z) is (h zero (suc k) i (omega arith) (omega arith))

head_contained : (x : ℕ) (xs : List ℕ) → Contains (x ∷ xs) x
head_contained x xs = (0, omega arith, refl)

rest_contained : (x : ℕ) (xs : List ℕ) (i : ℕ) → Contains xs i → Contains (x ∷ xs) i
rest_contained x xs i (k, within, is) = (suc k, omega arith, is)

contained_cases : (x : ℕ) (xs : List ℕ) (i : ℕ) → Contains (x ∷ xs) i → (x ≡ i) ⊎ Contains xs i
contained_cases x xs i (zero, within, is) = inl is
contained_cases x xs i (suc k, within, is) = inr (k, omega arith, is)

pub none_contained : (i : ℕ) → Contains [] i → ⊥
none_contained i (k, within, is) = omega arith

-- the first of a list is not above an element of it
least : (x : ℕ) (xs : List ℕ) (i : ℕ) → IsAscending (x ∷ xs) → Contains (x ∷ xs) i → x ≤ i
least x xs i h there = elim (contained_cases x xs i there) [
  | inl same ↦ omega (arith, same)
  | inr rest ↦ let below = below_rest x xs h i rest in omega (arith, below)
]

-- an element of a list is one of the rest of another list that has the same ones
moved : (x y : ℕ) (xs ys : List ℕ) (i : ℕ) → x ≡ y → IsAscending (x ∷ xs) → (Contains (x ∷ xs) i → Contains (y ∷ ys) i) → Contains xs i → Contains ys i
moved x y xs ys i same h to there = elim (contained_cases y ys i (to (rest_contained x xs i there))) [
  | inl first ↦ let below = below_rest x xs h i there in absurd (omega (arith, same, first, below))
  | inr rest ↦ rest
]

-- two lists in ascending order with the same elements are equal
pub same_ascending : (xs ys : List ℕ) → IsAscending xs → IsAscending ys → ((i : ℕ) → Contains xs i ↔ Contains ys i) → xs ≡ ys
same_ascending [] [] h k same = refl
same_ascending [] (y ∷ ys) h k same = absurd (none_contained y ((same y).1 (head_contained y ys)))
same_ascending (x ∷ xs) [] h k same = absurd (none_contained x ((same x).0 (head_contained x xs)))
same_ascending (x ∷ xs) (y ∷ ys) h k same =
    let low : x ≤ y = least x xs y h ((same y).1 (head_contained y ys)) in
    let high : y ≤ x = least y ys x k ((same x).0 (head_contained x xs)) in
    let first : x ≡ y = omega (arith, low, high) in
    let rest : xs ≡ ys = same_ascending xs ys (ascending_tail x xs h) (ascending_tail y ys k) (λ i. (moved x y xs ys i first h (same i).0, moved y x ys xs i (sym first) k (same i).1)) in
    ap (λ z. z ∷ xs) first ∙ ap (λ z. y ∷ z) rest
