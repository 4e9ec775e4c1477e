-- Lists that are compared element by element.
use Rattle.std.proofs.Common.{◌≡◌, ◌∙◌, ◌<◌, ◌≤◌, ◌+◌, ℕ, suc, Bool, true, ◌&&◌, List, [], ◌∷◌, map, length, drop, get_or, refl, sym, ap, add-one}
use Rattle.std.specs.Cmp.Lexicographic.{pointwise}
use Rattle.std.proofs.Math.Seq.{drop-cons}
use Rattle.std.proofs.lemmas.List.{drop_all}

-- views are equal if the elements are equal by their views
pub pointwise_map : {A B : Type 0} (E : B → B → Bool) (f : A → B) (xs ys : List A) → pointwise E (map f xs) (map f ys) ≡ pointwise (λ x y. E (f x) (f y)) xs ys
pointwise_map E f [] [] = refl
pointwise_map E f [] (y ∷ ys) = refl
pointwise_map E f (x ∷ xs) [] = refl
pointwise_map E f (x ∷ xs) (y ∷ ys) = ap (λ b. E (f x) (f y) && b) (pointwise_map E f xs ys)

-- at an index the first elements of the rests decide, and then the rests after them
pub pointwise_step : {A : Type 0} (E : A → A → Bool) (xs ys : List A) (i : ℕ) (x y : A) → i < length xs → i < length ys → x ≡ get_or xs i x → y ≡ get_or ys i y → pointwise E (drop i xs) (drop i ys) ≡ (E x y && pointwise E (drop (i + 1) xs) (drop (i + 1) ys))
pointwise_step E xs ys i x y k l e h =
    let one : drop i xs ≡ x ∷ drop (i + 1) xs = rw add-one (drop-cons xs i x k ∙ ap (λ z. z ∷ drop (suc i) xs) (sym e)) in
    let other : drop i ys ≡ y ∷ drop (i + 1) ys = rw add-one (drop-cons ys i y l ∙ ap (λ z. z ∷ drop (suc i) ys) (sym h)) in
    ap (λ zs. pointwise E zs (drop i ys)) one ∙ ap (λ zs. pointwise E (x ∷ drop (i + 1) xs) zs) other

-- past both ends nothing is left to differ
pub pointwise_end : {A : Type 0} (E : A → A → Bool) (xs ys : List A) (i : ℕ) → length xs ≤ i → length ys ≤ i → pointwise E (drop i xs) (drop i ys) ≡ true
pointwise_end E xs ys i k l = ap (λ zs. pointwise E zs (drop i ys)) (drop_all i xs k) ∙ ap (λ zs. pointwise E [] zs) (drop_all i ys l)
