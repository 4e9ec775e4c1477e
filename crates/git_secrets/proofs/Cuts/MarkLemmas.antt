-- Positions of marks: a mark that is found after a place is found in the text, if none was found before it.
use Rattle.std.proofs.Common.{◌≡◌, ◌∙◌, ℕ, ◌+◌, ◌<◌, Bool, true, false, if◌then◌else◌, List, [], ◌∷◌, length, drop, get_or, Option, Some, None, option_map, refl, sym, ap, subst, arith, zero, suc}
use Rattle.std.proofs.Math.Seq.{drop-cons, drop-length}
use Rattle.git_secrets.specs.declared.mark.Mark.{Mark}
use Rattle.git_secrets.specs.Secrets.{begins_as, first_mark, last_mark, later_mark}

-- a byte and the text after it
pub cut_at : (text : List ℕ) (n : ℕ) → n < length text → drop n text ≡ get_or text n 0 ∷ drop (n + 1) text
cut_at text n within = drop-cons text n 0 within ∙ ap (λ k. get_or text n 0 ∷ drop k text) {x = suc n} (omega arith)

-- the place of a first mark, if so many bytes are before the text that it was found in
abbrev pub place_after : ℕ → Option ℕ → Option ℕ
place_after n found = option_map (λ k. k + n) found

-- no mark is in the bytes before a place, which are passed
abbrev pub Passed : Mark → List ℕ → ℕ → Type 0
Passed m text n = first_mark m text ≡ place_after n (first_mark m (drop n text))

-- before no byte the place is the same
pub none_before : (found : Option ℕ) → found ≡ place_after 0 found
none_before None = refl
none_before (Some k) = ap Some (omega arith)

-- after one byte more
pub one_more : (n : ℕ) (found : Option ℕ) → place_after n (option_map (λ k. k + 1) found) ≡ place_after (n + 1) found
one_more n None = refl
one_more n (Some k) = ap Some (omega arith)

-- nothing is before the first byte
pub passed_none : (m : Mark) (text : List ℕ) → Passed m text 0
passed_none m text = none_before (first_mark m text)

-- the first mark is after the first byte, if none begins there
pub first_step : (m : Mark) (b : ℕ) (bs : List ℕ) → begins_as m (b ∷ bs) ≡ false → first_mark m (b ∷ bs) ≡ option_map (λ k. k + 1) (first_mark m bs)
first_step m b bs begins = ap (λ (t : Bool). if t then Some 0 else option_map (λ k. k + 1) (first_mark m bs)) begins

-- the first mark begins at the first byte
pub first_here : (m : Mark) (b : ℕ) (bs : List ℕ) → begins_as m (b ∷ bs) ≡ true → first_mark m (b ∷ bs) ≡ Some 0
first_here m b bs begins = ap (λ (t : Bool). if t then Some 0 else option_map (λ k. k + 1) (first_mark m bs)) begins

-- a byte at which no mark begins is passed
pub passed_more : (m : Mark) (text : List ℕ) (n : ℕ) → n < length text → begins_as m (drop n text) ≡ false → Passed m text n → Passed m text (n + 1)
passed_more m text n within begins passed =
    let cut : drop n text ≡ get_or text n 0 ∷ drop (n + 1) text = cut_at text n within in
    let here : begins_as m (get_or text n 0 ∷ drop (n + 1) text) ≡ false = subst (λ t. begins_as m t ≡ false) cut begins in
    passed ∙ ap (λ t. place_after n (first_mark m t)) cut ∙ ap (place_after n) (first_step m _ _ here) ∙ one_more n (first_mark m (drop (n + 1) text))

-- the first mark is the one that begins at a place, if no mark begins before it
pub passed_here : (m : Mark) (text : List ℕ) (n : ℕ) → n < length text → begins_as m (drop n text) ≡ true → Passed m text n → Some n ≡ first_mark m text
passed_here m text n within begins passed =
    let cut : drop n text ≡ get_or text n 0 ∷ drop (n + 1) text = cut_at text n within in
    let here : begins_as m (get_or text n 0 ∷ drop (n + 1) text) ≡ true = subst (λ t. begins_as m t ≡ true) cut begins in
    sym (passed ∙ ap (λ t. place_after n (first_mark m t)) cut ∙ ap (place_after n) (first_here m _ _ here) ∙ ap Some (omega arith))

-- there is none, if all is passed
pub passed_all : (m : Mark) (text : List ℕ) (n : ℕ) → n ≡ length text → Passed m text n → None ≡ first_mark m text
passed_all m text n all passed =
    let rest : drop n text ≡ [] = ap (λ k. drop k text) all ∙ drop-length text in
    sym (passed ∙ ap (λ t. place_after n (first_mark m t)) rest)

-- ---- the last

last_none : (m : Mark) (b : ℕ) (bs : List ℕ) → last_mark m bs ≡ None → begins_as m (b ∷ bs) ≡ false → last_mark m (b ∷ bs) ≡ None
last_none m b bs none begins = ap (λ t. later_mark t (begins_as m (b ∷ bs))) none ∙ ap (later_mark None) begins

last_here : (m : Mark) (b : ℕ) (bs : List ℕ) → last_mark m bs ≡ None → begins_as m (b ∷ bs) ≡ true → last_mark m (b ∷ bs) ≡ Some 0
last_here m b bs none begins = ap (λ t. later_mark t (begins_as m (b ∷ bs))) none ∙ ap (later_mark None) begins

-- no mark is after the last byte
pub none_at_end : (m : Mark) (text : List ℕ) → last_mark m (drop (length text) text) ≡ None
none_at_end m text = ap (last_mark m) (drop-length text)

-- no mark begins at a byte, nor after it
pub none_from : (m : Mark) (text : List ℕ) (n next : ℕ) → n < length text → n + 1 ≡ next → begins_as m (drop n text) ≡ false → last_mark m (drop next text) ≡ None → last_mark m (drop n text) ≡ None
none_from m text n next within step begins suffix =
    let none : last_mark m (drop (n + 1) text) ≡ None = ap (λ k. last_mark m (drop k text)) step ∙ suffix in
    let cut : drop n text ≡ get_or text n 0 ∷ drop (n + 1) text = cut_at text n within in
    let here : begins_as m (get_or text n 0 ∷ drop (n + 1) text) ≡ false = subst (λ t. begins_as m t ≡ false) cut begins in
    ap (last_mark m) cut ∙ last_none m _ _ none here

-- a mark that is the last after a place is the last in the text
moved_on : (m : Mark) (text : List ℕ) (n k : ℕ) → last_mark m (drop n text) ≡ Some k → last_mark m text ≡ Some (n + k)
moved_on m [] zero k found = found ∙ ap Some (omega arith)
moved_on m [] (suc n) k found = cc
moved_on m (b ∷ bs) zero k found = found ∙ ap Some (omega arith)
moved_on m (b ∷ bs) (suc n) k found = ap (λ t. later_mark t (begins_as m (b ∷ bs))) (moved_on m bs n k found) ∙ ap Some (omega arith)

-- the last mark is the one that begins at a place, if none is after it
pub last_found : (m : Mark) (text : List ℕ) (n next : ℕ) → n < length text → n + 1 ≡ next → begins_as m (drop n text) ≡ true → last_mark m (drop next text) ≡ None → Some n ≡ last_mark m text
last_found m text n next within step begins suffix =
    let none : last_mark m (drop (n + 1) text) ≡ None = ap (λ k. last_mark m (drop k text)) step ∙ suffix in
    let cut : drop n text ≡ get_or text n 0 ∷ drop (n + 1) text = cut_at text n within in
    let here : begins_as m (get_or text n 0 ∷ drop (n + 1) text) ≡ true = subst (λ t. begins_as m t ≡ true) cut begins in
    sym (moved_on m text n 0 (ap (last_mark m) cut ∙ last_here m _ _ none here) ∙ ap Some (omega arith))

-- there is none, if none is after the front
pub none_is_last : (m : Mark) (text : List ℕ) (n : ℕ) → n ≡ 0 → last_mark m (drop n text) ≡ None → None ≡ last_mark m text
none_is_last m text n front none = sym (ap (λ k. last_mark m (drop k text)) (sym front) ∙ none)
