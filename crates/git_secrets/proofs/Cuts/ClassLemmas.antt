-- Positions of bytes of a class: a byte that is found after a place is found in the text, if none was found
-- before it.
use Rattle.std.proofs.Common.{◌≡◌, ◌∙◌, ℕ, ◌+◌, ◌<◌, Bool, true, false, if◌then◌else◌, List, ◌∷◌, length, drop, get_or, Some, None, option_map, sym, ap, arith}
use Rattle.std.proofs.Math.Seq.{drop-length}
use Rattle.git_secrets.specs.declared.mark.Class.{Class}
use Rattle.git_secrets.specs.Secrets.{first_of, is_of}
use Rattle.git_secrets.proofs.Cuts.MarkLemmas.{cut_at, none_before, one_more, place_after}

-- no byte of the class is before a place, which are passed
abbrev pub Passed : Class → List ℕ → ℕ → Type 0
Passed c text n = first_of c text ≡ place_after n (first_of c (drop n text))

-- nothing is before the first byte
pub passed_none : (c : Class) (text : List ℕ) → Passed c text 0
passed_none c text = none_before (first_of c text)

-- the first byte of the class, by whether the first byte of the text is one
pub first_by : (c : Class) (b : ℕ) (bs : List ℕ) (is : Bool) → is_of c b ≡ is → first_of c (b ∷ bs) ≡ (if is then Some 0 else option_map (λ k. k + 1) (first_of c bs))
first_by c b bs is e = ap (λ (t : Bool). if t then Some 0 else option_map (λ k. k + 1) (first_of c bs)) e

-- a byte that is none is passed
pub passed_more : (c : Class) (text : List ℕ) (n : ℕ) → n < length text → is_of c (get_or text n 0) ≡ false → Passed c text n → Passed c text (n + 1)
passed_more c text n within is passed =
    passed ∙ ap (λ t. place_after n (first_of c t)) (cut_at text n within) ∙ ap (place_after n) (first_by c _ _ false is) ∙ one_more n (first_of c (drop (n + 1) text))

-- the first one is here, if all before it is passed
pub passed_here : (c : Class) (text : List ℕ) (n : ℕ) → n < length text → is_of c (get_or text n 0) ≡ true → Passed c text n → Some n ≡ first_of c text
passed_here c text n within is passed =
    sym (passed ∙ ap (λ t. place_after n (first_of c t)) (cut_at text n within) ∙ ap (place_after n) (first_by c _ _ true is) ∙ ap Some (omega arith))

-- there is none, if all is passed
pub passed_all : (c : Class) (text : List ℕ) (n : ℕ) → n ≡ length text → Passed c text n → None ≡ first_of c text
passed_all c text n all passed =
    sym (passed ∙ ap (λ t. place_after n (first_of c t)) (ap (λ k. drop k text) all ∙ drop-length text))
