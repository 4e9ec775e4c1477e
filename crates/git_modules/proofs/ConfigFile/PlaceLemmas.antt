-- The lines before a place of a text.
use Rattle.std.proofs.Common.{◌≡◌, ℕ, ◌+◌, ◌-◌, ◌<◌, ◌≤◌, Bool, true, false, ◌&&◌, List, [], ◌∷◌, ◌++◌, ◌==◌, cond, length, take, drop, sym, ap, ◌∙◌, arith, count_by, length-drop}
use Rattle.std.proofs.Math.Seq.{take-add}
use Rattle.std.proofs.lemmas.List.Sums.{sum_by-append}
use Rattle.std.proofs.lemmas.List.{drop_all}
use Rattle.git_syntax.specs.Bytes.{newline, begins_with, carriage_return}
use Rattle.git_modules.specs.ConfigFileBytes.{unix_text, left_at}
use Rattle.git_modules.specs.ConfigFiles.{line_at}

-- the line feeds between two places are those by which their lines differ
pub lines_add : (text : List ℕ) (from to : ℕ) → from ≤ to → line_at text from + count_by (λ c. c == newline) (take (to - from) (drop from text)) ≡ line_at text to
lines_add text from to h =
    let e : from + (to - from) ≡ to = omega arith in
    let joined : take to text ≡ take from text ++ take (to - from) (drop from text) = ap (λ (k : ℕ). take k text) (sym e) ∙ take-add from (to - from) text in
    let counted = sum_by-append (λ (c : ℕ). cond (c == newline) 1 0) (take from text) (take (to - from) (drop from text)) in
    let same = ap (λ (t : List ℕ). count_by (λ c. c == newline) t) joined in
    omega (arith, counted, same)

-- one of two texts that aren't empty isn't empty
one_of_two : (b : Bool) (c : ℕ) (xs ys : List ℕ) → (xs ≡ [] → ⊥) → cond b xs (c ∷ ys) ≡ [] → ⊥
one_of_two true c xs ys f h = f h
one_of_two false c xs ys f h = cc

-- a byte is left of a byte
one_byte : (b : Bool) (c : ℕ) → cond (b && false) [] (c ∷ []) ≡ [] → ⊥
one_byte true c h = cc
one_byte false c h = cc

-- something is left of a text that isn't empty
unix_some : (c : ℕ) (rest : List ℕ) → unix_text (c ∷ rest) ≡ [] → ⊥
unix_some c [] h = one_byte (c == carriage_return) c h
unix_some c (d ∷ rest) h = one_of_two (c == carriage_return && begins_with newline (d ∷ rest)) c (unix_text (d ∷ rest)) (unix_text (d ∷ rest)) (unix_some d rest) h

some_left : (xs : List ℕ) → 0 < length xs → unix_text xs ≡ [] → ⊥
some_left [] h e = absurd (omega arith)
some_left (c ∷ rest) h e = unix_some c rest e

-- something is left before the end
pub left_some : (text : List ℕ) (at : ℕ) → at < length text → ¬ (left_at text at ≡ [])
left_some text at h = some_left (drop at text) (omega (arith, length-drop at text))

-- nothing is left at the end
pub left_none : (text : List ℕ) (at : ℕ) → length text ≤ at → left_at text at ≡ []
left_none text at h = ap unix_text (drop_all at text h)
