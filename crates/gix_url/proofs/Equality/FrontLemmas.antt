-- Bytes are the same if a front and a back that cover them are.
use Rattle.std.proofs.Common.{◌≡◌, ◌∙◌, ◌≤◌, ◌+◌, ◌-◌, ℕ, true, List, ◌++◌, take, drop, sym, ap, arith, bytes_eq, drop-drop}
use Rattle.std.specs.Bool.{one_answer}
use Rattle.std.specs.Cmp.Lexicographic.{bytes_decides}
use Rattle.std.proofs.lemmas.List.{take-append-drop}

-- the text after a front is determined by a back that begins within it
rest_reported : (n m : ℕ) (a b : List ℕ) → m ≤ n → drop m a ≡ drop m b → drop n a ≡ drop n b
rest_reported n m a b within backs =
    let at : m + (n - m) ≡ n = omega arith in
    let suffix : (l : List ℕ) → drop n l ≡ drop (n - m) (drop m l) = λ l. ap (λ k. drop k l) (sym at) ∙ sym (drop-drop (n - m) m l) in
    suffix a ∙ ap (drop (n - m)) backs ∙ sym (suffix b)

-- so bytes with the same front and the same back are the same
reported_by_both : (n m : ℕ) (a b : List ℕ) → m ≤ n → take n a ≡ take n b → drop m a ≡ drop m b → a ≡ b
reported_by_both n m a b within fronts backs =
    sym (take-append-drop n a) ∙ ap (λ l. l ++ drop n a) fronts ∙ ap (λ l. take n b ++ l) (rest_reported n m a b within backs) ∙ take-append-drop n b

-- if the fronts are the same, the backs decide
pub backs_decide : (n m : ℕ) (a b : List ℕ) {front other back last : List ℕ} → m ≤ n → front ≡ take n a → other ≡ take n b → back ≡ drop m a → last ≡ drop m b → bytes_eq front other ≡ true → bytes_eq back last ≡ bytes_eq a b
backs_decide n m a b {front} {other} {back} {last} within f g k l same =
    let fronts : take n a ≡ take n b = sym f ∙ (bytes_decides front other).0 same ∙ g in
    let reported : bytes_eq back last ≡ true → a ≡ b = λ e. reported_by_both n m a b within fronts (sym k ∙ (bytes_decides back last).0 e ∙ l) in
    let holds : a ≡ b → bytes_eq back last ≡ true = λ e. (bytes_decides back last).1 (k ∙ ap (drop m) e ∙ sym l) in
    one_answer (bytes_eq back last) (bytes_eq a b) (reported, holds) (bytes_decides a b)
