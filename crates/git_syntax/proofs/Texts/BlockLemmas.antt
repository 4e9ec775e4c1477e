-- Tests of all bytes of a text by those of its blocks.
use Rattle.std.proofs.Common.{◌≡◌, ◌↔◌, ◌∙◌, ◌≤◌, ◌+◌, ◌-◌, ◌&&◌, ℕ, Bool, true, false, List, ◌++◌, length, take, drop, refl, sym, ap, inl, inr, arith, take-add, drop-drop, length-drop}
use Rattle.std.specs.List.{list_all}
use Rattle.std.specs.Prelude.{IsTrue}
use Rattle.std.proofs.lemmas.Bool.{and_from, and_parts, cases_Bool, false≢true}
use Rattle.std.proofs.lemmas.List.{take-append-drop, take_all}
use Rattle.std.proofs.lemmas.List.Folds.{list_all-append}

-- the answer for a text is that for its front and that for the rest
split : (test : ℕ → Bool) (n : ℕ) (text : List ℕ) → list_all test text ≡ (list_all test (take n text) && list_all test (drop n text))
split test n text = ap (list_all test) (sym (take-append-drop n text)) ∙ list_all-append test (take n text) (drop n text)

-- each byte of a part of such a text passes
front_passes : (test : ℕ → Bool) (n : ℕ) (text : List ℕ) → list_all test text ≡ true → list_all test (take n text) ≡ true
front_passes test n text all = (and_parts _ _ (sym (split test n text) ∙ all)).0

rest_passes : (test : ℕ → Bool) (n : ℕ) (text : List ℕ) → list_all test text ≡ true → list_all test (drop n text) ≡ true
rest_passes test n text all = (and_parts _ _ (sym (split test n text) ∙ all)).1

-- a block more of which each byte passes
pub next_block : (test : ℕ → Bool) (n done : ℕ) (text : List ℕ) → list_all test (take done text) ≡ true → list_all test (take n (drop done text)) ≡ true
    → list_all test (take (done + n) text) ≡ true
next_block test n done text front block =
    ap (list_all test) (take-add done n text) ∙ list_all-append test (take done text) (take n (drop done text)) ∙ and_from _ _ front block

-- each byte before an earlier place passes
earlier : (test : ℕ → Bool) (done at : ℕ) (text : List ℕ) → at ≤ done → list_all test (take done text) ≡ true → list_all test (take at text) ≡ true
earlier test done at text before front =
    let to_done : done ≡ at + (done - at) = omega (arith, before) in
    let two : take done text ≡ take at text ++ take (done - at) (drop at text) = ap (λ n. take n text) to_done ∙ take-add at (done - at) text in
    (and_parts _ _ (sym (ap (list_all test) two ∙ list_all-append test (take at text) (take (done - at) (drop at text))) ∙ front)).0

-- a text has a byte that fails if a block of it has one
pub failing_block : (test : ℕ → Bool) (n at : ℕ) (text : List ℕ) → list_all test (take n (drop at text)) ≡ false → list_all test text ≡ false
failing_block test n at text block = elim (cases_Bool (list_all test text)) [
  | inl all ↦ absurd (false≢true (sym block ∙ front_passes test n (drop at text) (rest_passes test at text all)))
  | inr fails ↦ fails
]

-- the last block decides if each byte before it passes
pub last_block : (test : ℕ → Bool) (done at : ℕ) (text : List ℕ) → at ≤ done → length text ≤ at + 16 → list_all test (take done text) ≡ true
    → list_all test text ≡ list_all test (take 16 (drop at text))
last_block test done at text before long front =
    let passes = earlier test done at text before front in
    let whole : take 16 (drop at text) ≡ drop at text = take_all 16 (drop at text) (omega (arith, length-drop at text, long)) in
    split test at text ∙ rw passes (ap (list_all test) (sym whole))

-- the answer for 16 bytes more is that for those before them and that for the 16
more_bytes : (test : ℕ → Bool) (n at : ℕ) (text : List ℕ) → list_all test (take (n + 16) (drop at text)) ≡ (list_all test (take n (drop at text)) && list_all test (take 16 (drop (at + n) text)))
more_bytes test n at text =
    ap (list_all test) (take-add n 16 (drop at text))
    ∙ list_all-append test (take n (drop at text)) (take 16 (drop n (drop at text)))
    ∙ ap (λ l. list_all test (take n (drop at text)) && list_all test (take 16 l)) (drop-drop n at text)

-- the answer for 64 bytes is that for four blocks
pub four_blocks : (test : ℕ → Bool) (at : ℕ) (text : List ℕ) → list_all test (take 64 (drop at text))
    ≡ (((list_all test (take 16 (drop at text)) && list_all test (take 16 (drop (at + 16) text))) && list_all test (take 16 (drop (at + 32) text))) && list_all test (take 16 (drop (at + 48) text)))
four_blocks test at text =
    more_bytes test 48 at text
    ∙ ap (λ b. b && list_all test (take 16 (drop (at + 48) text))) (more_bytes test 32 at text
    ∙ ap (λ b. b && list_all test (take 16 (drop (at + 32) text))) (more_bytes test 16 at text))

-- a test that says whether another is true gives its answer
pub same_answer : (a b : Bool) → (IsTrue a ↔ (b ≡ true)) → a ≡ b
same_answer true b iff = sym (iff.0 refl)
same_answer false b iff = elim (cases_Bool b) [
  | inl all ↦ absurd (false≢true (iff.1 all))
  | inr fails ↦ sym fails
]
