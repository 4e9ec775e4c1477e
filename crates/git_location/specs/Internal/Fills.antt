-- A caller's buffer after a text was written: its front is filled, and the rest is unchanged.
use Rattle.std.specs.Prelude.{◌≡◌, ℕ, ◌≤◌, ◌+◌, MatchBool, nat_lt, List, [], ◌∷◌, ◌++◌, length, drop, refl, zero, suc}
use Rattle.std.specs.Prelude.{Result, Ok, Err}
use Rattle.std.proofs.Math.Seq.{drop-nil}
use Rattle.std.proofs.Common.{sym, ap, ◌∙◌, arith, append_assoc, append-nil, length-append, length-drop}
use Rattle.git_location.specs.declared.write_error.WriteFault.{WriteFault}
use Rattle.git_location.specs.declared.writer.fill.Filled.{Filled}

-- the text is at the front of the buffer, if it fits, and the rest is unchanged; if it doesn't fit, or there is
-- no text, the whole buffer is unchanged
abbrev pub Placed : Result (List ℕ) WriteFault → List ℕ → List ℕ → Type 0
Placed (Ok t) old new =
    MatchBool (nat_lt (length old) (length t)) (new ≡ old) (new ≡ t ++ drop (length t) old)
Placed (Err fault) old new = new ≡ old

-- the text was added to the same buffer after the bytes that filled it before, if it fits
abbrev pub Fills : Filled → List ℕ → Filled → Type 0
Fills old text new =
    (new.buffer.ghost_name ≡ old.buffer.ghost_name)
    × ((front back : List ℕ) → old.buffer.now ≡ front ++ back → length front ≡ old.at → length text ≤ length back
    → (new.buffer.now ≡ (front ++ text) ++ drop (length text) back) × (length (front ++ text) ≡ new.at))

pub fills_nothing : (a : Filled) → Fills a [] a
fills_nothing a = (
  refl,
  λ front back whole place fits. (whole ∙ ap (λ x. x ++ back) (sym (append-nil front)), ap length (append-nil front) ∙ place),
)

-- two drops in sequence
dropped_twice : (m n : ℕ) (l : List ℕ) → drop n (drop m l) ≡ drop (m + n) l
dropped_twice zero n l = let none : n ≡ 0 + n = omega arith in ap (λ k. drop k l) none
dropped_twice (suc m) n [] = drop-nil n ∙ sym (drop-nil (suc m + n))
dropped_twice (suc m) n (b ∷ l) =
    let more : suc (m + n) ≡ suc m + n = omega arith in
    dropped_twice m n l ∙ ap (λ k. drop k (b ∷ l)) more

pub fills_joined : (a b c : Filled) (x y : List ℕ) → Fills a x b → Fills b y c → Fills a (x ++ y) c
fills_joined a b c x y first second = (
  second.0 ∙ first.0,
  λ front back whole place fits.
      let long = length-append x y in
      let one = first.1 front back whole place (omega (arith, long, fits)) in
      let rest = length-drop (length x) back in
      let two = second.1 (front ++ x) (drop (length x) back) one.0 one.1 (omega (arith, long, fits, rest)) in
      let joined = append_assoc front x y in (
        two.0 ∙ ap (λ z. z ++ drop (length y) (drop (length x) back)) joined
            ∙ ap (λ z. (front ++ (x ++ y)) ++ z) (dropped_twice (length x) (length y) back ∙ ap (λ n. drop n back) (sym long)),
        ap length (sym joined) ∙ two.1,
      ),
)
