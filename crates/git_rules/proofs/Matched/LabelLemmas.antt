-- The labels of a host: cut at its first `.`, and left alone.
use Rattle.std.proofs.Common.{◌≡◌, ℕ, ◌<◌, ◌==◌, ◌↔◌, List, [], ◌∷◌, ◌++◌, length, refl, sym, ap, ◌∙◌, arith, length-append, Bool, Option, Some, None, MatchOption, IsTrue, Bor, subst, inl, inr}
use Rattle.std.proofs.lemmas.Bool.{cases_Bool}
use Rattle.git_syntax.specs.Bytes.{dot, FreeOf}
use Rattle.git_syntax.proofs.Texts.CutLemmas.{free_head_tail}
use Rattle.git_rules.specs.Patterns.{labels_of, in_first_label, MatchesHost, MatchesLabels}
use Rattle.git_rules.proofs.Entries.KeyLemmas.{empty_is}

-- the text before the first `.` is the first label
pub labels-cut : (label rest : List ℕ) → FreeOf dot label → labels_of (label ++ dot ∷ rest) ≡ label ∷ labels_of rest
labels-cut [] rest free = refl
labels-cut (b ∷ bs) rest free =
    let parts = free_head_tail dot b bs free in
    rw (parts.0, labels-cut bs rest parts.1) refl

-- a host without a `.` is its only label
pub labels-alone : (host : List ℕ) → 0 < length host → FreeOf dot host → labels_of host ≡ host ∷ []
labels-alone [] some free = absurd (omega arith)
labels-alone (b ∷ []) some free = rw (free_head_tail dot b [] free).0 refl
labels-alone (b ∷ c ∷ bs) some free =
    let parts = free_head_tail dot b (c ∷ bs) free in
    rw (parts.0, labels-alone (c ∷ bs) (omega arith) parts.1) refl

-- the byte of a first label is there
in_first_label_some : (b : ℕ) (labels : List (List ℕ)) → in_first_label b labels ≡ [] → ⊥
in_first_label_some b [] e = cc
in_first_label_some b (label ∷ labels) e = cc

-- a host that isn't empty has a label
pub labels_some : (b : ℕ) (bs : List ℕ) → labels_of (b ∷ bs) ≡ [] → ⊥
labels_some b bs e =
    elim (cases_Bool (b == dot)) [
      | inl same ↦ let one = rw same at e in cc
      | inr differs ↦ in_first_label_some b (labels_of bs) (rw differs at e)
    ]

-- no labels match no labels alone
none_match : (labels : List (List ℕ)) → MatchesLabels [] labels → labels ≡ []
none_match [] h = refl
none_match (label ∷ labels) h = absurd h

-- if no label is left of the pattern, none is left of the host
pub nothing_left : (rest : List ℕ) → MatchesHost [] rest → rest ≡ []
nothing_left [] h = refl
nothing_left (b ∷ bs) h = absurd (labels_some b bs (none_match (labels_of (b ∷ bs)) h))

-- the rest of a host after a `.` is shorter
pub shorter_after : (host label rest : List ℕ) → host ≡ label ++ dot ∷ rest → length rest < length host
shorter_after host label rest whole = omega (arith, ap length whole, length-append label (dot ∷ rest))

-- a host without a `.`, if it is its only label
pub only : (host : List ℕ) (r : Option (Bor (List ℕ) × Bor (List ℕ))) → FreeOf dot host
    → MatchOption r (host ≡ []) (λ p. (p.0.now ≡ host) × (p.1.now ≡ []) × (0 < length host))
    → MatchOption r (host ≡ []) (λ p. (labels_of host ≡ p.0.now ∷ labels_of p.1.now) × (length p.1.now < length host))
only host None free h = h
only host (Some p) free h = (
  labels-alone host h.2 free ∙ ap (λ z. z ∷ []) (sym h.0) ∙ ap (λ z. p.0.now ∷ labels_of z) (sym h.1),
  omega (arith, ap length h.1, h.2),
)

-- if no label is left of the pattern, the hosts match if nothing is left of the other
pub at_end : (pattern host wanted rest : List ℕ) (r : Bool) → wanted ≡ [] → r ≡ (length rest == 0)
    → (MatchesHost wanted rest ↔ MatchesHost pattern host) → IsTrue r ↔ MatchesHost pattern host
at_end pattern host wanted rest r none test same = (
  λ yes. same.0 (subst (λ z. MatchesHost z rest) (sym none) (subst (λ z. MatchesHost [] z) (sym (empty_is rest (sym test ∙ yes))) tt)),
  λ h. test ∙ ap (λ z. length z == 0) (nothing_left rest (subst (λ z. MatchesHost z rest) none (same.1 h))),
)
