-- One rule wins, so a text has one outcome.
use Rattle.std.proofs.Common.{◌≡◌, ℕ, inl, inr, Bool, true, false, List, [], ◌∷◌, ◌++◌, Some, length, refl, sym, ap, ◌∙◌, arith}
use Rattle.std.proofs.lemmas.List.{append_cancel_left}
use Rattle.git_rules.specs.Rewrites.{Rule, Rules, Outcome, ComesNoLater, IsRewritten, IsRewrittenToPush, LacksBase, NoneApplies, Wins}

-- fronts of one text with one length are the same
same_fronts : (p q x y : List ℕ) → p ++ x ≡ q ++ y → length p ≡ length q → p ≡ q
same_fronts [] [] x y e same = refl
same_fronts [] (d ∷ q) x y e same = absurd (omega arith)
same_fronts (c ∷ p) [] x y e same = absurd (omega arith)
same_fronts (c ∷ p) (d ∷ q) x y e same =
    let tail : p ++ x ≡ q ++ y = cc in
    let rest : p ≡ q = same_fronts p q x y tail (omega arith) in
    cc

-- the first rules with two bases, neither of which comes later than the other, have one base
first_bases : (a b : List ℕ) (p q x y : List Rule) (f g : Rule) → p ++ f ∷ x ≡ q ++ g ∷ y → f.base ≡ a → g.base ≡ b → LacksBase b p → LacksBase a q → a ≡ b
first_bases a b [] [] x y f g e has_a has_b h k =
    let head : f ≡ g = cc in
    sym has_a ∙ ap (λ r. r.base) head ∙ has_b
first_bases a b [] (s ∷ q) x y f g e has_a has_b h k =
    let head : f ≡ s = cc in
    absurd (k.0 (ap (λ r. r.base) (sym head) ∙ has_a))
first_bases a b (r ∷ p) [] x y f g e has_a has_b h k =
    let head : r ≡ g = cc in
    absurd (h.0 (ap (λ z. z.base) head ∙ has_b))
first_bases a b (r ∷ p) (s ∷ q) x y f g e has_a has_b h k =
    let tail : p ++ f ∷ x ≡ q ++ g ∷ y = cc in
    first_bases a b p q x y f g tail has_a has_b h.1 k.1

-- bases of which neither comes later than the other are one
same_bases : (rules : List Rule) (a b : List ℕ) → ComesNoLater rules a b → ComesNoLater rules b a → a ≡ b
same_bases rules a b (p, f, x, whole, has_a, h) (q, g, y, whole_b, has_b, k) =
    first_bases a b p q x y f g (sym whole ∙ whole_b) has_a has_b h k

-- of two rules that win both have one base and one front
one_wins : (rules : List Rule) (text : List ℕ) (r s : Rule) → Wins rules text r → Wins rules text s → (r.base ≡ s.base) × (r.front ≡ s.front)
one_wins rules text r s h k =
    elim (h.2 s k.0 k.1) [
      | inl longer ↦ elim (k.2 r h.0 h.1) [
        | inl shorter ↦ absurd (omega arith)
        | inr (same, later) ↦ absurd (omega arith)
      ]
      | inr (same, earlier) ↦ elim (k.2 r h.0 h.1) [
        | inl shorter ↦ absurd (omega arith)
        | inr (also, later) ↦ (same_bases rules r.base s.base earlier later, same_fronts r.front s.front h.1.0 k.1.0 (sym h.1.1 ∙ k.1.1) (sym same))
      ]
    ]

-- a text that no rule applies to has no winner
none_wins : (rules : List Rule) (text : List ℕ) (r : Rule) → NoneApplies rules text → ¬ Wins rules text r
none_wins rules text r none h = none r h.0 h.1

-- the rules make one outcome of a text
pub one_outcome : (rules : List Rule) (text : List ℕ) (o p : Outcome) → IsRewritten rules text o → IsRewritten rules text p → o ≡ p
one_outcome rules text o p (inl (base, rest, none)) (inl (other, left, _)) =
    let bases : o.base ≡ p.base = base ∙ sym other in
    let rests : o.rest ≡ p.rest = rest ∙ sym left in
    λ i. record { base = bases i; rest = rests i }
one_outcome rules text o p (inl (base, rest, none)) (inr (s, k, other, whole)) = absurd (none_wins rules text s none k)
one_outcome rules text o p (inr (r, h, base, whole)) (inl (other, left, none)) = absurd (none_wins rules text r none h)
one_outcome rules text o p (inr (r, h, base, whole)) (inr (s, k, other, all)) =
    let same = one_wins rules text r s h k in
    let bases : o.base ≡ p.base = base ∙ ap (λ b. Some b) same.0 ∙ sym other in
    let joined : r.front ++ o.rest ≡ r.front ++ p.rest = sym whole ∙ all ∙ ap (λ f. f ++ p.rest) (sym same.1) in
    let rests : o.rest ≡ p.rest = append_cancel_left r.front o.rest p.rest joined in
    λ i. record { base = bases i; rest = rests i }

-- and so do they of a text to push to
pub one_outcome_to_push : (rules : Rules) (own : Bool) (text : List ℕ) (o p : Outcome) → IsRewrittenToPush rules own text o → IsRewrittenToPush rules own text p → o ≡ p
one_outcome_to_push rules true text o p h k = one_outcome rules.fetching text o p h k
one_outcome_to_push rules false text o p (inl (some, h)) (inl (_, k)) = one_outcome rules.pushing text o p h k
one_outcome_to_push rules false text o p (inl (some, h)) (inr (none, k)) = absurd (some none)
one_outcome_to_push rules false text o p (inr (none, h)) (inl (some, k)) = absurd (some none)
one_outcome_to_push rules false text o p (inr (none, h)) (inr (_, k)) = one_outcome rules.fetching text o p h k
