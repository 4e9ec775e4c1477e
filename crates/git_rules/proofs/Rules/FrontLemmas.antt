-- The first bases of fronts, and the lengths of fronts, with one rule more.
use Rattle.std.proofs.Common.{◌≡◌, ℕ, ◌≤◌, ◌⊎◌, Bool, true, false, cond, bytes_eq, List, [], ◌∷◌, ◌++◌, Option, Some, None, BTreeMap, BTreeSet, Bor, length, inl, inr, refl, sym, ap, subst, ◌∙◌, arith}
use Rattle.std.specs.Bool.{Decides}
use Rattle.std.specs.BTreeSet.{Updates, contains}
use Rattle.std.specs.Ordering.{nat_cmp}
use Rattle.std.proofs.lemmas.Bool.{both_ways}
use Rattle.std.proofs.lemmas.Slice.Eq.{bytes_eq-Decides}
use Rattle.git_rules.specs.Rewrites.{Rule, ComesNoLater, IsAmong}
use Rattle.git_rules.specs.RuleTable.{HasRank, IsFrontNoted, IsLowerOf, LacksFront, IsFirstOfFront, NotesFronts, NotesLengths, NotesLower, noted, rule_with}
use Rattle.git_rules.specs.declared.rewrite.table.Ranked.{Ranked}
use Rattle.git_rules.proofs.Rules.RankLemmas.{no_later, no_later_kept, no_later_than, rank_kept}

-- ---- a rule more

-- a rule is among more
among_more : (s : Rule) (rules : List Rule) (r : Rule) → IsAmong s rules → IsAmong s (rules ++ r ∷ [])
among_more s [] r h = absurd h
among_more s (x ∷ rules) r (inl same) = inl same
among_more s (x ∷ rules) r (inr h) = inr (among_more s rules r h)

-- and so is the last one
among_last : (rules : List Rule) (r : Rule) → IsAmong r (rules ++ r ∷ [])
among_last [] r = inl refl
among_last (x ∷ rules) r = inr (among_last rules r)

-- there is no other
among_cases : (s : Rule) (rules : List Rule) (r : Rule) → IsAmong s (rules ++ r ∷ []) → IsAmong s rules ⊎ (s ≡ r)
among_cases s [] r (inl same) = inr same
among_cases s [] r (inr none) = absurd none
among_cases s (x ∷ rules) r (inl same) = inl (inl same)
among_cases s (x ∷ rules) r (inr h) = elim (among_cases s rules r h) [ inl old ↦ inl (inr old) | inr last ↦ inr last ]

-- ---- which base comes first

-- a base that has a rank comes no later than itself
no_later_itself : (rules : List Rule) (b : Ranked) → HasRank rules b.base.now b.rank → ComesNoLater rules b.base.now b.base.now
no_later_itself rules b own = no_later rules b.base.now b.base.now b.rank b.rank own own (omega arith)

-- a base comes no later than that of a rule more, if it comes no later than the base of this rule
to_last : (rules : List Rule) (a : List ℕ) (b : Ranked) (front : List ℕ) (s : Rule) → s ≡ rule_with b front → ComesNoLater rules a b.base.now → ComesNoLater rules a s.base
to_last rules a b front s same h = subst (ComesNoLater rules a) (ap (λ x. x.base) (sym same)) h

-- the only rule with a front
first_alone : (rules : List Rule) (front : List ℕ) (b : Ranked) → HasRank (rules ++ rule_with b front ∷ []) b.base.now b.rank → LacksFront front rules → IsFirstOfFront (rules ++ rule_with b front ∷ []) front b
first_alone rules front b own lacks =
    let all = rules ++ rule_with b front ∷ [] in (
      among_last rules (rule_with b front),
      own,
      λ s among same. elim (among_cases s rules (rule_with b front) among) [
        | inl old ↦ absurd (lacks s old same)
        | inr last ↦ to_last all b.base.now b front s last (no_later_itself all b own)
      ],
    )

-- a base of a lower rank comes first then
first_lower : (rules : List Rule) (front : List ℕ) (a b : Ranked) → HasRank (rules ++ rule_with b front ∷ []) b.base.now b.rank → b.rank ≤ a.rank → IsFirstOfFront rules front a → IsFirstOfFront (rules ++ rule_with b front ∷ []) front b
first_lower rules front a b own lower (there, rank, first) =
    let r = rule_with b front in
    let all = rules ++ r ∷ [] in
    let before : ComesNoLater all b.base.now a.base.now = no_later all b.base.now a.base.now b.rank a.rank own (rank_kept rules r a.base.now a.rank rank) lower in (
      among_last rules r,
      own,
      λ s among same. elim (among_cases s rules r among) [
        | inl old ↦ no_later_than all b.base.now a.base.now s.base before (no_later_kept rules r a.base.now s.base (first s old same))
        | inr last ↦ to_last all b.base.now b front s last (no_later_itself all b own)
      ],
    )

-- and one of a higher rank doesn't
first_still : (rules : List Rule) (front : List ℕ) (a b : Ranked) → HasRank (rules ++ rule_with b front ∷ []) b.base.now b.rank → a.rank ≤ b.rank → IsFirstOfFront rules front a → IsFirstOfFront (rules ++ rule_with b front ∷ []) front a
first_still rules front a b own lower (there, rank, first) =
    let r = rule_with b front in
    let all = rules ++ r ∷ [] in
    let kept : HasRank all a.base.now a.rank = rank_kept rules r a.base.now a.rank rank in (
      among_more (rule_with a front) rules r there,
      kept,
      λ s among same. elim (among_cases s rules r among) [
        | inl old ↦ no_later_kept rules r a.base.now s.base (first s old same)
        | inr last ↦ to_last all a.base.now b front s last (no_later all a.base.now b.base.now a.rank b.rank kept own lower)
      ],
    )

-- the base of the lower rank comes first
first_of_both : (rules : List Rule) (front : List ℕ) (b lower : Ranked) (entry : Option Ranked) → HasRank (rules ++ rule_with b front ∷ []) b.base.now b.rank → IsLowerOf entry b lower → IsFrontNoted rules front entry → IsFirstOfFront (rules ++ rule_with b front ∷ []) front lower
first_of_both rules front b lower None own is lacks =
    subst (IsFirstOfFront (rules ++ rule_with b front ∷ []) front) (sym is) (first_alone rules front b own lacks)
first_of_both rules front b lower (Some a) own (inl (is, no_higher)) h =
    subst (IsFirstOfFront (rules ++ rule_with b front ∷ []) front) (sym is) (first_still rules front a b own no_higher h)
first_of_both rules front b lower (Some a) own (inr (is, no_higher)) h =
    subst (IsFirstOfFront (rules ++ rule_with b front ∷ []) front) (sym is) (first_lower rules front a b own no_higher h)

-- the record for another front stays correct
front_kept : (rules : List Rule) (r : Rule) (front : List ℕ) (entry : Option Ranked) → ¬ (r.front ≡ front) → IsFrontNoted rules front entry → IsFrontNoted (rules ++ r ∷ []) front entry
front_kept rules r front None other lacks =
    λ s among same. elim (among_cases s rules r among) [
      | inl old ↦ lacks s old same
      | inr last ↦ other (ap (λ x. x.front) (sym last) ∙ same)
    ]
front_kept rules r front (Some a) other (there, rank, first) = (
  among_more (rule_with a front) rules r there,
  rank_kept rules r a.base.now a.rank rank,
  λ s among same. elim (among_cases s rules r among) [
    | inl old ↦ no_later_kept rules r a.base.now s.base (first s old same)
    | inr last ↦ absurd (other (ap (λ x. x.front) (sym last) ∙ same))
  ],
)

-- for the front of one rule more its first base is recorded, and for another front the record stays
either_front : (rules : List Rule) (r : Rule) (front : List ℕ) (lower : Ranked) (entry : Option Ranked) (here : Bool) → Decides here (r.front ≡ front) → IsFirstOfFront (rules ++ r ∷ []) r.front lower → IsFrontNoted rules front entry → IsFrontNoted (rules ++ r ∷ []) front (cond here (Some lower) entry)
either_front rules r front lower entry true is h was = subst (λ f. IsFirstOfFront (rules ++ r ∷ []) f lower) (is.0 refl) h
either_front rules r front lower entry false is h was = front_kept rules r front entry (λ same. both_ways false refl (is.1 same)) was

-- fronts that are noted, with one rule more
pub fronts_more : (rules : List Rule) (front : List ℕ) (b : Ranked) (fronts after : BTreeMap (Bor (List ℕ)) Ranked) → NotesFronts rules fronts → HasRank (rules ++ rule_with b front ∷ []) b.base.now b.rank → NotesLower fronts front b after → NotesFronts (rules ++ rule_with b front ∷ []) after
fronts_more rules front b fronts after h own (lower, is, also) =
    let r = rule_with b front in
    let own_front : IsFirstOfFront (rules ++ r ∷ []) front lower = first_of_both rules front b lower (noted fronts front) own is (h front) in
    λ other. subst (IsFrontNoted (rules ++ r ∷ []) other) (sym (also other)) (either_front rules r other lower (noted fronts other) (bytes_eq front other) (bytes_eq-Decides front other) own_front (h other))

-- ---- lengths

-- a base that is always there or there already
either_length : (here was : Bool) → was ≡ true → cond here true was ≡ true
either_length true was h = refl
either_length false was h = h

-- lengths that are noted, with one more
pub lengths_kept : (rules : List Rule) (n : ℕ) (lengths after : BTreeSet ℕ) → NotesLengths rules lengths → Updates nat_cmp lengths after n true → NotesLengths rules after
lengths_kept rules n lengths after h also =
    λ s among. also.0 (length s.front) ∙ either_length _ (contains nat_cmp lengths (length s.front)) (h s among)

-- and with the rule that it is the length of
pub lengths_more : (rules : List Rule) (r : Rule) (lengths : BTreeSet ℕ) → NotesLengths rules lengths → contains nat_cmp lengths (length r.front) ≡ true → NotesLengths (rules ++ r ∷ []) lengths
lengths_more rules r lengths h own =
    λ s among. elim (among_cases s rules r among) [
      | inl old ↦ h s old
      | inr last ↦ subst (λ x. contains nat_cmp lengths (length x.front) ≡ true) (sym last) own
    ]
