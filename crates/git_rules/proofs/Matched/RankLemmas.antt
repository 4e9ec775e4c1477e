-- The order of ranks, and the best of a list with one item more.
use Rattle.std.proofs.Common.{◌≡◌, ℕ, ◌+◌, ◌<◌, ◌≤◌, ◌⊎◌, inl, inr, List, [], ◌∷◌, ◌++◌, length, take, get_or, refl, sym, ap, subst, ◌∙◌, arith, add-one, append_assoc, Option, Some, None, All}
use Rattle.std.proofs.lemmas.Bool.{cases_lt}
use Rattle.std.proofs.Math.Seq.{take-suc}
use Rattle.std.proofs.lemmas.List.{take_all, length-take-le}
use Rattle.std.proofs.lemmas.List.Elements.{All-append, All-cons, All-nil, All-push, All-same, All-weaker}
use Rattle.git_rules.specs.declared.pattern.Rank.{Rank}
use Rattle.git_rules.specs.Patterns.{IsLower, IsBestAt, HasRank, HasNoRank, RanksLower, RanksNoHigher, IsBetter}

-- a rank that is lower than a lower rank is lower
pub lower_trans : (a b c : Rank) → IsLower a b → IsLower b c → IsLower a c
lower_trans a b c (inl h) (inl k) = inl (omega arith)
lower_trans a b c (inl h) (inr (f, k)) = inl (omega arith)
lower_trans a b c (inr (e, h)) (inl k) = inl (omega arith)
lower_trans a b c (inr (e, inl h)) (inr (f, inl k)) = inr (omega arith, inl (omega arith))
lower_trans a b c (inr (e, inl h)) (inr (f, inr (g, k))) = inr (omega arith, inl (omega arith))
lower_trans a b c (inr (e, inr (d, h))) (inr (f, inl k)) = inr (omega arith, inl (omega arith))
lower_trans a b c (inr (e, inr (d, h))) (inr (f, inr (g, k))) = inr (omega arith, inr (omega arith, omega arith))

-- of paths that don't grow, the users decide
same_paths : (a b c : Rank) → b.path ≤ a.path → c.path ≤ b.path → (a.path < c.path) ⊎ ((a.path ≡ c.path) × (a.user < c.user)) → (a.path ≡ b.path) × (b.path ≡ c.path) × (a.user < c.user)
same_paths a b c l m (inl h) = absurd (omega arith)
same_paths a b c l m (inr (e, h)) = (omega arith, omega arith, h)

-- so it is with ranks of equal hosts and paths
users_between : (a b c : Rank) → a.host ≡ b.host → b.host ≡ c.host → (a.path ≡ b.path) × (b.path ≡ c.path) × (a.user < c.user) → IsLower a b ⊎ IsLower b c
users_between a b c e f h =
    elim (cases_lt a.user b.user) [
      | inl l ↦ inl (inr (e, inr (h.0, l)))
      | inr l ↦ inr (inr (f, inr (h.1, omega arith)))
    ]

-- so it is with ranks of equal hosts
paths_between : (a b c : Rank) → a.host ≡ b.host → b.host ≡ c.host → (a.path < c.path) ⊎ ((a.path ≡ c.path) × (a.user < c.user)) → IsLower a b ⊎ IsLower b c
paths_between a b c e f h =
    elim (cases_lt a.path b.path) [
      | inl l ↦ inl (inr (e, inl l))
      | inr l ↦ elim (cases_lt b.path c.path) [
        | inl m ↦ inr (inr (f, inl m))
        | inr m ↦ users_between a b c e f (same_paths a b c l m h)
      ]
    ]

-- a rank between two others, of which one is lower, is above that or below the other
pub lower_between : (a b c : Rank) → IsLower a c → IsLower a b ⊎ IsLower b c
lower_between a b c (inl h) = elim (cases_lt a.host b.host) [
  | inl l ↦ inl (inl l)
  | inr l ↦ inr (inl (omega arith))
]
lower_between a b c (inr (e, h)) = elim (cases_lt a.host b.host) [
  | inl l ↦ inl (inl l)
  | inr l ↦ elim (cases_lt b.host c.host) [
    | inl m ↦ inr (inl m)
    | inr m ↦ paths_between a b c (omega arith) (omega arith) h
  ]
]

-- the best so far, with its rank
abbrev pub IsBestSoFar : {T : Type 0} → (T → Rank → Type 0) → List T → Option (ℕ × Rank) → Type 0
IsBestSoFar Ranks items None = All (HasNoRank Ranks) items
IsBestSoFar Ranks items (Some (i, rank)) = (best : IsBestAt Ranks items i) × (best.rank ≡ rank)

-- an item without a rank changes nothing
step_none : {T : Type 0} (Ranks : T → Rank → Type 0) (done : List T) (t : T) (best : Option (ℕ × Rank)) → IsBestSoFar Ranks done best → HasNoRank Ranks t → IsBestSoFar Ranks (done ++ t ∷ []) best
step_none Ranks done t None h none = All-push (HasNoRank Ranks) done t h none
step_none Ranks done t (Some (i, rank)) (best, same) none = (
  record {
    before = best.before;
    best = best.best;
    suffix = best.suffix ++ t ∷ [];
    rank = best.rank;
    joined = ap (λ z. z ++ t ∷ []) best.joined ∙ append_assoc best.before (best.best ∷ best.suffix) (t ∷ []);
    index = best.index;
    ranks = best.ranks;
    not_higher = best.not_higher;
    lower = All-push (RanksLower Ranks best.rank) best.suffix t best.lower (λ k ranked. absurd (none k ranked));
  },
  same,
)

-- an item with a lower rank changes nothing
step_lower : {T : Type 0} (Ranks : T → Rank → Type 0) (done : List T) (t : T) (i : ℕ) (highest rank : Rank) → IsBestSoFar Ranks done (Some (i, highest)) → ((k : Rank) → Ranks t k → k ≡ rank) → IsLower rank highest → IsBestSoFar Ranks (done ++ t ∷ []) (Some (i, highest))
step_lower Ranks done t i highest rank (best, same) one low = (
  record {
    before = best.before;
    best = best.best;
    suffix = best.suffix ++ t ∷ [];
    rank = best.rank;
    joined = ap (λ z. z ++ t ∷ []) best.joined ∙ append_assoc best.before (best.best ∷ best.suffix) (t ∷ []);
    index = best.index;
    ranks = best.ranks;
    not_higher = best.not_higher;
    lower = All-push (RanksLower Ranks best.rank) best.suffix t best.lower (λ k ranked. subst (λ z. IsLower z best.rank) (sym (one k ranked)) (subst (λ z. IsLower rank z) (sym same) low));
  },
  same,
)

-- the first item with a rank is the best
step_first : {T : Type 0} (Ranks : T → Rank → Type 0) (done : List T) (t : T) (next : ℕ) (rank : Rank) → IsBestSoFar Ranks done None → length done ≡ next → HasRank Ranks t (Some rank) → IsBestSoFar Ranks (done ++ t ∷ []) (Some (next, rank))
step_first Ranks done t next rank h place ranked = (
  record {
    before = done;
    best = t;
    suffix = [];
    rank = rank;
    joined = refl;
    index = place;
    ranks = ranked;
    not_higher = All-weaker (HasNoRank Ranks) (RanksNoHigher Ranks rank) (λ s none k other. absurd (none k other)) done h;
    lower = All-nil (RanksLower Ranks rank);
  },
  refl,
)

-- a rank that isn't higher than the highest isn't higher than a rank that isn't lower
not_above : {T : Type 0} (Ranks : T → Rank → Type 0) (highest rank : Rank) → ¬ IsLower rank highest → (s : T) → RanksNoHigher Ranks highest s → RanksNoHigher Ranks rank s
not_above Ranks highest rank high s less k ranked low =
    elim (lower_between rank highest k low) [ inl l ↦ high l | inr m ↦ less k ranked m ]

-- nor is a rank that is lower than the highest
not_above_lower : {T : Type 0} (Ranks : T → Rank → Type 0) (highest rank : Rank) → ¬ IsLower rank highest → (s : T) → RanksLower Ranks highest s → RanksNoHigher Ranks rank s
not_above_lower Ranks highest rank high s less k ranked low = high (lower_trans rank k highest low (less k ranked))

-- none before is higher than a rank that isn't lower than the highest
none_higher : {T : Type 0} (Ranks : T → Rank → Type 0) (done : List T) (i : ℕ) (best : IsBestAt Ranks done i) (rank : Rank) → ¬ IsLower rank best.rank → All (RanksNoHigher Ranks rank) done
none_higher Ranks done i best rank high =
    let P = RanksNoHigher Ranks rank in
    let own : P best.best = λ k ranked low. high (subst (λ z. IsLower rank z) (best.ranks.1 k ranked) low) in
    let front : All P best.before = All-weaker (RanksNoHigher Ranks best.rank) P (not_above Ranks best.rank rank high) best.before best.not_higher in
    let back : All P best.suffix = All-weaker (RanksLower Ranks best.rank) P (not_above_lower Ranks best.rank rank high) best.suffix best.lower in
    All-same P done (best.before ++ best.best ∷ best.suffix) best.joined (All-append P best.before (best.best ∷ best.suffix) front (All-cons P best.best best.suffix own back))

-- an item whose rank isn't lower is the best
step_higher : {T : Type 0} (Ranks : T → Rank → Type 0) (done : List T) (t : T) (i next : ℕ) (highest rank : Rank) → IsBestSoFar Ranks done (Some (i, highest)) → length done ≡ next → HasRank Ranks t (Some rank) → ¬ IsLower rank highest → IsBestSoFar Ranks (done ++ t ∷ []) (Some (next, rank))
step_higher Ranks done t i next highest rank (best, same) place ranked high = (
  record {
    before = done;
    best = t;
    suffix = [];
    rank = rank;
    joined = refl;
    index = place;
    ranks = ranked;
    not_higher = none_higher Ranks done i best rank (subst (λ z. ¬ IsLower rank z) (sym same) high);
    lower = All-nil (RanksLower Ranks rank);
  },
  refl,
)

-- the best so far, after one item more
pub step : {T : Type 0} (Ranks : T → Rank → Type 0) (done : List T) (t : T) (next : ℕ) (best r : Option (ℕ × Rank)) (rank : Option Rank) → IsBestSoFar Ranks done best → length done ≡ next → HasRank Ranks t rank → IsBetter best next rank r → IsBestSoFar Ranks (done ++ t ∷ []) r
step Ranks done t next best r None so_far place ranked better =
    subst (IsBestSoFar Ranks (done ++ t ∷ [])) (sym better) (step_none Ranks done t best so_far ranked)
step Ranks done t next None r (Some rank) so_far place ranked better =
    subst (IsBestSoFar Ranks (done ++ t ∷ [])) (sym better) (step_first Ranks done t next rank so_far place ranked)
step Ranks done t next (Some (i, highest)) r (Some rank) so_far place ranked (inl (low, same)) =
    subst (IsBestSoFar Ranks (done ++ t ∷ [])) (sym same) (step_lower Ranks done t i highest rank so_far ranked.1 low)
step Ranks done t next (Some (i, highest)) r (Some rank) so_far place ranked (inr (high, same)) =
    subst (IsBestSoFar Ranks (done ++ t ∷ [])) (sym same) (step_higher Ranks done t i next highest rank so_far place ranked high)

-- the best of a front, after one item more of the list
pub next : {T : Type 0} (Ranks : T → Rank → Type 0) (items : List T) (i : ℕ) (d : T) (best r : Option (ℕ × Rank)) (rank : Option Rank) → i < length items → IsBestSoFar Ranks (take i items) best → HasRank Ranks (get_or items i d) rank → IsBetter best i rank r → IsBestSoFar Ranks (take (i + 1) items) r
next Ranks items i d best r rank within so_far ranked better =
    let more : take (i + 1) items ≡ take i items ++ get_or items i d ∷ [] = rw (add-one i) (take-suc items i d within) in
    subst (λ z. IsBestSoFar Ranks z r) (sym more) (step Ranks (take i items) (get_or items i d) i best r rank so_far (length-take-le i items (omega arith)) ranked better)

-- the best of a front that is all of the list
pub finished : {T : Type 0} (Ranks : T → Rank → Type 0) (items : List T) (n : ℕ) (best r : Option (ℕ × Rank)) → length items ≤ n → best ≡ r → IsBestSoFar Ranks (take n items) best → IsBestSoFar Ranks items r
finished Ranks items n best r all same so_far =
    subst (λ z. IsBestSoFar Ranks z r) (take_all n items all) (subst (IsBestSoFar Ranks (take n items)) same so_far)
