-- Which entries Git takes: those of a front of a list are taken alike in the whole list.
use Rattle.std.proofs.Common.{◌≡◌, ℕ, ◌+◌, ◌<◌, ◌≤◌, ◌⊎◌, inl, inr, List, [], ◌∷◌, ◌++◌, length, refl, sym, ap, subst, ◌∙◌, arith, append_assoc, length-append, Option, Some, None, All, Contains}
use Rattle.std.proofs.lemmas.Bool.{cases_lt}
use Rattle.std.proofs.lemmas.List.{append_cancel_left}
use Rattle.std.proofs.lemmas.List.Elements.{All-contains, Contains-append_right}
use Rattle.git_rules.specs.declared.pattern.Rank.{Rank}
use Rattle.git_rules.specs.Config.{ConfigEntry}
use Rattle.git_rules.specs.Normal.{NormalPlace}
use Rattle.git_rules.specs.Patterns.{HasNoRank, HasRank, IsBest, IsBestAt, IsBetter, IsLower, RanksLower, RanksNoHigher}
use Rattle.git_rules.specs.Settings.{IsBestIndex, IsTakenAt, RanksSetting}
use Rattle.git_rules.specs.SettingsLaws.{IsLastTaken}
use Rattle.git_rules.proofs.Matched.RankLemmas.{IsBestSoFar}
use Rattle.git_rules.proofs.Settled.ListLemmas.{at_seam, in_front, tail_same}

-- ---- fronts

-- an entry that is taken has a place in the list
pub place_within : (name : List ℕ) (place : Option NormalPlace) (entries : List ConfigEntry) (i : ℕ) (e : ConfigEntry) → IsTakenAt name place entries i e → i < length entries
place_within name place entries i e h =
    let size : length entries ≡ length h.before + length (e ∷ h.others) = ap length h.joined ∙ length-append h.before (e ∷ h.others) in
    let at : length h.before ≡ i = h.index in
    omega (arith, size, at)

-- an entry that is taken in a front is taken in the whole list
pub grow : (name : List ℕ) (place : Option NormalPlace) (done more : List ConfigEntry) (i : ℕ) (e : ConfigEntry) → IsTakenAt name place done i e → IsTakenAt name place (done ++ more) i e
grow name place done more i e h = record {
  before = h.before;
  others = h.others ++ more;
  rank = h.rank;
  joined = ap (λ z. z ++ more) h.joined ∙ append_assoc h.before (e ∷ h.others) more;
  index = h.index;
  ranks = h.ranks;
  not_higher = h.not_higher;
}

-- an entry that is taken in the whole list at a place of the front is taken in the front
pub shrink : (name : List ℕ) (place : Option NormalPlace) (done more : List ConfigEntry) (i : ℕ) (e : ConfigEntry) → i < length done → IsTakenAt name place (done ++ more) i e → IsTakenAt name place done i e
shrink name place done more i e short h =
    let at : length h.before ≡ i = h.index in
    let cut = in_front h.before h.others done more e h.joined (omega (arith, at, short)) in
    record {
      before = h.before;
      others = cut.0;
      rank = h.rank;
      joined = cut.1;
      index = h.index;
      ranks = h.ranks;
      not_higher = h.not_higher;
    }

-- an entry that is taken with one entry more is taken without it, or is this entry
pub taken_cases : (name : List ℕ) (place : Option NormalPlace) (done : List ConfigEntry) (t : ConfigEntry) (i : ℕ) (e : ConfigEntry) → IsTakenAt name place (done ++ t ∷ []) i e → IsTakenAt name place done i e ⊎ ((i ≡ length done) × (e ≡ t))
taken_cases name place done t i e h = elim (cases_lt i (length done)) [
  | inl short ↦ inl (shrink name place done (t ∷ []) i e short h)
  | inr long ↦
      let size : length (done ++ t ∷ []) ≡ length done + length (t ∷ []) = length-append done (t ∷ []) in
      let within : i < length (done ++ t ∷ []) = place_within name place (done ++ t ∷ []) i e h in
      let at : length h.before ≡ i = h.index in
      let same : i ≡ length done = omega (arith, size, within, long) in
      inr (same, (at_seam h.before h.others done [] e t h.joined (omega (arith, at, same))).1)
]

-- ---- one entry more

-- an entry that is the best so far is taken
pub taken_here : (name : List ℕ) (place : Option NormalPlace) (done : List ConfigEntry) (t : ConfigEntry) (rank : Rank) → IsBestSoFar (RanksSetting name place) (done ++ t ∷ []) (Some (length done, rank)) → IsTakenAt name place (done ++ t ∷ []) (length done) t
taken_here name place done t rank (best, same) =
    let seam = at_seam best.before best.suffix done [] best.best t best.joined best.index in
    record {
      before = done;
      others = [];
      rank = best.rank;
      joined = refl;
      index = refl;
      ranks = subst (λ z. RanksSetting name place z best.rank) seam.1 best.ranks.0;
      not_higher = subst (All (RanksNoHigher (RanksSetting name place) best.rank)) seam.0 best.not_higher;
    }

-- an entry that doesn't set the variable isn't taken
untaken_none : (name : List ℕ) (place : Option NormalPlace) (done : List ConfigEntry) (t e : ConfigEntry) → HasNoRank (RanksSetting name place) t → ¬ IsTakenAt name place (done ++ t ∷ []) (length done) e
untaken_none name place done t e none h =
    let seam = at_seam h.before h.others done [] e t h.joined h.index in
    none h.rank (subst (λ z. RanksSetting name place z h.rank) seam.1 h.ranks)

-- the element if a list is cut is one of the list
pub at_cut : {T : Type 0} (before : List T) (x : T) (others : List T) → Contains (before ++ x ∷ others) x
at_cut before x others = Contains-append_right before (x ∷ others) x (0, omega arith, refl)

-- an entry with a lower rank isn't taken
untaken_lower : (name : List ℕ) (place : Option NormalPlace) (done : List ConfigEntry) (t e : ConfigEntry) (j : ℕ) (best : IsBestAt (RanksSetting name place) done j) (rank : Rank) → ((k : Rank) → RanksSetting name place t k → k ≡ rank) → IsLower rank best.rank → ¬ IsTakenAt name place (done ++ t ∷ []) (length done) e
untaken_lower name place done t e j best rank one low h =
    let seam = at_seam h.before h.others done [] e t h.joined h.index in
    let own : h.rank ≡ rank = one h.rank (subst (λ z. RanksSetting name place z h.rank) seam.1 h.ranks) in
    let P = RanksNoHigher (RanksSetting name place) h.rank in
    let all : All P (best.before ++ best.best ∷ best.suffix) = subst (All P) (seam.0 ∙ best.joined) h.not_higher in
    All-contains P _ best.best all (at_cut best.before best.best best.suffix) best.rank best.ranks.0 (subst (λ z. IsLower z best.rank) (sym own) low)

-- an entry that isn't the best so far isn't taken
pub untaken : (name : List ℕ) (place : Option NormalPlace) (done : List ConfigEntry) (t : ConfigEntry) (best r : Option (ℕ × Rank)) (rank : Option Rank) → IsBestSoFar (RanksSetting name place) done best → HasRank (RanksSetting name place) t rank → IsBetter best (length done) rank r → ¬ IsBestIndex r (length done) → (e : ConfigEntry) → ¬ IsTakenAt name place (done ++ t ∷ []) (length done) e
untaken name place done t best r None so_far ranked better other e h = untaken_none name place done t e ranked h
untaken name place done t None r (Some rank) so_far ranked better other e h = other (rank, better)
untaken name place done t (Some (j, highest)) r (Some rank) so_far ranked (inl (low, same)) other e h =
    untaken_lower name place done t e j so_far.0 rank ranked.1 (subst (IsLower rank) (sym so_far.1) low) h
untaken name place done t (Some (j, highest)) r (Some rank) so_far ranked (inr (high, same)) other e h = other (rank, same)

-- ---- the best

-- no entry after the best is taken
not_after : (name : List ℕ) (place : Option NormalPlace) (entries : List ConfigEntry) (i j : ℕ) (e : ConfigEntry) (best : IsBestAt (RanksSetting name place) entries i) → i < j → ¬ IsTakenAt name place entries j e
not_after name place entries i j e best after h =
    let R = RanksSetting name place in
    let at : length h.before ≡ j = h.index in
    let own : length best.before ≡ i = best.index in
    let cut = in_front best.before best.suffix h.before (e ∷ h.others) best.best (sym h.joined ∙ best.joined) (omega (arith, at, own, after)) in
    let suffix : cut.0 ++ e ∷ h.others ≡ best.suffix =
    tail_same best.best best.best _ _ (append_cancel_left best.before _ _ (sym (append_assoc best.before (best.best ∷ cut.0) (e ∷ h.others)) ∙ ap (λ z. z ++ e ∷ h.others) (sym cut.1) ∙ sym h.joined ∙ best.joined)) in
    let lower : IsLower h.rank best.rank = All-contains (RanksLower R best.rank) best.suffix e best.lower (subst (λ z. Contains z e) suffix (at_cut cut.0 e h.others)) h.rank h.ranks in
    let all : All (RanksNoHigher R h.rank) (best.before ++ best.best ∷ cut.0) = subst (All (RanksNoHigher R h.rank)) cut.1 h.not_higher in
    All-contains (RanksNoHigher R h.rank) _ best.best all (at_cut best.before best.best cut.0) best.rank best.ranks.0 lower

-- the best entry is the last that is taken
pub best_is_last : (name : List ℕ) (place : Option NormalPlace) (entries : List ConfigEntry) (i : ℕ) → IsBestAt (RanksSetting name place) entries i → IsLastTaken name place entries i
best_is_last name place entries i best = record {
  entry = best.best;
  taken = record {
    before = best.before;
    others = best.suffix;
    rank = best.rank;
    joined = best.joined;
    index = best.index;
    ranks = best.ranks.0;
    not_higher = best.not_higher;
  };
  last = λ j e h. elim (cases_lt i j) [ inl after ↦ absurd (not_after name place entries i j e best after h) | inr l ↦ l ];
}

-- if none sets the variable none is taken
pub none_taken : (name : List ℕ) (place : Option NormalPlace) (entries : List ConfigEntry) (i : ℕ) (e : ConfigEntry) → All (HasNoRank (RanksSetting name place)) entries → ¬ IsTakenAt name place entries i e
none_taken name place entries i e none h =
    All-contains (HasNoRank (RanksSetting name place)) entries e none (subst (λ z. Contains z e) (sym h.joined) (at_cut h.before e h.others)) h.rank h.ranks

-- the best is one
pub same_best : (name : List ℕ) (place : Option NormalPlace) (entries : List ConfigEntry) (a b : Option ℕ) → IsBest (RanksSetting name place) entries a → IsBest (RanksSetting name place) entries b → a ≡ b
same_best name place entries None None h k = refl
same_best name place entries None (Some j) h k = absurd (none_taken name place entries j _ h (best_is_last name place entries j k).taken)
same_best name place entries (Some i) None h k = absurd (none_taken name place entries i _ k (best_is_last name place entries i h).taken)
same_best name place entries (Some i) (Some j) h k =
    let one = best_is_last name place entries i h in
    let other = best_is_last name place entries j k in
    let low : j ≤ i = one.last j other.entry other.taken in
    let high : i ≤ j = other.last i one.entry one.taken in
    ap Some (omega (arith, low, high))
