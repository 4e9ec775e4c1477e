-- The entries that Git uses of a list, with one entry more.
use Rattle.std.proofs.Common.{◌≡◌, ℕ, ◌+◌, ◌<◌, inl, inr, List, [], ◌∷◌, ◌++◌, length, get_or, refl, sym, ap, subst, ◌∙◌, arith, length-append, Option, Some, None, Ok, Contains}
use Rattle.std.proofs.lemmas.List.Quantifiers.{all_pairs_push}
use Rattle.std.proofs.lemmas.List.Elements.{Contains-append_left, Contains-get_or, Contains-push, Contains-push_cases}
use Rattle.std.proofs.lemmas.List.Kept.{AllPairs-from_increasing}
use Rattle.git_rules.specs.declared.pattern.Rank.{Rank}
use Rattle.git_rules.specs.Config.{ConfigEntry}
use Rattle.git_rules.specs.Normal.{NormalPlace}
use Rattle.git_rules.specs.Patterns.{HasRank, IsBetter}
use Rattle.git_rules.specs.Settings.{AddsBest, AreUsed, IsAdded, IsBestIndex, IsTakenAt, IsUsedAt, RanksSetting}
use Rattle.git_rules.proofs.Matched.RankLemmas.{IsBestSoFar, step}
use Rattle.git_rules.proofs.Settled.ListLemmas.{increasing_from_ascending, none_contained}
use Rattle.git_rules.proofs.Settled.TakenLemmas.{grow, place_within, taken_cases, taken_here, untaken}

-- ---- values

apart : (v : Option (List ℕ)) (w : List ℕ) → v ≡ Some w → ¬ (v ≡ None)
apart v w e k = cc

pub filled : (v : Option (List ℕ)) (b : ℕ) (bs : List ℕ) → v ≡ Some (b ∷ bs) → ¬ (v ≡ Some [])
filled v b bs e k = cc

-- ---- one entry more

-- the entry that follows doesn't clear, if it is taken
abbrev KeepsOthers : List ℕ → Option NormalPlace → List ConfigEntry → ConfigEntry → Type 0
KeepsOthers name place done t = IsTakenAt name place (done ++ t ∷ []) (length done) t → ¬ (t.value ≡ Some [])

-- the entry that is taken at the last place is the last one
last_is : (name : List ℕ) (place : Option NormalPlace) (done : List ConfigEntry) (t : ConfigEntry) (i : ℕ) (e : ConfigEntry) → i ≡ length done → e ≡ t → IsTakenAt name place (done ++ t ∷ []) i e → IsTakenAt name place (done ++ t ∷ []) (length done) t
last_is name place done t i e at same h =
    subst (λ z. IsTakenAt name place (done ++ t ∷ []) (length done) z) same (subst (λ z. IsTakenAt name place (done ++ t ∷ []) z e) at h)

-- an entry that is used stays so
used_more : (name : List ℕ) (place : Option NormalPlace) (done : List ConfigEntry) (t : ConfigEntry) (i : ℕ) → KeepsOthers name place done t → IsUsedAt name place done i → IsUsedAt name place (done ++ t ∷ []) i
used_more name place done t i keeps u = record {
  entry = u.entry;
  taken = grow name place done (t ∷ []) i u.entry u.taken;
  not_empty = u.not_empty;
  not_cleared = λ j e after h. elim (taken_cases name place done t j e h) [
    | inl old ↦ u.not_cleared j e after old
    | inr new ↦ subst (λ z. ¬ (z.value ≡ Some [])) (sym new.1) (keeps (last_is name place done t j e new.0 new.1 h))
  ];
}

-- an entry that is used and isn't the last entry was used before
used_less : (name : List ℕ) (place : Option NormalPlace) (done : List ConfigEntry) (t : ConfigEntry) (i : ℕ) (u : IsUsedAt name place (done ++ t ∷ []) i) → IsTakenAt name place done i u.entry → IsUsedAt name place done i
used_less name place done t i u old = record {
  entry = u.entry;
  taken = old;
  not_empty = u.not_empty;
  not_cleared = λ j e after h. u.not_cleared j e after (grow name place done (t ∷ []) j e h);
}

-- each entry that is taken has a value, also the last one
values_more : (name : List ℕ) (place : Option NormalPlace) (done : List ConfigEntry) (t : ConfigEntry) (found : List ℕ) → AreUsed name place done found → (IsTakenAt name place (done ++ t ∷ []) (length done) t → ¬ (t.value ≡ None)) → (i : ℕ) (e : ConfigEntry) → IsTakenAt name place (done ++ t ∷ []) i e → ¬ (e.value ≡ None)
values_more name place done t found h own i e taken = elim (taken_cases name place done t i e taken) [
  | inl old ↦ h.values i e old
  | inr new ↦ subst (λ z. ¬ (z.value ≡ None)) (sym new.1) (own (last_is name place done t i e new.0 new.1 taken))
]

-- an entry that isn't taken changes nothing
kept : (name : List ℕ) (place : Option NormalPlace) (done : List ConfigEntry) (t : ConfigEntry) (found : List ℕ) → ((e : ConfigEntry) → ¬ IsTakenAt name place (done ++ t ∷ []) (length done) e) → AreUsed name place done found → AreUsed name place (done ++ t ∷ []) found
kept name place done t found untaken h = record {
  values = values_more name place done t found h (λ here. absurd (untaken t here));
  in_order = h.in_order;
  used = λ i. (
    λ there. used_more name place done t i (λ here. absurd (untaken t here)) ((h.used i).0 there),
    λ u. elim (taken_cases name place done t i u.entry u.taken) [
      | inl old ↦ (h.used i).1 (used_less name place done t i u old)
      | inr new ↦ absurd (untaken t (last_is name place done t i u.entry new.0 new.1 u.taken))
    ],
  );
}

-- an empty value clears the entries used before
none_used : (name : List ℕ) (place : Option NormalPlace) (done : List ConfigEntry) (t : ConfigEntry) (i : ℕ) → IsTakenAt name place (done ++ t ∷ []) (length done) t → t.value ≡ Some [] → ¬ IsUsedAt name place (done ++ t ∷ []) i
none_used name place done t i here empty u = elim (taken_cases name place done t i u.entry u.taken) [
  | inl old ↦ u.not_cleared (length done) t (place_within name place done i u.entry old) here empty
  | inr new ↦ u.not_empty (ap (λ (z : ConfigEntry). z.value) new.1 ∙ empty)
]

cleared : (name : List ℕ) (place : Option NormalPlace) (done : List ConfigEntry) (t : ConfigEntry) (found : List ℕ) → IsTakenAt name place (done ++ t ∷ []) (length done) t → t.value ≡ Some [] → AreUsed name place done found → AreUsed name place (done ++ t ∷ []) []
cleared name place done t found here empty h = record {
  values = values_more name place done t found h (λ _. apart t.value [] empty);
  in_order = λ k within. absurd (omega (arith, within));
  used = λ i. (
    λ there. absurd (none_contained i there),
    λ u. absurd (none_used name place done t i here empty u),
  );
}

-- an entry with a value that isn't empty is used
used_here : (name : List ℕ) (place : Option NormalPlace) (done : List ConfigEntry) (t : ConfigEntry) → IsTakenAt name place (done ++ t ∷ []) (length done) t → ¬ (t.value ≡ Some []) → IsUsedAt name place (done ++ t ∷ []) (length done)
used_here name place done t here some = record {
  entry = t;
  taken = here;
  not_empty = some;
  not_cleared = λ j e after h.
      let size : length (done ++ t ∷ []) ≡ length done + length (t ∷ []) = length-append done (t ∷ []) in
      let within : j < length (done ++ t ∷ []) = place_within name place (done ++ t ∷ []) j e h in
      absurd (omega (arith, size, within, after));
}

added_order : (name : List ℕ) (place : Option NormalPlace) (done : List ConfigEntry) (found : List ℕ) → AreUsed name place done found → (k d : ℕ) → k < length found → get_or found k d < length done
added_order name place done found h k d short =
    let u = (h.used (get_or found k d)).0 (Contains-get_or found k d short) in
    place_within name place done (get_or found k d) u.entry u.taken

added : (name : List ℕ) (place : Option NormalPlace) (done : List ConfigEntry) (t : ConfigEntry) (found : List ℕ) (b : ℕ) (bs : List ℕ) → IsTakenAt name place (done ++ t ∷ []) (length done) t → t.value ≡ Some (b ∷ bs) → AreUsed name place done found → AreUsed name place (done ++ t ∷ []) (found ++ length done ∷ [])
added name place done t found b bs here value h =
    let n = length done in
    let some = filled t.value b bs value in
    record {
      values = values_more name place done t found h (λ _. apart t.value (b ∷ bs) value);
      in_order = increasing_from_ascending (found ++ n ∷ []) (all_pairs_push (λ x y. x < y) found n (AllPairs-from_increasing found h.in_order) (added_order name place done found h));
      used = λ i. (
        λ there. elim (Contains-push_cases found n i there) [
          | inl old ↦ used_more name place done t i (λ _. some) ((h.used i).0 old)
          | inr same ↦ subst (IsUsedAt name place (done ++ t ∷ [])) same (used_here name place done t here some)
        ],
        λ u. elim (taken_cases name place done t i u.entry u.taken) [
          | inl old ↦ Contains-append_left found (n ∷ []) i ((h.used i).1 (used_less name place done t i u old))
          | inr new ↦ subst (Contains (found ++ n ∷ [])) (sym new.0) (Contains-push found n)
        ],
      );
    }

-- the same by cases on the value
by_value : (name : List ℕ) (place : Option NormalPlace) (done : List ConfigEntry) (t : ConfigEntry) (old new : List ℕ) (v : Option (List ℕ)) → t.value ≡ v → IsTakenAt name place (done ++ t ∷ []) (length done) t → IsAdded v (length done) old new → AreUsed name place done old → AreUsed name place (done ++ t ∷ []) new
by_value name place done t old new None is here add h = absurd add
by_value name place done t old new (Some []) is here add h =
    subst (AreUsed name place (done ++ t ∷ [])) (sym add) (cleared name place done t old here is h)
by_value name place done t old new (Some (b ∷ bs)) is here add h =
    subst (AreUsed name place (done ++ t ∷ [])) (sym add) (added name place done t old b bs here is h)

-- ---- the entries found so far

pub record ListedSoFar (name : List ℕ) (place : Option NormalPlace) (done : List ConfigEntry) (best : Option (ℕ × Rank)) (found : List ℕ) : Type 0 where
  pub so_far : IsBestSoFar (RanksSetting name place) done best
  pub used : AreUsed name place done found

-- an entry that is the best so far is taken
pub here_by_index : (name : List ℕ) (place : Option NormalPlace) (done : List ConfigEntry) (t : ConfigEntry) (r : Option (ℕ × Rank)) → IsBestSoFar (RanksSetting name place) (done ++ t ∷ []) r → IsBestIndex r (length done) → IsTakenAt name place (done ++ t ∷ []) (length done) t
here_by_index name place done t r best (rank, same) =
    taken_here name place done t rank (subst (IsBestSoFar (RanksSetting name place) (done ++ t ∷ [])) same best)

-- one entry further
pub listed_more : (name : List ℕ) (place : Option NormalPlace) (done : List ConfigEntry) (t : ConfigEntry) (best r : Option (ℕ × Rank)) (rank : Option Rank) (old new : List ℕ) (u : Unit {0}) → ListedSoFar name place done best old → HasRank (RanksSetting name place) t rank → IsBetter best (length done) rank r → AddsBest r t (length done) old new (Ok u) → ListedSoFar name place (done ++ t ∷ []) r new
listed_more name place done t best r rank old new u h ranked better (inl (index, add)) =
    let next = step (RanksSetting name place) done t (length done) best r rank h.so_far refl ranked better in
    record { so_far = next; used = by_value name place done t old new t.value refl (here_by_index name place done t r next index) add h.used }
listed_more name place done t best r rank old new u h ranked better (inr (other, same, _)) = record {
  so_far = step (RanksSetting name place) done t (length done) best r rank h.so_far refl ranked better;
  used = subst (AreUsed name place (done ++ t ∷ [])) (sym same) (kept name place done t old (untaken name place done t best r rank h.so_far ranked better other) h.used);
}
