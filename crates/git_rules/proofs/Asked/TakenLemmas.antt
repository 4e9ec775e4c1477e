-- The settings that are used, with one entry more.
use Rattle.std.proofs.Common.{◌≡◌, ℕ, ◌+◌, ◌<◌, ◌↔◌, inl, inr, Bool, List, [], ◌∷◌, ◌++◌, codes, length, get_or, refl, sym, ap, subst, ◌∙◌, arith, length-append, IsTrue, Option, Some, None, Contains}
use Rattle.std.specs.List.Sorted.{IsStrictlyIncreasing}
use Rattle.std.proofs.lemmas.List.Quantifiers.{all_pairs_push}
use Rattle.std.proofs.lemmas.List.Elements.{Contains-append_left, Contains-get_or, Contains-push, Contains-push_cases}
use Rattle.std.proofs.lemmas.List.Kept.{AllPairs-from_increasing}
use Rattle.git_reads.specs.Credentials.{CredentialReading}
use Rattle.git_rules.specs.declared.credentials.CredentialsError.{CredentialsError}
use Rattle.git_rules.specs.declared.credentials.CredentialsError.TheVariants.{Memory, NoBoolean, NoValue}
use Rattle.git_rules.specs.Config.{ConfigEntry}
use Rattle.git_rules.specs.CredentialEntries.{AppliesAt, AppliesTo, CredentialUse, SetsAt}
use Rattle.git_rules.specs.Credentials.{AddsHelper, AreCredentials, IsHelperAt, SetsPath, StopsAt, Takes, UsesPath, boolean_value}
use Rattle.git_rules.specs.Settings.{IsAdded}
use Rattle.git_rules.proofs.Asked.AppliedLemmas.{applied_cases, applies_here, not_here, place_within, sets_cases, sets_grow, through_more}
use Rattle.git_rules.proofs.Settled.ListLemmas.{increasing_from_ascending, none_contained}
use Rattle.git_rules.proofs.Settled.UsedLemmas.{filled}

-- ---- helpers

-- the name of a helper, and that of the use of the path
abbrev pub helper : List ℕ
helper = codes "helper"

abbrev pub use_path : List ℕ
use_path = codes "usehttppath"

-- a helper stays one, unless the next entry clears it
helper_more : (r : CredentialReading) (done : List ConfigEntry) (t : ConfigEntry) (i : ℕ) → (SetsAt helper r (done ++ t ∷ []) (length done) t → ¬ (t.value ≡ Some [])) → IsHelperAt r done i → IsHelperAt r (done ++ t ∷ []) i
helper_more r done t i keeps u = record {
  entry = u.entry;
  sets = sets_grow helper r done (t ∷ []) i u.entry u.sets;
  not_empty = u.not_empty;
  kept = λ j e after s. elim (sets_cases helper r done t j e s) [
    | inl old ↦ u.kept j e after old
    | inr new ↦ subst (λ (z : ConfigEntry). ¬ (z.value ≡ Some [])) (sym new.1) (keeps new.2)
  ];
}

-- a helper that isn't the last entry was one before
helper_less : (r : CredentialReading) (done : List ConfigEntry) (t : ConfigEntry) (i : ℕ) (u : IsHelperAt r (done ++ t ∷ []) i) → SetsAt helper r done i u.entry → IsHelperAt r done i
helper_less r done t i u old = record {
  entry = u.entry;
  sets = old;
  not_empty = u.not_empty;
  kept = λ j e after s. u.kept j e after (sets_grow helper r done (t ∷ []) j e s);
}

-- the list holds the helpers
abbrev pub Lists : CredentialReading → List ConfigEntry → List ℕ → Type 0
Lists r entries found = IsStrictlyIncreasing found × ((i : ℕ) → Contains found i ↔ IsHelperAt r entries i)

-- an entry that doesn't apply as a helper changes nothing
helpers_kept : (r : CredentialReading) (done : List ConfigEntry) (t : ConfigEntry) (found : List ℕ) → ¬ SetsAt helper r (done ++ t ∷ []) (length done) t → Lists r done found → Lists r (done ++ t ∷ []) found
helpers_kept r done t found none (ordered, holds) = (
  ordered,
  λ i. (
    λ there. helper_more r done t i (λ s. absurd (none s)) ((holds i).0 there),
    λ u. elim (sets_cases helper r done t i u.entry u.sets) [
      | inl old ↦ (holds i).1 (helper_less r done t i u old)
      | inr new ↦ absurd (none new.2)
    ],
  ),
)

-- an empty value clears the helpers
none_asked : (r : CredentialReading) (done : List ConfigEntry) (t : ConfigEntry) (i : ℕ) → SetsAt helper r (done ++ t ∷ []) (length done) t → t.value ≡ Some [] → ¬ IsHelperAt r (done ++ t ∷ []) i
none_asked r done t i here empty u = elim (sets_cases helper r done t i u.entry u.sets) [
  | inl old ↦ u.kept (length done) t (place_within r done i u.entry old.0) here empty
  | inr new ↦ u.not_empty (ap (λ (z : ConfigEntry). z.value) new.1 ∙ empty)
]

helpers_cleared : (r : CredentialReading) (done : List ConfigEntry) (t : ConfigEntry) → SetsAt helper r (done ++ t ∷ []) (length done) t → t.value ≡ Some [] → Lists r (done ++ t ∷ []) []
helpers_cleared r done t here empty = (
  λ k within. absurd (omega (arith, within)),
  λ i. (λ there. absurd (none_contained i there), λ u. absurd (none_asked r done t i here empty u)),
)

-- nothing follows the last entry
none_after : (r : CredentialReading) (done : List ConfigEntry) (t : ConfigEntry) (j : ℕ) (e : ConfigEntry) → length done < j → ¬ AppliesAt r (done ++ t ∷ []) j e
none_after r done t j e after h =
    let size : length (done ++ t ∷ []) ≡ length done + length (t ∷ []) = length-append done (t ∷ []) in
    let within : j < length (done ++ t ∷ []) = place_within r (done ++ t ∷ []) j e h in
    absurd (omega (arith, size, within, after))

-- a value that isn't empty is a helper
helper_here : (r : CredentialReading) (done : List ConfigEntry) (t : ConfigEntry) → SetsAt helper r (done ++ t ∷ []) (length done) t → ¬ (t.value ≡ Some []) → IsHelperAt r (done ++ t ∷ []) (length done)
helper_here r done t here some = record {
  entry = t;
  sets = here;
  not_empty = some;
  kept = λ j e after s. absurd (none_after r done t j e after s.0);
}

below : (r : CredentialReading) (done : List ConfigEntry) (found : List ℕ) → Lists r done found → (k d : ℕ) → k < length found → get_or found k d < length done
below r done found (ordered, holds) k d short =
    let u = (holds (get_or found k d)).0 (Contains-get_or found k d short) in
    place_within r done (get_or found k d) u.entry u.sets.0

helpers_added : (r : CredentialReading) (done : List ConfigEntry) (t : ConfigEntry) (found : List ℕ) → SetsAt helper r (done ++ t ∷ []) (length done) t → ¬ (t.value ≡ Some []) → Lists r done found → Lists r (done ++ t ∷ []) (found ++ length done ∷ [])
helpers_added r done t found here some h =
    let n = length done in (
      increasing_from_ascending (found ++ n ∷ []) (all_pairs_push (λ x y. x < y) found n (AllPairs-from_increasing found h.0) (below r done found h)),
      λ i. (
        λ there. elim (Contains-push_cases found n i there) [
          | inl old ↦ helper_more r done t i (λ _. some) ((h.1 i).0 old)
          | inr same ↦ subst (IsHelperAt r (done ++ t ∷ [])) same (helper_here r done t here some)
        ],
        λ u. elim (sets_cases helper r done t i u.entry u.sets) [
          | inl old ↦ Contains-append_left found (n ∷ []) i ((h.1 i).1 (helper_less r done t i u old))
          | inr new ↦ subst (Contains (found ++ n ∷ [])) (sym new.0) (Contains-push found n)
        ],
      ),
    )

-- the same by cases on the value
helpers_by_value : (r : CredentialReading) (done : List ConfigEntry) (t : ConfigEntry) (old new : List ℕ) (v : Option (List ℕ)) → t.value ≡ v → SetsAt helper r (done ++ t ∷ []) (length done) t → IsAdded v (length done) old new → Lists r done old → Lists r (done ++ t ∷ []) new
helpers_by_value r done t old new None is here add h = absurd add
helpers_by_value r done t old new (Some []) is here add h =
    subst (Lists r (done ++ t ∷ [])) (sym add) (helpers_cleared r done t here is)
helpers_by_value r done t old new (Some (b ∷ bs)) is here add h =
    subst (Lists r (done ++ t ∷ [])) (sym add) (helpers_added r done t old here (filled t.value b bs is) h)

helpers_after : (r : CredentialReading) (done : List ConfigEntry) (t : ConfigEntry) (old new : List ℕ) → AppliesAt r (done ++ t ∷ []) (length done) t → AddsHelper t (length done) old new → Lists r done old → Lists r (done ++ t ∷ []) new
helpers_after r done t old new applies (inl (named, add)) h = helpers_by_value r done t old new t.value refl (applies, named) add h
helpers_after r done t old new applies (inr (other, same)) h =
    subst (Lists r (done ++ t ∷ [])) (sym same) (helpers_kept r done t old (λ s. cc (other, s.1)) h)

-- ---- the path of HTTP

path_more : (r : CredentialReading) (done : List ConfigEntry) (t : ConfigEntry) → ¬ SetsAt use_path r (done ++ t ∷ []) (length done) t → UsesPath r done → UsesPath r (done ++ t ∷ [])
path_more r done t none u = record {
  index = u.index;
  entry = u.entry;
  sets = sets_grow use_path r done (t ∷ []) u.index u.entry u.sets;
  is_true = u.is_true;
  last = λ j e after s. elim (sets_cases use_path r done t j e s) [
    | inl old ↦ u.last j e after old
    | inr new ↦ none new.2
  ];
}

path_less : (r : CredentialReading) (done : List ConfigEntry) (t : ConfigEntry) → ¬ SetsAt use_path r (done ++ t ∷ []) (length done) t → UsesPath r (done ++ t ∷ []) → UsesPath r done
path_less r done t none u = elim (sets_cases use_path r done t u.index u.entry u.sets) [
  | inl old ↦ record {
    index = u.index;
    entry = u.entry;
    sets = old;
    is_true = u.is_true;
    last = λ j e after s. u.last j e after (sets_grow use_path r done (t ∷ []) j e s);
  }
  | inr new ↦ absurd (none new.2)
]

-- an entry that doesn't apply with that name changes nothing
path_kept : (r : CredentialReading) (done : List ConfigEntry) (t : ConfigEntry) (on : Bool) → ¬ SetsAt use_path r (done ++ t ∷ []) (length done) t → IsTrue on ↔ UsesPath r done → IsTrue on ↔ UsesPath r (done ++ t ∷ [])
path_kept r done t on none (to, from) = (λ h. path_more r done t none (to h), λ u. from (path_less r done t none u))

some_same : {a b : Bool} → Some a ≡ Some b → a ≡ b
some_same e = cc

-- the last one counts
path_set : (r : CredentialReading) (done : List ConfigEntry) (t : ConfigEntry) (on : Bool) → SetsAt use_path r (done ++ t ∷ []) (length done) t → boolean_value t ≡ Some on → IsTrue on ↔ UsesPath r (done ++ t ∷ [])
path_set r done t on here value = (
  λ h. record {
    index = length done;
    entry = t;
    sets = here;
    is_true = value ∙ ap Some h;
    last = λ j e after s. none_after r done t j e after s.0;
  },
  λ u. elim (sets_cases use_path r done t u.index u.entry u.sets) [
    | inl old ↦ absurd (u.last (length done) t (place_within r done u.index u.entry old.0) here)
    | inr new ↦ some_same (sym value ∙ ap boolean_value (sym new.1) ∙ u.is_true)
  ],
)

path_after : (r : CredentialReading) (done : List ConfigEntry) (t : ConfigEntry) (old new : Bool) → AppliesAt r (done ++ t ∷ []) (length done) t → SetsPath t old new → IsTrue old ↔ UsesPath r done → IsTrue new ↔ UsesPath r (done ++ t ∷ [])
path_after r done t old new applies (inl (named, value)) h = path_set r done t new (applies, named) value
path_after r done t old new applies (inr (other, same)) h =
    subst (λ on. IsTrue on ↔ UsesPath r (done ++ t ∷ [])) (sym same) (path_kept r done t old (λ s. cc (other, s.1)) h)

-- ---- all of it

-- Git doesn't stop at an entry that was taken
never_stops : (t : ConfigEntry) (error : CredentialsError) (old new : Bool) → ¬ (t.value ≡ None) → SetsPath t old new → ¬ StopsAt t error
never_stops t Memory old new some path stops = stops
never_stops t (NoValue at) old new some path stops = some stops.0
never_stops t (NoBoolean at) old new some (inl (named, value)) stops = cc (value, stops.2)
never_stops t (NoBoolean at) old new some (inr (other, same)) stops = cc (other, stops.0)

-- an entry that applies is taken
pub taken_more : (r : CredentialReading) (done : List ConfigEntry) (t : ConfigEntry) (used new : CredentialUse) → AreCredentials r done used → AppliesTo r used.user t → Takes r.user t (length done) used new → AreCredentials r (done ++ t ∷ []) new
taken_more r done t used new h applies takes =
    let here = applies_here r done [] t used.user h.through applies in
    let lists = helpers_after r done t used.helpers new.helpers here takes.helpers (h.in_order, h.asked) in
    record {
      sound = λ i e error at. elim (applied_cases r done t i e at) [
        | inl old ↦ h.sound i e error old
        | inr last ↦ subst (λ z. ¬ StopsAt z error) (sym last.1) (never_stops t error used.use_http_path new.use_http_path takes.value takes.path)
      ];
      in_order = lists.0;
      asked = lists.1;
      through = through_more r done t r.user used.user new.user h.through (inl (applies, takes.user));
      path = path_after r done t used.use_http_path new.use_http_path here takes.path h.path;
    }

-- an entry that doesn't apply is passed over
pub passed_over : (r : CredentialReading) (done : List ConfigEntry) (t : ConfigEntry) (used : CredentialUse) → AreCredentials r done used → ¬ AppliesTo r used.user t → AreCredentials r (done ++ t ∷ []) used
passed_over r done t used h not_so =
    let none = not_here r done t used.user h.through not_so in
    let lists = helpers_kept r done t used.helpers (λ s. none t s.0) (h.in_order, h.asked) in
    record {
      sound = λ i e error at. elim (applied_cases r done t i e at) [
        | inl old ↦ h.sound i e error old
        | inr last ↦ absurd (none e (subst (λ z. AppliesAt r (done ++ t ∷ []) z e) last.0 at))
      ];
      in_order = lists.0;
      asked = lists.1;
      through = through_more r done t r.user used.user used.user h.through (inr (not_so, refl));
      path = path_kept r done t used.use_http_path (λ s. none t s.0) h.path;
    }
