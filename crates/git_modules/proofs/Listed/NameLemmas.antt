-- The names of submodules, each if it comes first, with one entry more.
use Rattle.std.proofs.Common.{◌≡◌, ◌∙◌, ℕ, ◌+◌, ◌<◌, Bool, true, false, not, ◌||◌, bytes_eq, if◌then◌else◌, inl, inr, List, [], ◌∷◌, ◌++◌, Some, None, length, take, get_or, refl, sym, ap, append-nil}
use Rattle.std.specs.Prelude.{filter, filter_map}
use Rattle.std.specs.List.{cons_option, list_any}
use Rattle.std.proofs.lemmas.Bool.{cases_Bool, cond-false, cond-true}
use Rattle.std.proofs.lemmas.List.Elements.{filter-append, filter_map-append}
use Rattle.std.proofs.lemmas.List.Folds.{list_any-append}
use Rattle.std.proofs.lemmas.Slice.Eq.{bytes_eq-Decides}
use Rattle.git_rules.specs.Config.{ConfigEntry}
use Rattle.git_modules.specs.Submodules.{first_names, names_of, taken_name}
use Rattle.git_modules.proofs.Urls.FeedLemmas.{clash}
use Rattle.git_rules.proofs.Rules.RankLemmas.{front_more}

-- either of two truths
either : (a b : Bool) → (a || (b || false)) ≡ (b || a)
either true true = refl
either true false = refl
either false true = refl
either false false = refl

-- two texts are compared in either order
swapped : (a b : List ℕ) (r : Bool) → bytes_eq a b ≡ r → bytes_eq b a ≡ r
swapped a b true h = (bytes_eq-Decides b a).1 (sym ((bytes_eq-Decides a b).0 h))
swapped a b false h =
    elim (cases_Bool (bytes_eq b a)) [
      | inl is ↦ absurd (clash (bytes_eq a b) ((bytes_eq-Decides a b).1 (sym ((bytes_eq-Decides b a).0 is))) h)
      | inr it_isnt ↦ it_isnt
    ]

-- a name among these is left out
among : (m n : List ℕ) (ns : List (List ℕ)) → list_any (λ o. bytes_eq o n) ns ≡ true → list_any (λ o. bytes_eq o n) (m ∷ ns) ≡ true
among m n ns h =
    elim (cases_Bool (bytes_eq m n)) [
      | inl is ↦ ap (λ x. x || list_any (λ o. bytes_eq o n) ns) is
      | inr it_isnt ↦ ap (λ x. x || list_any (λ o. bytes_eq o n) ns) it_isnt ∙ h
    ]

-- the first names, with one more
pub first_more : (ns : List (List ℕ)) (n : List ℕ) → first_names (ns ++ n ∷ []) ≡ (if list_any (λ o. bytes_eq o n) ns then first_names ns else first_names ns ++ n ∷ [])
first_more [] n = refl
first_more (m ∷ ns) n =
    let others = first_more ns n in
    let step : first_names ((m ∷ ns) ++ n ∷ []) ≡ m ∷ filter (λ o. not (bytes_eq o m)) (if list_any (λ o. bytes_eq o n) ns then first_names ns else first_names ns ++ n ∷ []) = ap (λ t. m ∷ filter (λ o. not (bytes_eq o m)) t) others in
    elim (cases_Bool (list_any (λ o. bytes_eq o n) ns)) [
      | inl is ↦ step ∙ ap (λ t. m ∷ filter (λ o. not (bytes_eq o m)) t) (cond-true _ _ _ is) ∙ sym (cond-true _ _ _ (among m n ns is))
      | inr none ↦
          let pushed = step ∙ ap (λ t. m ∷ filter (λ o. not (bytes_eq o m)) t) (cond-false _ _ _ none) ∙ ap (λ t. m ∷ t) (filter-append (λ o. not (bytes_eq o m)) (first_names ns) (n ∷ [])) in
          elim (cases_Bool (bytes_eq m n)) [
            | inl is ↦
                let left : not (bytes_eq n m) ≡ false = ap not (swapped m n true is) in
                let whole : list_any (λ o. bytes_eq o n) (m ∷ ns) ≡ true = ap (λ x. x || list_any (λ o. bytes_eq o n) ns) is in
                pushed ∙ ap (λ t. m ∷ (filter (λ o. not (bytes_eq o m)) (first_names ns) ++ t)) (cond-false _ _ _ left) ∙ ap (λ t. m ∷ t) (append-nil _) ∙ sym (cond-true _ _ _ whole)
            | inr it_isnt ↦
                let left : not (bytes_eq n m) ≡ true = ap not (swapped m n false it_isnt) in
                let whole : list_any (λ o. bytes_eq o n) (m ∷ ns) ≡ false = ap (λ x. x || list_any (λ o. bytes_eq o n) ns) it_isnt ∙ none in
                pushed ∙ ap (λ t. m ∷ (filter (λ o. not (bytes_eq o m)) (first_names ns) ++ t)) (cond-true _ _ _ left) ∙ sym (cond-false _ _ _ whole)
          ]
    ]

-- the names that entries have, with one entry more
taken_more : (entries : List ConfigEntry) (i : ℕ) (e : ConfigEntry) → i < length entries → e ≡ get_or entries i e → filter_map taken_name (take (i + 1) entries) ≡ filter_map taken_name (take i entries) ++ cons_option (taken_name e) []
taken_more entries i e within at =
    ap (filter_map taken_name) (sym (front_more entries i e within at)) ∙ filter_map-append taken_name (take i entries) (e ∷ [])

-- an entry that isn't taken adds none
pub taken_same : (entries : List ConfigEntry) (i : ℕ) (e : ConfigEntry) → i < length entries → e ≡ get_or entries i e → None ≡ taken_name e → filter_map taken_name (take (i + 1) entries) ≡ filter_map taken_name (take i entries)
taken_same entries i e within at none =
    taken_more entries i e within at ∙ ap (λ o. filter_map taken_name (take i entries) ++ cons_option o []) (sym none) ∙ append-nil _

-- an entry that is taken adds its name
pub taken_push : (entries : List ConfigEntry) (i : ℕ) (e : ConfigEntry) (n : List ℕ) → i < length entries → e ≡ get_or entries i e → Some n ≡ taken_name e → filter_map taken_name (take (i + 1) entries) ≡ filter_map taken_name (take i entries) ++ n ∷ []
taken_push entries i e n within at some =
    taken_more entries i e within at ∙ ap (λ o. filter_map taken_name (take i entries) ++ cons_option o []) (sym some)

-- whether a name is among these, with one more
pub any_push : (ns : List (List ℕ)) (n q : List ℕ) → list_any (λ o. bytes_eq o q) (ns ++ n ∷ []) ≡ (bytes_eq n q || list_any (λ o. bytes_eq o q) ns)
any_push ns n q =
    list_any-append (λ o. bytes_eq o q) ns (n ∷ []) ∙ either (list_any (λ o. bytes_eq o q) ns) (bytes_eq n q)

-- a name that comes first is added
pub names_pushed : (entries : List ConfigEntry) (i : ℕ) (e : ConfigEntry) (n : List ℕ) (before : List (List ℕ)) → i < length entries → e ≡ get_or entries i e → Some n ≡ taken_name e → before ≡ names_of (take i entries) → list_any (λ o. bytes_eq o n) (filter_map taken_name (take i entries)) ≡ false → before ++ n ∷ [] ≡ names_of (take (i + 1) entries)
names_pushed entries i e n before within at some so none =
    ap (λ t. t ++ n ∷ []) so ∙ sym (ap first_names (taken_push entries i e n within at some) ∙ first_more (filter_map taken_name (take i entries)) n ∙ cond-false _ _ _ none)

-- one that came before isn't
pub names_kept : (entries : List ConfigEntry) (i : ℕ) (e : ConfigEntry) (n : List ℕ) (before : List (List ℕ)) → i < length entries → e ≡ get_or entries i e → Some n ≡ taken_name e → before ≡ names_of (take i entries) → list_any (λ o. bytes_eq o n) (filter_map taken_name (take i entries)) ≡ true → before ≡ names_of (take (i + 1) entries)
names_kept entries i e n before within at some so is =
    so ∙ sym (ap first_names (taken_push entries i e n within at some) ∙ first_more (filter_map taken_name (take i entries)) n ∙ cond-true _ _ _ is)

-- an entry that isn't taken leaves the names
pub names_same : (entries : List ConfigEntry) (i : ℕ) (e : ConfigEntry) (before : List (List ℕ)) → i < length entries → e ≡ get_or entries i e → None ≡ taken_name e → before ≡ names_of (take i entries) → before ≡ names_of (take (i + 1) entries)
names_same entries i e before within at none so = so ∙ sym (ap first_names (taken_same entries i e within at none))

-- the names that are noted, with one more
pub seen_pushed : (entries : List ConfigEntry) (i : ℕ) (e : ConfigEntry) (n q : List ℕ) (was after : Bool) → i < length entries → e ≡ get_or entries i e → Some n ≡ taken_name e → was ≡ list_any (λ o. bytes_eq o q) (filter_map taken_name (take i entries)) → after ≡ (bytes_eq n q || was) → after ≡ list_any (λ o. bytes_eq o q) (filter_map taken_name (take (i + 1) entries))
seen_pushed entries i e n q was after within at some so now =
    now ∙ ap (λ x. bytes_eq n q || x) so ∙ sym (ap (list_any (λ o. bytes_eq o q)) (taken_push entries i e n within at some) ∙ any_push (filter_map taken_name (take i entries)) n q)

-- and with none
pub seen_same : (entries : List ConfigEntry) (i : ℕ) (e : ConfigEntry) (q : List ℕ) (was : Bool) → i < length entries → e ≡ get_or entries i e → None ≡ taken_name e → was ≡ list_any (λ o. bytes_eq o q) (filter_map taken_name (take i entries)) → was ≡ list_any (λ o. bytes_eq o q) (filter_map taken_name (take (i + 1) entries))
seen_same entries i e q was within at none so = so ∙ sym (ap (list_any (λ o. bytes_eq o q)) (taken_same entries i e within at none))

-- a new name wasn't noted, and a name that isn't new was
pub noted_is : (new noted : Bool) → new ≡ not noted → noted ≡ not new
noted_is new true h = sym (ap not h)
noted_is new false h = sym (ap not h)
