-- The values that Git uses, with one entry more.
use Rattle.std.proofs.Common.{◌≡◌, ◌∙◌, ℕ, ◌+◌, ◌<◌, codes, Bool, true, false, bytes_eq, if◌then◌else◌, inl, inr, List, [], ◌∷◌, ◌++◌, Option, Some, None, length, take, get_or, map, refl, sym, ap, arith, add-one, append-nil}
use Rattle.std.specs.List.{cons_option, enumerate_from, last_or}
use Rattle.std.specs.Prelude.{◌||◌, filter, filter_map, is_some, option_map}
use Rattle.std.proofs.Math.Seq.{take-suc}
use Rattle.std.proofs.lemmas.Bool.{cases_Bool, cond-false, cond-true}
use Rattle.std.proofs.lemmas.List.{get_or-map, length-map, length-take-le, map-append, take_more}
use Rattle.std.proofs.lemmas.List.Elements.{filter-append, filter_map-append}
use Rattle.std.specs.Borrow.{Bor}
use Rattle.std.specs.BTreeMap.{BTreeMap, get_by}
use Rattle.std.specs.Cmp.Lexicographic.{slice_cmp}
use Rattle.std.specs.Map.{update}
use Rattle.std.specs.Ordering.{nat_cmp}
use Rattle.git_rules.proofs.Rules.RankLemmas.{front_more}
use Rattle.git_modules.specs.declared.submodules.Used.{Used}
use Rattle.git_modules.specs.SubmoduleView.{used_value}
use Rattle.git_modules.specs.SubmoduleInternal.{HasUses, NotesName, NotesUse, is_noted, noted_use}
use Rattle.git_rules.specs.Config.{ConfigEntry}
use Rattle.git_modules.specs.Submodules.{GitSubmodule, UsedValue, submodule_by, use_by, used_by, uses_by}

-- one item more has the next number
enumerate_more : {A : Type 0} (n : ℕ) (xs : List A) (x : A) → enumerate_from n (xs ++ x ∷ []) ≡ enumerate_from n xs ++ (n + length xs, x) ∷ []
enumerate_more n [] x = ap (λ m. (m, x) ∷ []) (omega arith)
enumerate_more n (y ∷ ys) x =
    let count : (n + 1) + length ys ≡ n + length (y ∷ ys) = omega arith in
    ap (λ t. (n, y) ∷ t) (enumerate_more (n + 1) ys x ∙ ap (λ m. enumerate_from (n + 1) ys ++ (m, x) ∷ []) count)

-- the last of items with one more is that one
last_push : (o : Option UsedValue) (us : List UsedValue) (u : UsedValue) → last_or o (us ++ u ∷ []) ≡ Some u
last_push o [] u = refl
last_push o (v ∷ us) u = last_push (Some v) us u

-- the values that entries give, with one entry more
uses_more : (key : List ℕ) (options : Bool) (entries : List ConfigEntry) (i : ℕ) (e : ConfigEntry) → i < length entries → e ≡ get_or entries i e → uses_by key options (take (i + 1) entries) ≡ uses_by key options (take i entries) ++ cons_option (use_by key options (i, e)) []
uses_more key options entries i e within at =
    let size : 0 + length (take i entries) ≡ i = omega (arith, length-take-le i entries (omega arith)) in
    ap (uses_by key options) (sym (front_more entries i e within at))
    ∙ ap (filter_map (use_by key options)) (enumerate_more 0 (take i entries) e)
    ∙ filter_map-append (use_by key options) (enumerate_from 0 (take i entries)) ((0 + length (take i entries), e) ∷ [])
    ∙ ap (λ n. uses_by key options (take i entries) ++ cons_option (use_by key options (n, e)) []) size

-- an entry that gives no value changes nothing
pub used_same : (key : List ℕ) (options : Bool) (entries : List ConfigEntry) (i : ℕ) (e : ConfigEntry) → i < length entries → e ≡ get_or entries i e → None ≡ use_by key options (i, e) → (name : List ℕ) → used_by key options (take (i + 1) entries) name ≡ used_by key options (take i entries) name
used_same key options entries i e within at none name =
    let all = uses_more key options entries i e within at ∙ ap (λ o. uses_by key options (take i entries) ++ cons_option o []) (sym none) ∙ append-nil (uses_by key options (take i entries)) in
    ap (λ us. last_or None (map (λ given. given.1) (filter (λ given. bytes_eq given.0 name) us))) all

-- an entry that gives one changes that of its submodule
pub used_more : (key : List ℕ) (options : Bool) (entries : List ConfigEntry) (i : ℕ) (e : ConfigEntry) (n : List ℕ) (u : UsedValue) → i < length entries → e ≡ get_or entries i e → Some (n, u) ≡ use_by key options (i, e) → (name : List ℕ) → used_by key options (take (i + 1) entries) name ≡ (if bytes_eq n name then Some u else used_by key options (take i entries) name)
used_more key options entries i e n u within at given name =
    let before = uses_by key options (take i entries) in
    let all = uses_more key options entries i e within at ∙ ap (λ o. uses_by key options (take i entries) ++ cons_option o []) (sym given) in
    let parts = ap (λ us. map (λ (x : List ℕ × UsedValue). x.1) (filter (λ x. bytes_eq x.0 name) us)) all
    ∙ ap (map (λ x. x.1)) (filter-append (λ x. bytes_eq x.0 name) before ((n, u) ∷ []))
    ∙ map-append (λ x. x.1) (filter (λ x. bytes_eq x.0 name) before) (filter (λ x. bytes_eq x.0 name) ((n, u) ∷ [])) in
    elim (cases_Bool (bytes_eq n name)) [
      | inl is ↦ ap (last_or None) parts ∙ ap (λ t. last_or None (map (λ x. x.1) (filter (λ x. bytes_eq x.0 name) before) ++ map (λ x. x.1) t)) (cond-true _ _ _ is) ∙ last_push None (map (λ x. x.1) (filter (λ x. bytes_eq x.0 name) before)) u ∙ sym (cond-true _ _ _ is)
      | inr it_isnt ↦ ap (last_or None) parts ∙ ap (λ t. last_or None (map (λ x. x.1) (filter (λ x. bytes_eq x.0 name) before) ++ map (λ x. x.1) t)) (cond-false _ _ _ it_isnt) ∙ ap (last_or None) (append-nil (map (λ x. x.1) (filter (λ x. bytes_eq x.0 name) before))) ∙ sym (cond-false _ _ _ it_isnt)
    ]

-- a value that is noted in a map
pub noted_more : (uses after : BTreeMap (Bor (List ℕ)) Used) (name : List ℕ) (u : Used) → ((q : List ℕ) → get_by (λ k. slice_cmp nat_cmp q k.now) after ≡ update bytes_eq (λ ds. get_by (λ k. slice_cmp nat_cmp ds k.now) uses) name (Some u) q) → NotesUse uses name (used_value u) after
noted_more uses after name u h q =
    elim (cases_Bool (bytes_eq name q)) [
      | inl is ↦ ap (option_map used_value) (h q ∙ cond-true _ _ _ is) ∙ sym (cond-true _ _ _ is)
      | inr other ↦ ap (option_map used_value) (h q ∙ cond-false _ _ _ other) ∙ sym (cond-false _ _ _ other)
    ]

-- a name that is noted in a map
pub noted_name : (seen after : BTreeMap (Bor (List ℕ)) (Unit {0})) (name : List ℕ) → ((q : List ℕ) → get_by (λ k. slice_cmp nat_cmp q k.now) after ≡ update bytes_eq (λ ds. get_by (λ k. slice_cmp nat_cmp ds k.now) seen) name (Some tt) q) → NotesName seen name after
noted_name seen after name h q =
    elim (cases_Bool (bytes_eq name q)) [
      | inl is ↦ ap is_some (h q ∙ cond-true _ _ _ is) ∙ sym (ap (λ x. x || is_noted seen q) is)
      | inr other ↦ ap is_some (h q ∙ cond-false _ _ _ other) ∙ sym (ap (λ x. x || is_noted seen q) other)
    ]

-- the submodules of these names, with one name more
pub listed_more : (entries : List ConfigEntry) (names : List (Bor (List ℕ))) (i : ℕ) (d : Bor (List ℕ)) (paths urls updates branches : BTreeMap (Bor (List ℕ)) Used) (path url way branch : Option UsedValue) (old new : List GitSubmodule) → i < length names → HasUses (codes "path") false entries paths → HasUses (codes "url") false entries urls → HasUses (codes "update") true entries updates → HasUses (codes "branch") true entries branches → path ≡ noted_use paths (get_or names i d).now → url ≡ noted_use urls (get_or names i d).now → way ≡ noted_use updates (get_or names i d).now → branch ≡ noted_use branches (get_or names i d).now → old ≡ map (submodule_by entries) (take i (map (λ t. t.now) names)) → new ≡ old ++ record { name = (get_or names i d).now; path = path; url = url; update = way; branch = branch } ∷ [] → new ≡ map (submodule_by entries) (take (i + 1) (map (λ t. t.now) names))
listed_more entries names i d paths urls updates branches path url way branch old new within p u w b p' u' w' b' before pushed =
    let name = (get_or names i d).now in
    let this : record { name = name; path = path; url = url; update = way; branch = branch } ≡ submodule_by entries name = λ k. record { name = name; path = (p' ∙ p name) k; url = (u' ∙ u name) k; update = (w' ∙ w name) k; branch = (b' ∙ b name) k } in
    let long : i < length (map (λ (t : Bor (List ℕ)). t.now) names) = simp length-map within in
    let more = take_more (map (λ (t : Bor (List ℕ)). t.now) names) i [] long ∙ ap (λ x. take i (map (λ (t : Bor (List ℕ)). t.now) names) ++ x ∷ []) (get_or-map (λ (t : Bor (List ℕ)). t.now) names i d [] within) in
    pushed ∙ ap (λ t. old ++ t ∷ []) this ∙ ap (λ t. t ++ submodule_by entries name ∷ []) before ∙ sym (ap (map (submodule_by entries)) more ∙ map-append (submodule_by entries) (take i (map (λ t. t.now) names)) (name ∷ []))
