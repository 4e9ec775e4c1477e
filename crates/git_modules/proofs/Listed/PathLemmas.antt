-- The paths of submodules, and of how many each is, with one submodule more.
use Rattle.std.proofs.Common.{◌≡◌, ◌∙◌, ℕ, zero, suc, ◌+◌, ◌<◌, arith, Bool, true, false, bytes_eq, nat_lt, inl, inr, List, [], ◌∷◌, ◌++◌, Some, None, length, length-append, take, get_or, refl, sym, ap, add-zero}
use Rattle.std.specs.Prelude.{◌==◌, filter, is_some}
use Rattle.std.specs.Option.{option_map_or}
use Rattle.std.proofs.lemmas.Bool.Decides.{nat_tests}
use Rattle.std.proofs.lemmas.Bool.{cases_Bool, cond-false, cond-true}
use Rattle.std.proofs.lemmas.List.{take_more}
use Rattle.std.proofs.lemmas.List.Elements.{filter-append}
use Rattle.std.proofs.lemmas.Slice.Eq.{bytes_eq-Decides}
use Rattle.std.specs.Borrow.{Bor}
use Rattle.std.specs.BTreeMap.{BTreeMap, get_by}
use Rattle.std.specs.Cmp.Lexicographic.{slice_cmp}
use Rattle.std.specs.Map.{update}
use Rattle.std.specs.Ordering.{nat_cmp}
use Rattle.git_modules.specs.Submodules.{GitSubmodule, UsedValue}
use Rattle.git_modules.specs.SubmoduleDefects.{has_path, path_count}
use Rattle.git_modules.specs.SubmoduleInternal.{HasPaths, NotesPath, count_note, noted_path}

-- a path that is noted in a map
pub path_noted : (paths after : BTreeMap (Bor (List ℕ)) Bool) (p : List ℕ) (b : Bool) → ((q : List ℕ) → get_by (λ k. slice_cmp nat_cmp q k.now) after ≡ update bytes_eq (λ ds. get_by (λ k. slice_cmp nat_cmp ds k.now) paths) p (Some b) q) → b ≡ is_some (noted_path paths p) → NotesPath paths p after
path_noted paths after p b h so q =
    elim (cases_Bool (bytes_eq p q)) [
      | inl is ↦ h q ∙ cond-true _ _ _ is ∙ ap Some so ∙ sym (cond-true _ _ _ is)
      | inr other ↦ h q ∙ cond-false _ _ _ other ∙ sym (cond-false _ _ _ other)
    ]

-- how many have a path, with one submodule more
count_more : (p : List ℕ) (all : List GitSubmodule) (i : ℕ) (s : GitSubmodule) → i < length all → s ≡ get_or all i s → path_count p (take (i + 1) all) ≡ path_count p (take i all) + length (filter (has_path p) (s ∷ []))
count_more p all i s within at =
    ap (path_count p) (take_more all i s within ∙ ap (λ x. take i all ++ x ∷ []) (sym at))
    ∙ ap length (filter-append (has_path p) (take i all) (s ∷ []))
    ∙ length-append (filter (has_path p) (take i all)) (filter (has_path p) (s ∷ []))

-- one that has it counts
count_has : (p : List ℕ) (all : List GitSubmodule) (i : ℕ) (s : GitSubmodule) → i < length all → s ≡ get_or all i s → has_path p s ≡ true → path_count p (take (i + 1) all) ≡ path_count p (take i all) + 1
count_has p all i s within at has =
    count_more p all i s within at ∙ ap (λ xs. path_count p (take i all) + length xs) (cond-true _ _ _ has)

-- one that hasn't doesn't
count_lacks : (p : List ℕ) (all : List GitSubmodule) (i : ℕ) (s : GitSubmodule) → i < length all → s ≡ get_or all i s → has_path p s ≡ false → path_count p (take (i + 1) all) ≡ path_count p (take i all)
count_lacks p all i s within at lacks =
    count_more p all i s within at ∙ ap (λ xs. path_count p (take i all) + length xs) (cond-false _ _ _ lacks) ∙ add-zero (path_count p (take i all))

-- the record of one more submodule
note_next : (n : ℕ) → count_note (n + 1) ≡ Some (is_some (count_note n))
note_next zero = refl
note_next (suc n) =
    let none : (suc n + 1 == 0) ≡ false = grind (arith, nat_tests) in
    let two : nat_lt 1 (suc n + 1) ≡ true = grind (arith, nat_tests) in
    let some : (suc n == 0) ≡ false = grind (arith, nat_tests) in
    cond-false _ _ _ none ∙ ap Some two ∙ sym (ap (λ o. Some (is_some o)) (cond-false _ _ _ some))

-- a submodule without a path changes nothing
pub paths_same : (all : List GitSubmodule) (i : ℕ) (s : GitSubmodule) (paths : BTreeMap (Bor (List ℕ)) Bool) → i < length all → s ≡ get_or all i s → s.path ≡ None → HasPaths (take i all) paths → HasPaths (take (i + 1) all) paths
paths_same all i s paths within at none before q =
    let lacks : has_path q s ≡ false = ap (λ o. option_map_or (λ (path : UsedValue). bytes_eq path.value q) o false) none in
    before q ∙ ap count_note (sym (count_lacks q all i s within at lacks))

-- one with a path changes the record for that path
pub paths_more : (all : List GitSubmodule) (i : ℕ) (s : GitSubmodule) (u : UsedValue) (paths after : BTreeMap (Bor (List ℕ)) Bool) → i < length all → s ≡ get_or all i s → s.path ≡ Some u → HasPaths (take i all) paths → NotesPath paths u.value after → HasPaths (take (i + 1) all) after
paths_more all i s u paths after within at some before noted q =
    let has_same : has_path q s ≡ bytes_eq u.value q = ap (λ o. option_map_or (λ (path : UsedValue). bytes_eq path.value q) o false) some in
    elim (cases_Bool (bytes_eq u.value q)) [
      | inl is ↦
          let same : u.value ≡ q = (bytes_eq-Decides u.value q).0 is in
          noted q ∙ cond-true _ _ _ is ∙ ap (λ p. Some (is_some (noted_path paths p))) same ∙ ap (λ o. Some (is_some o)) (before q)
          ∙ sym (note_next (path_count q (take i all))) ∙ ap count_note (sym (count_has q all i s within at (has_same ∙ is)))
      | inr other ↦
          noted q ∙ cond-false _ _ _ other ∙ before q ∙ ap count_note (sym (count_lacks q all i s within at (has_same ∙ other)))
    ]
