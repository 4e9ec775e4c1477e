-- The rules of entries: the rules that an entry adds, and the rules of a configuration.
use Rattle.std.proofs.Common.{◌≡◌, ℕ, ◌+◌, ◌<◌, suc, true, ◌⊎◌, List, [], ◌∷◌, ◌++◌, Some, Err, length, take, drop, get_or, refl, sym, ap, subst, ◌∙◌, append_assoc, append-nil, add-one}
use Rattle.std.proofs.Math.Seq.{take-suc}
use Rattle.git_rules.specs.Config.{ConfigEntry, sets}
use Rattle.git_rules.specs.Rewrites.{Rules}
use Rattle.git_rules.specs.RewriteEntries.{AllHaveValues, LacksValue, entry_rule, instead_of, push_instead_of, rules_named, rules_of, url_section, with_entry}
use Rattle.git_rules.specs.RewriteErrors.{AddsEntry, HasFront, IsFilled}
use Rattle.git_rules.specs.declared.rewrite.RewriteError.{RewriteError}
use Rattle.git_rules.specs.declared.rewrite.RewriteError.TheVariants.{Memory, NoValue}
use Rattle.git_rules.proofs.Rules.RankLemmas.{cut_here}

-- ---- words

-- ---- the rule of an entry

-- ---- an entry is added

-- a rule without a front isn't added
pub front_missing : (e : ConfigEntry) (old : Rules) (base : List ℕ) (error : RewriteError) → (sets url_section instead_of e ≡ true) ⊎ (sets url_section push_instead_of e ≡ true) → e.subsection ≡ Some base → HasFront e (Err error) → AddsEntry e old old (Err error)
front_missing e old base error named sub (missing, is) =
    subst (λ x. AddsEntry e old old (Err x)) (sym is) ((named, (base, sub), missing), refl, refl)

-- memory is refused for a rule
pub front_refused : (e : ConfigEntry) (old new : Rules) (base front : List ℕ) (error : RewriteError) → (sets url_section instead_of e ≡ true) ⊎ (sets url_section push_instead_of e ≡ true) → e.subsection ≡ Some base → e.value ≡ Some front → error ≡ Memory → new ≡ old → AddsEntry e old new (Err error)
front_refused e old new base front error named sub value is same =
    subst (λ x. AddsEntry e old new (Err x)) (sym is) ((named, (base, sub), (front, value)), same)

-- ---- all entries

-- the rules of one entry more
named-push : (name : List ℕ) (done : List ConfigEntry) (e : ConfigEntry) → rules_named name (done ++ e ∷ []) ≡ rules_named name done ++ entry_rule name e
named-push name [] e = append-nil (entry_rule name e)
named-push name (d ∷ done) e =
    ap (λ rs. entry_rule name d ++ rs) (named-push name done e) ∙ sym (append_assoc (entry_rule name d) (rules_named name done) (entry_rule name e))

-- one entry further, none of them lacks a value
values-push : (done : List ConfigEntry) (e : ConfigEntry) → AllHaveValues done → ¬ LacksValue e → AllHaveValues (done ++ e ∷ [])
values-push [] e h k = (k, tt)
values-push (d ∷ done) e h k = (h.0, values-push done e h.1 k)

-- the rules filled so far
pub record FilledSoFar (done : List ConfigEntry) (rules : Rules) : Type 0 where
  pub values : AllHaveValues done
  pub kept : rules ≡ rules_of done

-- one entry further
pub filled_more : (entries : List ConfigEntry) (i : ℕ) (e : ConfigEntry) (old new : Rules) → i < length entries → e ≡ get_or entries i e → FilledSoFar (take i entries) old → (¬ LacksValue e) × (new ≡ with_entry old e) → FilledSoFar (take (i + 1) entries) new
filled_more entries i e old new within at h (lacking, added) =
    let done = take i entries in
    let fetching = named-push instead_of done e in
    let pushing = named-push push_instead_of done e in
    let more : with_entry (rules_of done) e ≡ rules_of (done ++ e ∷ []) = λ j. record { fetching = sym fetching j; pushing = sym pushing j } in
    let next : done ++ e ∷ [] ≡ take (i + 1) entries =
    ap (λ x. done ++ x ∷ []) at ∙ sym (take-suc entries i e within) ∙ ap (λ n. take n entries) (sym (add-one i)) in
    subst (λ es. FilledSoFar es new) next (record {
      values = values-push done e h.values lacking;
      kept = added ∙ ap (λ rs. with_entry rs e) h.kept ∙ more;
    })

-- an entry that isn't added
pub filled_to : (entries : List ConfigEntry) (i : ℕ) (e : ConfigEntry) (old new : Rules) (error : RewriteError) → i < length entries → e ≡ get_or entries i e → FilledSoFar (take i entries) old → AddsEntry e old new (Err error) → IsFilled entries (Err error)
filled_to entries i e old new (NoValue at) within is h (lacking, place, _) =
    (take i entries, e, drop (suc i) entries, cut_here entries i e within ∙ ap (λ x. take i entries ++ x ∷ drop (suc i) entries) (sym is), h.values, lacking, place)
filled_to entries i e old new Memory within is h (rule, _) =
    (take i entries, e, drop (suc i) entries, cut_here entries i e within ∙ ap (λ x. take i entries ++ x ∷ drop (suc i) entries) (sym is), h.values, rule)
