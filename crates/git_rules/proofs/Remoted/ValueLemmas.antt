-- The values that entries give a remote, with one entry more.
use Rattle.std.proofs.Common.{◌≡◌, ℕ, ◌+◌, ◌<◌, ◌≤◌, suc, true, false, List, [], ◌∷◌, ◌++◌, Option, Some, None, length, take, drop, get_or, refl, sym, ap, subst, ◌∙◌, append-nil}
use Rattle.std.specs.List.{cons_option, last_or}
use Rattle.std.proofs.lemmas.List.{take_all}
use Rattle.std.proofs.lemmas.List.Elements.{All-push, filter_map-append}
use Rattle.git_rules.specs.Config.{ConfigEntry}
use Rattle.git_rules.specs.Remotes.{HaveValues, LacksFirst, first_of, lacks_value, value_for, values_of}
use Rattle.git_rules.proofs.Rules.RankLemmas.{cut_here, front_more}

-- entries are those before one, it, and those after it
cut_at : (entries : List ConfigEntry) (i : ℕ) (e : ConfigEntry) → i < length entries → e ≡ get_or entries i e → entries ≡ take i entries ++ e ∷ drop (suc i) entries
cut_at entries i e within at =
    cut_here entries i e within ∙ ap (λ x. take i entries ++ x ∷ drop (suc i) entries) (sym at)

-- ---- entries without a value

-- one entry further, each has a value
pub values_kept : (entries : List ConfigEntry) (i : ℕ) (e : ConfigEntry) → i < length entries → e ≡ get_or entries i e → HaveValues (take i entries) → lacks_value e ≡ false → HaveValues (take (i + 1) entries)
values_kept entries i e within at h k =
    subst HaveValues (front_more entries i e within at) (All-push (λ x. lacks_value x ≡ false) (take i entries) e h k)

-- at the end each has one
pub all_values : (entries : List ConfigEntry) (i : ℕ) → length entries ≤ i → HaveValues (take i entries) → HaveValues entries
all_values entries i done h = subst HaveValues (take_all i entries done) h

-- the first without one
pub lacks_here : (entries : List ConfigEntry) (i : ℕ) (e : ConfigEntry) → i < length entries → e ≡ get_or entries i e → HaveValues (take i entries) → lacks_value e ≡ true → LacksFirst entries e.at
lacks_here entries i e within at h k = record {
  before = take i entries;
  entry = e;
  others = drop (suc i) entries;
  joined = cut_at entries i e within at;
  values = h;
  lacks = k;
  begins = refl;
}

-- ---- values

-- an entry that gives no value adds none
pub values_same : (remote key : List ℕ) (entries : List ConfigEntry) (i : ℕ) (e : ConfigEntry) → i < length entries → e ≡ get_or entries i e → None ≡ value_for remote key e → values_of remote key (take (i + 1) entries) ≡ values_of remote key (take i entries)
values_same remote key entries i e within at given =
    ap (values_of remote key) (sym (front_more entries i e within at)) ∙ filter_map-append (value_for remote key) (take i entries) (e ∷ []) ∙ ap (λ v. values_of remote key (take i entries) ++ cons_option v []) (sym given) ∙ append-nil (values_of remote key (take i entries))

-- an entry that gives one adds it after the others
pub values_more : (remote key : List ℕ) (entries : List ConfigEntry) (i : ℕ) (e : ConfigEntry) (v : List ℕ) → i < length entries → e ≡ get_or entries i e → Some v ≡ value_for remote key e → values_of remote key (take (i + 1) entries) ≡ values_of remote key (take i entries) ++ v ∷ []
values_more remote key entries i e v within at given =
    ap (values_of remote key) (sym (front_more entries i e within at)) ∙ filter_map-append (value_for remote key) (take i entries) (e ∷ []) ∙ ap (λ o. values_of remote key (take i entries) ++ cons_option o []) (sym given)

-- the first value is found
pub first_found : (remote key : List ℕ) (entries : List ConfigEntry) (i : ℕ) (e : ConfigEntry) (v : List ℕ) → i < length entries → e ≡ get_or entries i e → Some v ≡ value_for remote key e → values_of remote key (take i entries) ≡ [] → Some v ≡ first_of (values_of remote key entries)
first_found remote key entries i e v within at given none =
    let whole : values_of remote key entries ≡ v ∷ values_of remote key (drop (suc i) entries) =
    ap (values_of remote key) (cut_at entries i e within at) ∙ filter_map-append (value_for remote key) (take i entries) (e ∷ drop (suc i) entries) ∙ ap (λ vs. vs ++ values_of remote key (e ∷ drop (suc i) entries)) none ∙ ap (λ o. cons_option o (values_of remote key (drop (suc i) entries))) (sym given) in
    ap first_of (sym whole)

-- the last of values with one more is that one
pub last-push : (o : Option (List ℕ)) (vs : List (List ℕ)) (v : List ℕ) → last_or o (vs ++ v ∷ []) ≡ Some v
last-push o [] v = refl
last-push o (w ∷ vs) v = last-push (Some w) vs v
