-- The last entry of a key, with one entry more.
use Rattle.std.proofs.Common.{◌≡◌, ◌∙◌, ℕ, ◌+◌, ◌<◌, Bool, true, false, List, [], ◌∷◌, ◌++◌, Option, Some, None, length, take, get_or, refl, sym, ap, append-nil}
use Rattle.std.specs.Prelude.{filter}
use Rattle.std.specs.List.{last_or}
use Rattle.std.proofs.lemmas.List.Elements.{filter-append}
use Rattle.git_rules.specs.Config.{ConfigEntry}
use Rattle.git_rules.specs.SshPrograms.{is_setting, last_setting}
use Rattle.git_rules.proofs.Rules.RankLemmas.{front_more}

-- the last of a list with one more is that one
last-push : (o : Option ConfigEntry) (xs : List ConfigEntry) (x : ConfigEntry) → last_or o (xs ++ x ∷ []) ≡ Some x
last-push o [] x = refl
last-push o (y ∷ xs) x = last-push (Some y) xs x

-- an item alone, by a test
filter_no : (p : ConfigEntry → Bool) (x : ConfigEntry) → p x ≡ false → filter p (x ∷ []) ≡ []
filter_no p x h = rw h refl

filter_yes : (p : ConfigEntry → Bool) (x : ConfigEntry) → p x ≡ true → filter p (x ∷ []) ≡ x ∷ []
filter_yes p x h = rw h refl

-- an entry of another key leaves the last one
pub setting_same : (section name : List ℕ) (entries : List ConfigEntry) (i : ℕ) (e : ConfigEntry) → i < length entries → e ≡ get_or entries i e → is_setting section name e ≡ false → last_setting section name (take (i + 1) entries) ≡ last_setting section name (take i entries)
setting_same section name entries i e within at other =
    let p = λ (x : ConfigEntry). is_setting section name x in
    ap (λ es. last_or None (filter p es)) (sym (front_more entries i e within at)) ∙ ap (last_or None) (filter-append p (take i entries) (e ∷ [])) ∙ ap (λ es. last_or None (filter p (take i entries) ++ es)) (filter_no p e other) ∙ ap (last_or None) (append-nil (filter p (take i entries)))

-- an entry of the key is the last one
pub setting_more : (section name : List ℕ) (entries : List ConfigEntry) (i : ℕ) (e : ConfigEntry) → i < length entries → e ≡ get_or entries i e → is_setting section name e ≡ true → last_setting section name (take (i + 1) entries) ≡ Some e
setting_more section name entries i e within at is =
    let p = λ (x : ConfigEntry). is_setting section name x in
    ap (λ es. last_or None (filter p es)) (sym (front_more entries i e within at)) ∙ ap (last_or None) (filter-append p (take i entries) (e ∷ [])) ∙ ap (λ es. last_or None (filter p (take i entries) ++ es)) (filter_yes p e is) ∙ last-push None (filter p (take i entries)) e
