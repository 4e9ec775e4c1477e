-- The conditions of the class of HTTP in their order: a settled location meets the first, and a location with
-- an unambiguous host, user or password meets those of this part.
use Rattle.std.proofs.Common.{◌≡◌, ◌∙◌, ◌+◌, ℕ, true, false, List, [], ◌∷◌, ◌++◌, Some, IfSome, get_or, refl, sym, ap, subst, inl, inr, arith}
use Rattle.std.specs.List.{list_all}
use Rattle.std.proofs.lemmas.Bool.{both_ways, cases_lt}
use Rattle.std.proofs.lemmas.List.{same_from_push}
use Rattle.std.proofs.lemmas.Option.{same_Some}
use Rattle.git_syntax.specs.Location.{Location}
use Rattle.git_syntax.specs.Bytes.{colon, left_bracket, percent_sign, right_bracket, FreeOf, begins_with}
use Rattle.git_syntax.proofs.Addresses.AddressLemmas.{address_free}
use Rattle.git_syntax.proofs.Texts.CutLemmas.{different_bytes, free-append, free-cons, free_of_all, not_free}
use Rattle.git_class.specs.declared.web_conditions.WebCondition.{WebCondition}
use Rattle.git_class.specs.declared.web_conditions.WebCondition.TheVariants as condition
use Rattle.git_location.specs.Settled.{IsSettled}
use Rattle.git_class.specs.WebClass.{HasUnambiguousHost, IsUnambiguousHost, IsUnambiguousPassword, IsUnambiguousUser, is_plain_host_byte}
use Rattle.git_class.specs.WebConditions.{IsUnmet, MeetsBefore, place}
use Rattle.git_class.proofs.Classes.WebClassLemmas.{url_host_form}

-- ---- the order

-- the condition at a place
abbrev at : ℕ → WebCondition
at n = get_or (condition.Settled ∷ condition.NoZone ∷ condition.NoHostColon ∷ condition.HostBytes ∷ condition.LastLabel ∷ condition.UserControl ∷ condition.UserColon ∷ condition.PasswordControl ∷ condition.PasswordColon ∷ condition.PathStart ∷ condition.PathSlashes ∷ condition.PathControl ∷ condition.NoFragment ∷ condition.NoDotSegment ∷ condition.NoEmptyQuery ∷ condition.PathBytes ∷ condition.PathColon ∷ []) n condition.Settled

-- each condition is the one at its place
at_place : (this : WebCondition) → at (place this) ≡ this
at_place condition.Settled = refl
at_place condition.NoZone = refl
at_place condition.NoHostColon = refl
at_place condition.HostBytes = refl
at_place condition.LastLabel = refl
at_place condition.UserControl = refl
at_place condition.UserColon = refl
at_place condition.PasswordControl = refl
at_place condition.PasswordColon = refl
at_place condition.PathStart = refl
at_place condition.PathSlashes = refl
at_place condition.PathControl = refl
at_place condition.NoFragment = refl
at_place condition.NoDotSegment = refl
at_place condition.NoEmptyQuery = refl
at_place condition.PathBytes = refl
at_place condition.PathColon = refl

-- none comes before the first
none_before : (v : Location) → MeetsBefore condition.Settled v
none_before v other earlier = absurd (omega (arith, earlier))

-- if a condition and those before it are met, those before the next one are met
next : (this that : WebCondition) (v : Location) → place that ≡ place this + 1 → MeetsBefore this v → ¬ IsUnmet this v → MeetsBefore that v
next this that v follows before met other earlier = elim (cases_lt (place other) (place this)) [
  | inl less ↦ before other less
  | inr more ↦
      let same : place this ≡ place other = omega (arith, follows, earlier, more) in
      subst (λ c. ¬ IsUnmet c v) (sym (at_place this) ∙ ap at same ∙ at_place other) met
]

-- a settled location meets the text before the conditions of hosts
pub settled_met : (v : Location) → IsSettled v → MeetsBefore condition.NoZone v
settled_met v settled = next condition.Settled condition.NoZone v refl (none_before v) (λ unmet. unmet settled)

-- ---- hosts

-- an unambiguous host has no `%`
no_zone : (host : List ℕ) → IsUnambiguousHost host → FreeOf percent_sign host
no_zone host class = elim (url_host_form host class) [
  | inl plain ↦ free_of_all is_plain_host_byte percent_sign host plain refl
  | inr (inside, normal, e) ↦ subst (λ x. FreeOf percent_sign x) (sym e) (free-cons percent_sign left_bracket (inside ++ right_bracket ∷ []) refl (free-append percent_sign inside (right_bracket ∷ []) (address_free percent_sign inside refl normal.address) refl))
]

-- no colon ends an unambiguous host
no_colon_end : (host front : List ℕ) → IsUnambiguousHost host → ¬ (host ≡ front ++ colon ∷ [])
no_colon_end host front class ends = elim (url_host_form host class) [
  | inl plain ↦ not_free colon front [] (subst (λ x. FreeOf colon x) ends (free_of_all is_plain_host_byte colon host plain refl))
  | inr (inside, normal, e) ↦ different_bytes right_bracket colon {x = []} {y = []} refl (ap (λ c. c ∷ []) (same_from_push (left_bracket ∷ inside) front right_bracket colon (sym e ∙ ends)).1)
]

-- an unambiguous host without brackets is of plain bytes
plain_bytes : (host : List ℕ) → IsUnambiguousHost host → begins_with left_bracket host ≡ false → list_all is_plain_host_byte host ≡ true
plain_bytes host class bare = elim (url_host_form host class) [
  | inl plain ↦ plain
  | inr (inside, normal, e) ↦ absurd (both_ways _ bare (ap (begins_with left_bracket) e))
]

-- a location with such a host meets the conditions of hosts
pub host_met : (v : Location) → MeetsBefore condition.NoZone v → HasUnambiguousHost v → MeetsBefore condition.UserControl v
host_met v before (host, is, class) =
    let its : (t : List ℕ) → v.host ≡ Some t → IsUnambiguousHost t = λ t some. subst IsUnambiguousHost (same_Some host t (sym is ∙ some)) class in
    let zone = next condition.NoZone condition.NoHostColon v refl before (λ (t, some, (bracket, percent)). percent (no_zone t (its t some))) in
    let ending = next condition.NoHostColon condition.HostBytes v refl zone (λ (t, some, (front, ends)). no_colon_end t front (its t some) ends) in
    let bytes = next condition.HostBytes condition.LastLabel v refl ending (λ (t, some, (bare, other)). both_ways _ other (plain_bytes t (its t some) bare)) in
    next condition.LastLabel condition.UserControl v refl bytes (λ unmet. unmet (host, is, class))

-- ---- user and password

-- a location with an unambiguous user or none meets the conditions of users
pub user_met : (v : Location) → MeetsBefore condition.UserControl v → IfSome v.user IsUnambiguousUser → MeetsBefore condition.PasswordControl v
user_met v before class =
    let its : (t : List ℕ) → v.user ≡ Some t → IsUnambiguousUser t = λ t some. subst (λ o. IfSome o IsUnambiguousUser) some class in
    let control = next condition.UserControl condition.UserColon v refl before (λ (t, some, has). has (its t some).0) in
    next condition.UserColon condition.PasswordControl v refl control (λ (t, some, has). has (its t some).1)

-- and one with an unambiguous password or none meets the conditions of passwords
pub password_met : (v : Location) → MeetsBefore condition.PasswordControl v → IfSome v.password IsUnambiguousPassword → MeetsBefore condition.PathStart v
password_met v before class =
    let its : (t : List ℕ) → v.password ≡ Some t → IsUnambiguousPassword t = λ t some. subst (λ o. IfSome o IsUnambiguousPassword) some class in
    let control = next condition.PasswordControl condition.PasswordColon v refl before (λ (t, some, has). has (its t some).0) in
    next condition.PasswordColon condition.PathStart v refl control (λ (t, some, has). has (its t some).1)
