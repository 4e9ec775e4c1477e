-- Each entry that is used ranks for the place, so its URL is a pattern that denotes the place, and the law is
-- for that.
use Rattle.std.proofs.Common.{◌≡◌, ℕ, ◌⊎◌, inl, inr, false, List, length, codes, Option, Some, None, Result, Ok, Err, IfOk, refl, subst}
use Rattle.gix_url.specs.GitClass.{AgreesWithGit}
use Rattle.gix_url.specs.Settled.{IsValue, IsWeb}
use Rattle.gix_url.specs.Text.{text}
use Rattle.gix_url.specs.Location.{Location}
use Rattle.git_rules.specs.declared.pattern.Rank.{Rank}
use Rattle.git_rules.specs.Config.{ConfigEntry}
use Rattle.git_rules.specs.Normal.{NormalPlace, IsNormalOf}
use Rattle.git_rules.specs.PatternEntries.{RanksSubsection}
use Rattle.git_rules.specs.PatternLaws.{PickedGoesToOwn}
use Rattle.git_rules.specs.Places.{PlacesIn}
use Rattle.git_rules.specs.Settings.{AreSettings}
use Rattle.user_proofs.specs.Credentials.{AreOwn, GoesToOwn}
use Rattle.user_proofs.proofs.PickedLemmas.{one_place, placed}
use Rattle.user_proofs.proofs.credentials.headers_for.Goals as goal

-- the place is the normal form of the text
form_of : (v : Location) (buffer_len : ℕ) (place : NormalPlace) → PlacesIn (text v) buffer_len (Ok place) → (t : List ℕ) → text v ≡ Ok t → IsNormalOf false t place
form_of v buffer_len place h t e = (subst (λ x. PlacesIn x buffer_len (Ok place)) e h).1

-- an entry that ranks for the place is for all places, or goes to its own
goes : PickedGoesToOwn → (v : Location) (buffer_len : ℕ) (place : NormalPlace) (e : ConfigEntry) (rank : Rank) (named : Option (List ℕ)) → IsValue v → IsWeb v → AgreesWithGit v → PlacesIn (text v) buffer_len (Ok place) → e.subsection ≡ named → RanksSubsection (Some place) named rank → (e.subsection ≡ None) ⊎ GoesToOwn v e
goes law v buffer_len place e rank None value web agrees placing named ranked = inl named
goes law v buffer_len place e rank (Some url) value web agrees placing named ranked = inr (record {
  url = url;
  named = named;
  pattern = ranked.0;
  form = ranked.1;
  reaches = λ free t has. law v t place ranked.0 value web agrees has (form_of v buffer_len place placing t has) ranked.2.0 free;
})

-- each entry that is used is one of these
own : PickedGoesToOwn → (v : Location) (buffer_len : ℕ) (place : NormalPlace) (entries : List ConfigEntry) (found : List ℕ) → IsValue v → IsWeb v → AgreesWithGit v → PlacesIn (text v) buffer_len (Ok place) → AreSettings (codes "extraHeader") (Some place) entries found → AreOwn v entries found
own law v buffer_len place entries found value web agrees placing (inl (list, are)) i held =
    let used = (are.used i).0 held in
    let taken = used.taken in
    record {
      before = taken.before;
      entry = used.entry;
      others = taken.others;
      joined = taken.joined;
      index = taken.index;
      own = goes law v buffer_len place used.entry taken.rank used.entry.subsection value web agrees placing refl taken.ranks.1;
    }
own law v buffer_len place entries found value web agrees placing (inr (single, best)) i held = absurd (single (inl refl))

-- the consequence for a value that is there
if_ok : {A E : Type 0} (P Q : A → Type 0) (r : Result A E) → ((a : A) → P a → Q a) → IfOk r P → IfOk r Q
if_ok P Q (Ok a) f h = f a h
if_ok P Q (Err e) f h = tt

pub returns-in_default-clause-sent : goal.returns-in_default-clause-sent
returns-in_default-clause-sent c =
    λ t place web agrees has form fits.
    absurd (placed c.args.url.now t (length c.args.buffer.now) c.in_default.field-0 place has form fits (subst (λ w. PlacesIn (text w) (length c.args.buffer.now) (Err c.in_default.field-0)) c.as_ref.ensures c.in_default.ensures))

pub returns-clause-own : goal.returns-clause-own
returns-clause-own c =
    let v = c.args.url.now in
    let buffer_len = length c.args.buffer.now in
    let place = c.in-Ok.place in
    let placing = subst (λ w. PlacesIn (text w) buffer_len (Ok place)) c.as_ref.ensures c.in-Ok.ensures in
    if_ok _ _ c.settings_for.result (λ found are. own c.law_patterns.ensures v buffer_len place c.args.entries.now _ c.law_value.ensures.value (c.if-not-is_web.ensures.0 refl) (c.if-not-agrees_with_git.ensures.0 refl) placing are) c.settings_for.ensures.found

pub returns-clause-sent : goal.returns-clause-sent
returns-clause-sent c =
    let v = c.args.url.now in
    let buffer_len = length c.args.buffer.now in
    let own = c.in-Ok.place in
    let placing = subst (λ w. PlacesIn (text w) buffer_len (Ok own)) c.as_ref.ensures c.in-Ok.ensures in
    if_ok _ _ c.settings_for.result (λ found are t place web agrees has form fits. subst (λ p. AreSettings (codes "extraHeader") (Some p) c.args.entries.now found.items) (one_place c.law_normal_form.ensures.one v t buffer_len own place has form placing) are) c.settings_for.ensures.found
