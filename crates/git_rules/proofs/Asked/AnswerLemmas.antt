-- The answers on credentials: the settings by a front of the entries, at which entry Git stops, and that the
-- text is used is one.
use Rattle.std.proofs.Common.{◌≡◌, ◌↔◌, Bool, true, false, IsTrue, Contains, ℕ, suc, ◌+◌, ◌<◌, List, [], ◌∷◌, ◌++◌, length, take, drop, get_or, refl, sym, ap, subst, ◌∙◌, arith}
use Rattle.std.proofs.lemmas.List.{length-take-le}
use Rattle.std.proofs.lemmas.List.Kept.{AllPairs-from_increasing}
use Rattle.git_reads.specs.Credentials.{CredentialReading}
use Rattle.git_rules.specs.declared.credentials.CredentialsError.{CredentialsError}
use Rattle.git_rules.specs.declared.credentials.CredentialsError.TheVariants.{Memory, NoBoolean, NoValue}
use Rattle.git_rules.specs.Config.{ConfigEntry}
use Rattle.git_rules.specs.CredentialEntries.{AppliesAt, AppliesTo, CredentialUse}
use Rattle.git_rules.specs.Credentials.{AreCredentials, Refuses, RefusesCredentials, StopsAt, StopsFirst, Takes}
use Rattle.git_rules.proofs.Asked.AppliedLemmas.{applies_here, shrink, through_unique}
use Rattle.git_rules.proofs.Asked.TakenLemmas.{passed_over, taken_more}
use Rattle.git_rules.proofs.Settled.ListLemmas.{same_ascending}
use Rattle.git_rules.proofs.Rules.RankLemmas.{cut_here, front_more}

-- ---- one entry further

-- an entry that applies
pub further_taken : (r : CredentialReading) (entries : List ConfigEntry) (i : ℕ) (e : ConfigEntry) (used new : CredentialUse) → i < length entries → e ≡ get_or entries i e → AreCredentials r (take i entries) used → AppliesTo r used.user e → Takes r.user e i used new → AreCredentials r (take (i + 1) entries) new
further_taken r entries i e used new within is h applies takes =
    let size : length (take i entries) ≡ i = length-take-le i entries (omega arith) in
    subst (λ es. AreCredentials r es new) (front_more entries i e within is) (taken_more r (take i entries) e used new h applies (subst (λ n. Takes r.user e n used new) (sym size) takes))

-- and one that doesn't
pub further_passed : (r : CredentialReading) (entries : List ConfigEntry) (i : ℕ) (e : ConfigEntry) (used : CredentialUse) → i < length entries → e ≡ get_or entries i e → AreCredentials r (take i entries) used → ¬ AppliesTo r used.user e → AreCredentials r (take (i + 1) entries) used
further_passed r entries i e used within is h not_so =
    subst (λ es. AreCredentials r es used) (front_more entries i e within is) (passed_over r (take i entries) e used h not_so)

-- ---- if Git stops

stops_first : (r : CredentialReading) (done others : List ConfigEntry) (e : ConfigEntry) (used : CredentialUse) (error : CredentialsError) → AreCredentials r done used → AppliesTo r used.user e → StopsAt e error → StopsFirst r (done ++ e ∷ others) error
stops_first r done others e used error h applies stops = record {
  index = length done;
  entry = e;
  applies = applies_here r done others e used.user h.through applies;
  stops = stops;
  first = λ j f other before at. h.sound j f other (shrink r done (e ∷ others) j f before at);
}

refused_here : (r : CredentialReading) (done others : List ConfigEntry) (e : ConfigEntry) (used : CredentialUse) (error : CredentialsError) → AreCredentials r done used → AppliesTo r used.user e → Refuses e error → RefusesCredentials r (done ++ e ∷ others) error
refused_here r done others e used Memory h applies refuses = tt
refused_here r done others e used (NoValue at) h applies refuses =
    stops_first r done others e used (NoValue at) h applies refuses
refused_here r done others e used (NoBoolean at) h applies refuses =
    stops_first r done others e used (NoBoolean at) h applies refuses

-- an entry that is refused at an index of the list
pub refused_at : (r : CredentialReading) (entries : List ConfigEntry) (i : ℕ) (e : ConfigEntry) (used : CredentialUse) (error : CredentialsError) → i < length entries → e ≡ get_or entries i e → AreCredentials r (take i entries) used → AppliesTo r used.user e → Refuses e error → RefusesCredentials r entries error
refused_at r entries i e used error within is h applies refuses =
    let whole : entries ≡ take i entries ++ e ∷ drop (suc i) entries = cut_here entries i e within ∙ ap (λ x. take i entries ++ x ∷ drop (suc i) entries) (sym is) in
    subst (λ es. RefusesCredentials r es error) (sym whole) (refused_here r (take i entries) (drop (suc i) entries) e used error h applies refuses)

-- ---- one use

-- a truth value that says whether something holds is one
same_truth : {P : Type 0} (a b : Bool) → IsTrue a ↔ P → IsTrue b ↔ P → a ≡ b
same_truth true true h k = refl
same_truth true false h k = cc (k.1 (h.0 refl))
same_truth false true h k = cc (h.1 (k.0 refl))
same_truth false false h k = refl

pub one_use : (r : CredentialReading) (entries : List ConfigEntry) (a b : CredentialUse) → AreCredentials r entries a → AreCredentials r entries b → a ≡ b
one_use r entries a b h k =
    let lists = same_ascending a.helpers b.helpers (AllPairs-from_increasing a.helpers h.in_order) (AllPairs-from_increasing b.helpers k.in_order) (λ i. (λ there. (k.asked i).1 ((h.asked i).0 there), λ there. (h.asked i).1 ((k.asked i).0 there))) in
    let users = through_unique r entries r.user a.user b.user h.through k.through in
    let paths = same_truth a.use_http_path b.use_http_path h.path k.path in
    λ i. record { helpers = lists i; user = users i; use_http_path = paths i }

pub helper_applies : (r : CredentialReading) (entries : List ConfigEntry) (used : CredentialUse) (i : ℕ) → AreCredentials r entries used → Contains used.helpers i → (e : ConfigEntry) × AppliesAt r entries i e
helper_applies r entries used i h there =
    let u = (h.asked i).0 there in
    (u.entry, u.sets.0)
