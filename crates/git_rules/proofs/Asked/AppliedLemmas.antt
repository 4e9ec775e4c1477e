-- Which entries apply: the subsections that fit a request, the user that Git has, and that a front of a list
-- is gone through alike in the whole list.
use Rattle.std.proofs.Common.{◌≡◌, ℕ, ◌+◌, ◌<◌, ◌⊎◌, ◌↔◌, inl, inr, Bool, true, false, List, [], ◌∷◌, ◌++◌, codes, length, refl, sym, ap, subst, ◌∙◌, arith, append_assoc, length-append, IsTrue, Option, Some, None, IfOk, Result, Ok, Err}
use Rattle.std.proofs.lemmas.Bool.{cases_lt}
use Rattle.git_reads.specs.Credentials.{CredentialReading}
use Rattle.git_rules.specs.Config.{ConfigEntry, is_of_section}
use Rattle.git_rules.specs.Normal.{IsNormalOf, NormalPlace}
use Rattle.git_rules.specs.CredentialUrls.{credential_url}
use Rattle.git_rules.specs.CredentialEntries.{AppliesAt, AppliesTo, ChangesUser, DecidesUrl, FitsSubsection, IsFormOf, MatchesForm, SetsAt, UserThrough}
use Rattle.git_rules.specs.PartialUrls.{FitsPartly}
use Rattle.git_rules.proofs.NormalForms.NormalUnique.{normal_unique}
use Rattle.git_rules.proofs.Settled.ListLemmas.{at_seam, in_front}

-- ---- subsections

-- a text has one normal form, or none
pub form_unique : (globs : Bool) (t : List ℕ) (a b : Option NormalPlace) → IsFormOf globs t a → IsFormOf globs t b → a ≡ b
form_unique globs t None None h k = refl
form_unique globs t None (Some n) h k = absurd (h n k)
form_unique globs t (Some n) None h k = absurd (k n h)
form_unique globs t (Some n) (Some m) h k = ap Some (normal_unique globs t n m h k)

-- a pattern that denotes the place of the request
pub fits_matched : (url : List ℕ) (r : CredentialReading) (user : Option (List ℕ)) (place : Option NormalPlace) (pattern : NormalPlace) → IsFormOf false (credential_url r) place → IsNormalOf true url pattern → MatchesForm pattern place → FitsSubsection (Some url) r user
fits_matched url r user place pattern form is matches = inl (place, form, (pattern, is, matches))

-- a subsection that fits and has a normal form denotes the place
pub matched_fits : (url : List ℕ) (r : CredentialReading) (user : Option (List ℕ)) (place : Option NormalPlace) (pattern : NormalPlace) → IsFormOf false (credential_url r) place → IsNormalOf true url pattern → FitsSubsection (Some url) r user → MatchesForm pattern place
matched_fits url r user place pattern form is (inl (other, also, (found, is_found, matches))) =
    subst (λ p. MatchesForm p place) (normal_unique true url found pattern is_found is) (subst (MatchesForm found) (form_unique false (credential_url r) other place also form) matches)
matched_fits url r user place pattern form is (inr (none, parts)) = absurd (none pattern is)

-- so it is decided if the subsection has a normal form
pub fits_decided : (url : List ℕ) (r : CredentialReading) (user : Option (List ℕ)) (place : Option NormalPlace) (matches : Bool) → IsFormOf false (credential_url r) place → DecidesUrl url place (Some matches) → IsTrue matches ↔ FitsSubsection (Some url) r user
fits_decided url r user place matches form (pattern, is, (to, from)) = (
  λ t. fits_matched url r user place pattern form is (to t),
  λ fits. from (matched_fits url r user place pattern form is fits),
)

-- and if it has none, the parts decide
pub fits_parts : (url : List ℕ) (r : CredentialReading) (user : Option (List ℕ)) → IsFormOf true url None → FitsSubsection (Some url) r user → FitsPartly url r user
fits_parts url r user none (inl (place, form, (pattern, is, matches))) = absurd (none pattern is)
fits_parts url r user none (inr (_, parts)) = parts

-- so they do after the call that compares them
pub fits_by_parts : {E : Type 0} (url : List ℕ) (r : CredentialReading) (user : Option (List ℕ)) (found : Result Bool E) → IsFormOf true url None → IfOk found (λ fits. IsTrue fits ↔ FitsPartly url r user) → IfOk found (λ fits. IsTrue fits ↔ FitsSubsection (Some url) r user)
fits_by_parts url r user (Ok fits) none (to, from) = (λ on. inr (none, to on), λ h. from (fits_parts url r user none h))
fits_by_parts url r user (Err e) none h = h

-- an entry of the section applies if its subsection fits
pub applies_by : {E : Type 0} (url : List ℕ) (r : CredentialReading) (user : Option (List ℕ)) (e : ConfigEntry) (found : Result Bool E) → is_of_section (codes "credential") e ≡ true → e.subsection ≡ Some url → IfOk found (λ fits. IsTrue fits ↔ FitsSubsection (Some url) r user) → IfOk found (λ applies. IsTrue applies ↔ AppliesTo r user e)
applies_by url r user e (Ok fits) of same (to, from) = (
  λ on. (of, subst (λ s. FitsSubsection s r user) (sym same) (to on)),
  λ h. from (subst (λ s. FitsSubsection s r user) same h.1),
)
applies_by url r user e (Err error) of same h = h

-- ---- the user

-- an entry changes the user in one way
change_unique : (r : CredentialReading) (e : ConfigEntry) (user a b : Option (List ℕ)) → ChangesUser r e user a → ChangesUser r e user b → a ≡ b
change_unique r e user a b (inl (applies, is)) (inl (_, is')) = is ∙ sym is'
change_unique r e user a b (inl (applies, is)) (inr (not_so, is')) = absurd (not_so applies)
change_unique r e user a b (inr (not_so, is)) (inl (applies, is')) = absurd (not_so applies)
change_unique r e user a b (inr (not_so, is)) (inr (_, is')) = is ∙ sym is'

-- and so do entries
pub through_unique : (r : CredentialReading) (entries : List ConfigEntry) (user a b : Option (List ℕ)) → UserThrough r entries user a → UserThrough r entries user b → a ≡ b
through_unique r [] user a b h k = h ∙ sym k
through_unique r (e ∷ rest) user a b (next, change, more) (other, change', more') =
    let same = change_unique r e user next other change change' in
    through_unique r rest other a b (subst (λ z. UserThrough r rest z a) same more) more'

-- one entry more
pub through_more : (r : CredentialReading) (done : List ConfigEntry) (e : ConfigEntry) (user last next : Option (List ℕ)) → UserThrough r done user last → ChangesUser r e last next → UserThrough r (done ++ e ∷ []) user next
through_more r [] e user last next h change =
    (next, subst (λ z. ChangesUser r e z next) h change, refl)
through_more r (d ∷ done) e user last next (middle, first, more) change =
    (middle, first, through_more r done e middle last next more change)

-- ---- fronts

-- an entry that applies has a place in the list
pub place_within : (r : CredentialReading) (entries : List ConfigEntry) (i : ℕ) (e : ConfigEntry) → AppliesAt r entries i e → i < length entries
place_within r entries i e h =
    let size : length entries ≡ length h.before + length (e ∷ h.others) = ap length h.joined ∙ length-append h.before (e ∷ h.others) in
    let at : length h.before ≡ i = h.index in
    omega (arith, size, at)

-- an entry that applies in a front applies in the whole list
pub grow : (r : CredentialReading) (done more : List ConfigEntry) (i : ℕ) (e : ConfigEntry) → AppliesAt r done i e → AppliesAt r (done ++ more) i e
grow r done more i e h = record {
  before = h.before;
  others = h.others ++ more;
  user = h.user;
  joined = ap (λ z. z ++ more) h.joined ∙ append_assoc h.before (e ∷ h.others) more;
  index = h.index;
  through = h.through;
  applies = h.applies;
}

-- an entry that applies in the whole list at a place of the front applies in the front
pub shrink : (r : CredentialReading) (done more : List ConfigEntry) (i : ℕ) (e : ConfigEntry) → i < length done → AppliesAt r (done ++ more) i e → AppliesAt r done i e
shrink r done more i e short h =
    let at : length h.before ≡ i = h.index in
    let cut = in_front h.before h.others done more e h.joined (omega (arith, at, short)) in
    record {
      before = h.before;
      others = cut.0;
      user = h.user;
      joined = cut.1;
      index = h.index;
      through = h.through;
      applies = h.applies;
    }

-- an entry that applies with one entry more applies without it, or is this entry
pub applied_cases : (r : CredentialReading) (done : List ConfigEntry) (t : ConfigEntry) (i : ℕ) (e : ConfigEntry) → AppliesAt r (done ++ t ∷ []) i e → AppliesAt r done i e ⊎ ((i ≡ length done) × (e ≡ t))
applied_cases r done t i e h = elim (cases_lt i (length done)) [
  | inl short ↦ inl (shrink r done (t ∷ []) i e short h)
  | inr long ↦
      let size : length (done ++ t ∷ []) ≡ length done + length (t ∷ []) = length-append done (t ∷ []) in
      let within : i < length (done ++ t ∷ []) = place_within r (done ++ t ∷ []) i e h in
      let at : length h.before ≡ i = h.index in
      let same : i ≡ length done = omega (arith, size, within, long) in
      inr (same, (at_seam h.before h.others done [] e t h.joined (omega (arith, at, same))).1)
]

-- ---- one entry more

-- an entry that applies with the user so far applies at its place
pub applies_here : (r : CredentialReading) (done others : List ConfigEntry) (t : ConfigEntry) (user : Option (List ℕ)) → UserThrough r done r.user user → AppliesTo r user t → AppliesAt r (done ++ t ∷ others) (length done) t
applies_here r done others t user through applies = record {
  before = done;
  others = others;
  user = user;
  joined = refl;
  index = refl;
  through = through;
  applies = applies;
}

-- one that doesn't, doesn't
pub not_here : (r : CredentialReading) (done : List ConfigEntry) (t : ConfigEntry) (user : Option (List ℕ)) → UserThrough r done r.user user → ¬ AppliesTo r user t → (e : ConfigEntry) → ¬ AppliesAt r (done ++ t ∷ []) (length done) e
not_here r done t user through not_so e h =
    let seam = at_seam h.before h.others done [] e t h.joined h.index in
    let same : h.user ≡ user = through_unique r done r.user h.user user (subst (λ z. UserThrough r z r.user h.user) seam.0 h.through) through in
    not_so (subst (AppliesTo r user) seam.1 (subst (λ z. AppliesTo r z e) same h.applies))

-- an entry that applies and has a name, with one entry more
pub sets_cases : (name : List ℕ) (r : CredentialReading) (done : List ConfigEntry) (t : ConfigEntry) (i : ℕ) (e : ConfigEntry) → SetsAt name r (done ++ t ∷ []) i e → SetsAt name r done i e ⊎ ((i ≡ length done) × (e ≡ t) × SetsAt name r (done ++ t ∷ []) (length done) t)
sets_cases name r done t i e (applies, named) = elim (applied_cases r done t i e applies) [
  | inl old ↦ inl (old, named)
  | inr new ↦ inr (new.0, new.1, subst (λ z. SetsAt name r (done ++ t ∷ []) (length done) z) new.1 (subst (λ z. SetsAt name r (done ++ t ∷ []) z e) new.0 (applies, named)))
]

pub sets_grow : (name : List ℕ) (r : CredentialReading) (done more : List ConfigEntry) (i : ℕ) (e : ConfigEntry) → SetsAt name r done i e → SetsAt name r (done ++ more) i e
sets_grow name r done more i e (applies, named) = (grow r done more i e applies, named)
