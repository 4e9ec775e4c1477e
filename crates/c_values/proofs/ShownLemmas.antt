-- A location is shown exactly if it has a text: hiding a password changes no form.
use Rattle.std.proofs.Common.{◌≡◌, ℕ, List, Option, Some, None, is_some, is_none, IfSome, Result, Ok, Err, refl, ap, sym, subst}
use Rattle.git_location.specs.declared.write_error.WriteFault.{WriteFault}
use Rattle.gix_url.specs.Location.{Scheme, Location}
use Rattle.gix_url.specs.Location.Scheme.{file, git, ssh, http, https, ext, helper, helper_url}
use Rattle.gix_url.specs.Text.{Form, choice, choice_by, in_form, text}
use Rattle.gix_url.specs.Display.{hidden_password, shown_text, display}
use Rattle.git_location.specs.Internal.Pieces.{text_length}

there : (p : Option (List ℕ)) → is_some (hidden_password p) ≡ is_some p
there None = refl
there (Some p) = refl

absent : (p : Option (List ℕ)) → is_none (hidden_password p) ≡ is_none p
absent None = refl
absent (Some p) = refl

-- the location as it is shown
abbrev pub hidden : Location → Location
hidden v = record v { password = hidden_password v.password }

same_choice : (p : Scheme) (v : Location) → choice_by p (hidden v) ≡ choice_by p v
same_choice file v = rw (absent v.password) refl
same_choice git v = refl
same_choice ssh v = rw (absent v.password) refl
same_choice http v = refl
same_choice https v = refl
same_choice ext v = rw (there v.password) refl
same_choice (helper name) v = rw (there v.password) refl
same_choice (helper_url name) v = refl

-- there is something to be shown, as there is a text; or there is nothing, for a fault
abbrev pub AreBoth : Option (List ℕ) → Result (List ℕ) WriteFault → Type 0
AreBoth (Some shown) (Ok t) = Unit {0}
AreBoth None (Err f) = Unit {0}
AreBoth _ _ = ⊥

both_by : (c : Result Form WriteFault) (w v : Location) → AreBoth (shown_text (in_form c w)) (in_form c v)
both_by (Ok form) w v = tt
both_by (Err f) w v = tt

pub both : (v : Location) → AreBoth (display v) (text v)
both v = subst (λ c. AreBoth (shown_text (in_form c (hidden v))) (text v)) (sym (same_choice v.scheme v)) (both_by (choice v) (hidden v) v)

-- if the text has a length, the shown text is this
pub shown_as : (d : Option (List ℕ)) (r : Result (List ℕ) WriteFault) (n : ℕ) (t : List ℕ) → AreBoth d r → text_length r ≡ Ok n → IfSome d (λ s. t ≡ s) → d ≡ Some t
shown_as (Some s) r n t b h same = ap Some (sym same)
shown_as None (Ok text) n t b h same = absurd b
shown_as None (Err f) n t b h same = let wrong : Err f ≡ Ok n = h in absurd (cc)

-- if it has none, there is a fault
pub unwritten : (r : Result (List ℕ) WriteFault) (f : WriteFault) → text_length r ≡ Err f → r ≡ Err f
unwritten (Ok t) f h = absurd (cc)
unwritten (Err g) f h = let same : Err g ≡ Err f = h in cc

-- for a fault nothing is shown
pub unshown : (d : Option (List ℕ)) (r : Result (List ℕ) WriteFault) (f : WriteFault) → AreBoth d r → r ≡ Err f → d ≡ None
unshown None r f b h = refl
unshown (Some s) (Err g) f b h = absurd b
unshown (Some s) (Ok t) f b h = absurd (cc)
