-- Which locations are written as URLs: their form by their scheme, and their texts by that.
use Rattle.std.proofs.Common.{◌≡◌, ℕ, true, false, not, ◌==◌, ◌⊎◌, inl, inr, List, [], ◌∷◌, sym, ap, subst, ◌∙◌, refl, Option, Some, None, IsSome, Result, Ok, ◌&&◌}
use Rattle.std.specs.Option.{is_some, is_none}
use Rattle.std.proofs.lemmas.Bool.{cond-false, and_right, false≢true}
use Rattle.git_syntax.specs.Location.{Location}
use Rattle.git_syntax.specs.Location.Scheme.{ssh, git, helper_url}
use Rattle.git_syntax.specs.Bytes.{colon, slash, tilde, begins_with, is_scheme_text, FreeOf}
use Rattle.git_location.specs.Settled.{IsTransportPath, IsWeb, IsHosted}
use Rattle.git_location.specs.Internal.SettledPieces.{IsWrittenAsUrl}
use Rattle.git_syntax.specs.Schemes.{scheme_text}
use Rattle.git_location.specs.Text.{Form, choice, choice_by, ssh_choice, with_host, is_relative, in_form, text, canonical_text}
use Rattle.git_location.specs.Text.Form.{canonical_form}
use Rattle.git_syntax.proofs.Texts.CutLemmas.{scheme_text_free}

-- a result holds one text
pub one_text : {E : Type 0} {r : Result (List ℕ) E} {s t : List ℕ} → r ≡ Ok s → r ≡ Ok t → s ≡ t
one_text h k = let both = sym h ∙ k in cc

-- there isn't a user without a host
both_given : (user host : Option (List ℕ)) → (IsSome user → IsSome host) → (is_some user && is_none host) ≡ false
both_given None host hosted = refl
both_given (Some u) None hosted = absurd (false≢true (hosted refl))
both_given (Some u) (Some h) hosted = refl

-- a user that comes with a host leaves the form as it is
pub host_given : (v : Location) (form : Form) → (IsSome v.user → IsSome v.host) → with_host v form ≡ Ok form
host_given v form hosted = cond-false _ _ _ (both_given v.user v.host hosted)

-- a location whose form is that of a URL has the text of a URL
canonical_by : (v : Location) → choice v ≡ with_host v canonical_form → IsHosted v → text v ≡ Ok (canonical_text v)
canonical_by v chosen hosted = ap (λ form. in_form form v) (chosen ∙ host_given v canonical_form hosted.0)

-- one of HTTP
pub written_web : (v : Location) → IsWeb v → IsWrittenAsUrl v
written_web v (inl e) = record {
  no_colon = subst (λ p. FreeOf colon (scheme_text p)) (sym e) refl;
  canonical = λ unflagged hosted. canonical_by v (ap (λ p. choice_by p v) e) hosted;
}
written_web v (inr e) = record {
  no_colon = subst (λ p. FreeOf colon (scheme_text p)) (sym e) refl;
  canonical = λ unflagged hosted. canonical_by v (ap (λ p. choice_by p v) e) hosted;
}

-- one of Git's own protocol
pub written_git : (v : Location) → v.scheme ≡ git → IsWrittenAsUrl v
written_git v e = record {
  no_colon = subst (λ p. FreeOf colon (scheme_text p)) (sym e) refl;
  canonical = λ unflagged hosted. canonical_by v (ap (λ p. choice_by p v) e) hosted;
}

-- one of another scheme
pub written_other : (v : Location) (name : List ℕ) → v.scheme ≡ helper_url name → is_scheme_text name ≡ true → IsWrittenAsUrl v
written_other v name e spelled = record {
  no_colon = subst (λ p. FreeOf colon (scheme_text p)) (sym e) (scheme_text_free name colon spelled refl);
  canonical = λ unflagged hosted. canonical_by v (ap (λ p. choice_by p v) e) hosted;
}

-- a path that is rooted or below a home folder is not relative
pub not_relative : (path : List ℕ) → (begins_with slash path ≡ true) ⊎ (begins_with tilde path ≡ true) → is_relative path ≡ false
not_relative [] begins = refl
not_relative (b ∷ bs) (inl e) = rw e refl
not_relative (b ∷ bs) (inr e) = let other : not (b == tilde) ≡ false = ap not e in and_right _ _ other

-- a location of Secure Shell with such a path and without the flag has the form of a URL
pub secure_choice : (v : Location) → is_relative v.path ≡ false → v.flag ≡ false → ssh_choice v ≡ with_host v canonical_form
secure_choice v rooted unflagged = rw (rooted, unflagged) refl

transport_begins : (v : Location) → IsTransportPath v → (begins_with slash v.path ≡ true) ⊎ (begins_with tilde v.path ≡ true)
transport_begins v (inl rooted) = inl rooted.0
transport_begins v (inr home) = inr home.0

-- one of Secure Shell, with such a path
pub written_secure : (v : Location) → v.scheme ≡ ssh → IsTransportPath v → IsWrittenAsUrl v
written_secure v e path = record {
  no_colon = subst (λ p. FreeOf colon (scheme_text p)) (sym e) refl;
  canonical = λ unflagged hosted. canonical_by v (ap (λ p. choice_by p v) e ∙ secure_choice v (not_relative v.path (transport_begins v path)) unflagged) hosted;
}
