-- Paths of HTTP in whose locations Git agrees: one `/` begins them, and no segment is `.` or `..`.
use Rattle.std.proofs.Common.{◌≡◌, ◌∙◌, Bool, true, false, List, ℕ, [], ◌∷◌, ◌++◌, inl, inr, refl, sym, ap, subst, append_assoc}
use Rattle.std.proofs.lemmas.Bool.{false≢true}
use Rattle.std.proofs.lemmas.List.{append-nil}
use Rattle.git_syntax.specs.Location.{Scheme, Location}
use Rattle.git_syntax.specs.Location.Scheme.{file, git, ssh, http, https, ext, helper, helper_url}
use Rattle.git_syntax.specs.Bytes.{slash, begins_with}
use Rattle.git_class.specs.GitClass.{AgreesBy, AgreesWithGit}
use Rattle.git_class.specs.WebClass.{AgreesOverWeb, HasDotSegment}
use Rattle.git_readers.specs.Conditions.{LacksDots, form, form_of}
use Rattle.git_readers.specs.Unambiguous.{HasDots}
use Rattle.git_readers.specs.declared.unambiguous.Form.{Form}
use Rattle.git_readers.specs.declared.unambiguous.Form.TheVariants as form

-- the form is that of a URL of HTTP
abbrev is_web : Form → Bool
is_web form.Web = true
is_web _ = false

-- such a form is of a scheme of HTTP
agrees_by : (s : Scheme) (flag : Bool) (v : Location) → is_web (form_of s flag) ≡ true → AgreesBy s v → AgreesOverWeb v
agrees_by http flag v web agrees = agrees
agrees_by https flag v web agrees = agrees
agrees_by file true v web agrees = absurd (false≢true web)
agrees_by file false v web agrees = absurd (false≢true web)
agrees_by ssh true v web agrees = absurd (false≢true web)
agrees_by ssh false v web agrees = absurd (false≢true web)
agrees_by git flag v web agrees = absurd (false≢true web)
agrees_by ext flag v web agrees = absurd (false≢true web)
agrees_by (helper name) flag v web agrees = absurd (false≢true web)
agrees_by (helper_url name) flag v web agrees = absurd (false≢true web)

agrees_over_web : (v : Location) → form v ≡ form.Web → AgreesWithGit v → AgreesOverWeb v
agrees_over_web v e agrees = agrees_by v.scheme v.flag v (ap is_web e) agrees

-- a segment of dots after a `/` is one that readers take out
dots_after : (front path : List ℕ) → HasDots path → HasDotSegment (front ++ slash ∷ path)
dots_after front path (HasDots.whole _ dots) =
    record { front = front; dots = path; suffix = []; joined = ap (λ x. front ++ slash ∷ x) (sym (append-nil path)); segment = dots; end = inl refl }
dots_after front path (HasDots.first _ segment rest dots e) =
    record { front = front; dots = segment; suffix = slash ∷ rest; joined = ap (λ x. front ++ slash ∷ x) e; segment = dots; end = inr refl }
dots_after front path (HasDots.later _ f rest has e) =
    subst HasDotSegment (append_assoc front (slash ∷ f) (slash ∷ rest) ∙ ap (λ x. front ++ slash ∷ x) (sym e)) (dots_after (front ++ slash ∷ f) rest has)

-- a path that begins with `/` has none of another kind
rooted_dots : (path : List ℕ) → begins_with slash path ≡ true → HasDots path → HasDotSegment path
rooted_dots path rooted (HasDots.whole _ (inl e)) = absurd (false≢true (subst (λ x. begins_with slash x ≡ true) e rooted))
rooted_dots path rooted (HasDots.whole _ (inr e)) = absurd (false≢true (subst (λ x. begins_with slash x ≡ true) e rooted))
rooted_dots path rooted (HasDots.first _ segment rest (inl one) e) =
    absurd (false≢true (subst (λ x. begins_with slash x ≡ true) (e ∙ ap (λ x. x ++ slash ∷ rest) one) rooted))
rooted_dots path rooted (HasDots.first _ segment rest (inr two) e) =
    absurd (false≢true (subst (λ x. begins_with slash x ≡ true) (e ∙ ap (λ x. x ++ slash ∷ rest) two) rooted))
rooted_dots path rooted (HasDots.later _ front rest has e) = subst HasDotSegment (sym e) (dots_after front rest has)

-- if Git agrees, a path of HTTP has no segment of dots
pub web_lacks_dots : (v : Location) → form v ≡ form.Web → AgreesWithGit v → LacksDots (form v) v.path
web_lacks_dots v e agrees =
    let path = (agrees_over_web v e agrees).path in
    let none : ¬ HasDots v.path = λ has. path.no_dots (rooted_dots v.path path.rooted has) in
    subst (λ f. LacksDots f v.path) (sym e) none
