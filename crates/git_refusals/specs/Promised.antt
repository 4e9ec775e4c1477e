-- The flaw that the error of a refusal names, as `git_syntax` defines flaws. It is coarser than the reason.
use Rattle.std.specs.Prelude.{◌≡◌, ℕ, List, [], IsUtf8}
use Rattle.git_syntax.specs.declared.refusal.UrlKind.{UrlKind}
use Rattle.git_syntax.specs.Flaws.{MissesPath, HasForm, IsTooLong, KindFlaw}
use Rattle.git_refusals.specs.declared.reason.RefusalKind.{RefusalKind}
use Rattle.git_refusals.specs.declared.reason.RefusalKind.TheVariants as kind
use Rattle.git_refusals.specs.declared.refusal.Refusal.{Refusal}
use Rattle.git_refusals.specs.Kinds.{kind_of}

-- the flaw that an error names is in the bytes, which have this form
abbrev pub IsOfKind : List ℕ → UrlKind → RefusalKind → Type 0
IsOfKind b form kind.EmptyLocal = b ≡ []
IsOfKind b form kind.MissingPath = MissesPath b form
IsOfKind b form kind.NotUtf8 = ¬ IsUtf8 b × HasForm b form
IsOfKind b form kind.TooLong = IsTooLong b
IsOfKind b form (kind.BadUrl fault) = KindFlaw b form fault

-- the flaw that the error of a refusal names is in the bytes
abbrev pub NamesKind : List ℕ → Refusal → Type 0
NamesKind b r = IsOfKind b r.form (kind_of r.reason)
