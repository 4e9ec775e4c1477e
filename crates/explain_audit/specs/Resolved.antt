-- The text to which Git resolves the URL of a submodule.
use Rattle.std.specs.Prelude.{ℕ, if◌then◌else◌, List, Option, Some, None, Result, Ok, Err}
use Rattle.git_modules.specs.declared.resolve.ResolveError.{ResolveError}
use Rattle.git_modules.specs.Resolve.{Resolution, resolution, resolved_text}
use Rattle.git_modules.specs.ResolveSteps.{is_relative}

-- the text of a URL that Git resolves, or none
abbrev pub text_of : Result Resolution ResolveError → Option (List ℕ)
text_of (Ok resolved) = Some (resolved_text resolved)
text_of (Err error) = None

-- the text to which Git resolves a relative URL against the text of the parent; none if the URL isn't relative, if no
-- parent is given, or if Git doesn't resolve the URL
abbrev pub text_against : Option (List ℕ) → List ℕ → Option (List ℕ)
text_against None url = None
text_against (Some parent) url = if is_relative url then text_of (resolution parent url) else None
