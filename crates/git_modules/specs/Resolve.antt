-- The URL of a submodule that Git stores.
use Rattle.std.specs.Prelude.{ℕ, Bool, true, false, if◌then◌else◌, List, [], ◌∷◌, ◌++◌, Option, Some, None, Result, Ok, Err}
use Rattle.git_syntax.specs.Bytes.{colon, dot, slash}
use Rattle.git_rules.specs.Patterns.{without_last_slash}
use Rattle.git_modules.specs.declared.resolve.ResolveError.{ResolveError}
use Rattle.git_modules.specs.declared.resolve.ResolveError.TheVariants.{EmptyParent, NothingLeft}
use Rattle.git_modules.specs.ResolveSteps.{after_steps, is_relative, ups}
use Rattle.git_modules.specs.ResolveParents.{LeftOver, left_of}

-- a resolved URL, in three parts
pub record Resolution : Type 0 where
  pub front : List ℕ
  pub separator : List ℕ
  pub rest : List ℕ

-- the text of a resolved URL
abbrev pub resolved_text : Resolution → List ℕ
resolved_text r = r.front ++ (r.separator ++ r.rest)

-- the front and the separator before a rest: `/`, or `:` if one was removed. If nothing is left of the parent, the
-- front is empty, or `.` if a `:` was removed
abbrev pub join : Option (List ℕ) → Bool → List ℕ → Resolution
join (Some front) false rest = record { front = front; separator = slash ∷ []; rest = rest }
join (Some front) true rest = record { front = front; separator = colon ∷ []; rest = rest }
join None false rest = record { front = []; separator = []; rest = rest }
join None true rest = record { front = dot ∷ []; separator = colon ∷ []; rest = rest }

-- the rest of the parent, joined with the rest of the URL without one trailing `/`
abbrev pub joined : Option LeftOver → List ℕ → Result Resolution ResolveError
joined None rest = Err NothingLeft
joined (Some left) rest = Ok (join left.text left.by_colon (without_last_slash rest))

-- a relative URL against a parent, which may not be empty
abbrev pub against : List ℕ → List ℕ → Result Resolution ResolveError
against [] url = Err EmptyParent
against (b ∷ bs) url = joined (left_of (b ∷ bs) (ups url)) (after_steps url)

-- the URL that Git stores for a submodule with this parent and this URL, or why it stores none; a URL that isn't
-- relative is unchanged
abbrev pub resolution : List ℕ → List ℕ → Result Resolution ResolveError
resolution parent url = if is_relative url then against parent url
    else Ok (record { front = []; separator = []; rest = url })
