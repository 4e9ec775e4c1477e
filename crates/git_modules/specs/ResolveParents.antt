-- The part of the URL of a superproject's remote, the parent, that each `../` removes.
use Rattle.std.specs.Prelude.{ℕ, zero, suc, Bool, true, false, ◌||◌, ◌==◌, if◌then◌else◌, bytes_eq, List, [], ◌∷◌, Option, Some, None, option_and_then, unwrap_or}
use Rattle.std.specs.Option.{is_some}
use Rattle.git_syntax.specs.Bytes.{colon, dot, slash, begins_with}
use Rattle.git_rules.specs.Patterns.{without_last_slash}
use Rattle.git_modules.specs.declared.resolve.left.ParentForm.{ParentForm}
use Rattle.git_modules.specs.declared.resolve.left.ParentForm.TheVariants.{Rooted, Upward, Downward}
use Rattle.git_modules.specs.ResolveSteps.{after_here, after_up}

-- the rest of a parent: its text, or none if all of it is removed; and whether a `:` was removed
pub record LeftOver : Type 0 where
  pub text : Option (List ℕ)
  pub by_colon : Bool

-- the text has a colon before each `/`
abbrev pub is_remote : List ℕ → Bool
is_remote [] = false
is_remote (b ∷ bs) = if b == colon then true else (if b == slash then false else is_remote bs)

-- a URL, a remote in the scp form or an absolute path; otherwise a relative path, which may begin with `../`
abbrev pub form_of : List ℕ → ParentForm
form_of parent = if is_remote parent || begins_with slash parent then Rooted
    else (if is_some (after_up parent) then Upward else Downward)

-- the whole parent, without one trailing `/` and without a leading `./`
abbrev pub whole_of : List ℕ → LeftOver
whole_of trimmed = record { text = Some (unwrap_or (after_here trimmed) trimmed); by_colon = false }

-- the front before the last `c` of the rest, if there is one; otherwise the front before the byte, if that is `c`
abbrev pub or_before : ℕ → ℕ → Option (List ℕ) → Option (List ℕ)
or_before c b (Some front) = Some (b ∷ front)
or_before c b None = if b == c then Some [] else None

-- the text before its last `c`, if it has one
abbrev pub before_last : ℕ → List ℕ → Option (List ℕ)
before_last c [] = None
before_last c (b ∷ bs) = or_before c b (before_last c bs)

-- the last `:` and the text after it are removed; without a `:` all of the text is removed, but Git doesn't remove
-- a `.`
abbrev pub without_colon : Option (List ℕ) → List ℕ → Bool → Option LeftOver
without_colon (Some front) text by_colon = Some (record { text = Some front; by_colon = true })
without_colon None text by_colon =
    if bytes_eq text (dot ∷ []) then None else Some (record { text = None; by_colon = by_colon })

-- the rest after a `../` of a text without a `/`: nothing of a relative path, unless that begins with `../`
abbrev pub chop_element : ParentForm → List ℕ → Bool → Option LeftOver
chop_element Upward text by_colon = None
chop_element Downward text by_colon = Some (record { text = None; by_colon = by_colon })
chop_element Rooted text by_colon = without_colon (before_last colon text) text by_colon

-- the last `/` and the text after it are removed, if there is one
abbrev pub chop_by : ParentForm → List ℕ → Bool → Option (List ℕ) → Option LeftOver
chop_by form text by_colon (Some front) = Some (record { text = Some front; by_colon = by_colon })
chop_by form text by_colon None = chop_element form text by_colon

-- the rest after a `../` of a text
abbrev pub chop_text : ParentForm → Option (List ℕ) → Bool → Option LeftOver
chop_text form None by_colon = None
chop_text form (Some text) by_colon = chop_by form text by_colon (before_last slash text)

-- the rest after a `../`, if Git doesn't stop there
abbrev pub chop : ParentForm → LeftOver → Option LeftOver
chop form left = chop_text form left.text left.by_colon

-- the rest after this many `../`
abbrev pub chopped : ParentForm → ℕ → LeftOver → Option LeftOver
chopped form zero left = Some left
chopped form (suc n) left = option_and_then (chopped form n) (chop form left)

-- the rest of a parent after this many `../`
abbrev pub left_of : List ℕ → ℕ → Option LeftOver
left_of parent n = let trimmed = without_last_slash parent in chopped (form_of trimmed) n (whole_of trimmed)
