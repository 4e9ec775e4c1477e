-- The part of its parent that a relative URL keeps, unless it climbs out of the parent's path.
use Rattle.std.specs.Prelude.{ℕ, ◌+◌, suc, Bool, false, not, ◌&&◌, ◌||◌, ◌==◌, if◌then◌else◌, bytes_eq, List, [], ◌∷◌, length, take, drop, Option, Some, None, option_and_then}
use Rattle.git_syntax.specs.Bytes.{colon, left_bracket, right_bracket, slash}
use Rattle.git_modules.specs.ResolveSteps.{is_relative, ups}
use Rattle.git_modules.specs.ResolveParents.{is_remote, left_of}

-- the byte after this one is within brackets
abbrev pub is_within : Bool → ℕ → Bool
is_within within b = b == left_bracket || (within && not (b == right_bracket))

-- the length of the text before the first `:` outside brackets: a scheme, or a host with its user
abbrev pub name_length : Bool → List ℕ → ℕ
name_length within [] = 0
name_length within (b ∷ bs) =
    if b == colon && not within then 0 else suc (name_length (is_within within b) bs)

-- the length of the text before the first `/`
abbrev pub authority_length : List ℕ → ℕ
authority_length [] = 0
authority_length (b ∷ bs) = if b == slash then 0 else suc (authority_length bs)

-- the length of the root in the text after a name: `://` and an authority, the `:` before an absolute path, or
-- nothing
abbrev pub mark_length : List ℕ → ℕ
mark_length [] = 0
mark_length (a ∷ []) = 0
mark_length (a ∷ b ∷ []) = if b == slash then 1 else 0
mark_length (a ∷ b ∷ c ∷ rest) =
    if b == slash then (if c == slash then 3 + authority_length rest else 1) else 0

-- the root of a parent: `scheme://authority` of a URL; the host of the scp form with its user, and with its `:` if
-- the path is absolute; empty for a path
abbrev pub root_of : List ℕ → List ℕ
root_of parent = if is_remote parent
    then (let name = name_length false parent in take (name + mark_length (drop name parent)) parent) else []

-- the remaining text of a parent, if any
abbrev pub text_left : List ℕ → List ℕ → Option (List ℕ)
text_left parent url = option_and_then (λ left. left.text) (left_of parent (ups url))

-- the remaining text of a parent begins with this root
abbrev pub keeps_root : List ℕ → Option (List ℕ) → Bool
keeps_root root None = false
keeps_root root (Some left) = bytes_eq root (take (length root) left)

-- the URL is relative, and leaves the path of its parent: the remaining text of the parent doesn't begin with its
-- root
abbrev pub climbs : List ℕ → List ℕ → Bool
climbs parent url = is_relative url && not (keeps_root (root_of parent) (text_left parent url))
