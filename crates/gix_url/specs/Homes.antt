-- Home folders: the user of a path's home folder, and the folder.
use Rattle.std.specs.Prelude.{◌≡◌, ℕ, false, List, [], ◌∷◌, ◌++◌, Option, Some, None}
use Rattle.git_syntax.specs.Bytes.{slash, tilde, FreeOf, lossy_text}
use Rattle.git_syntax.specs.Grammar.{begins_at_home}
use Rattle.gix_url.specs.Paths.{Joins, LiesBelow, IsParent}

-- ---- the user

-- the current user, or one with a name
pub data HomeUser : Type 0 where
  current : HomeUser
  named : List ℕ → HomeUser

-- the user of this name: an empty name is the current user
abbrev pub home_user : List ℕ → HomeUser
home_user [] = current
home_user (b ∷ bs) = named (b ∷ bs)

-- a path is `/~`, the name of a user and a rest, or has no user
pub data SplitsHome (path : List ℕ) (user : Option HomeUser) (rest : List ℕ) : Type 0 where
  -- `/~name`
  home_alone : (name : List ℕ) → FreeOf slash name → path ≡ slash ∷ (tilde ∷ name)
      → user ≡ Some (home_user name) → rest ≡ slash ∷ [] → SplitsHome path user rest
  -- `/~name/below`
  below_home : (name below : List ℕ) → FreeOf slash name
      → path ≡ slash ∷ (tilde ∷ (name ++ slash ∷ below))
      → user ≡ Some (home_user name) → rest ≡ slash ∷ lossy_text below → SplitsHome path user rest
  -- any other path
  no_home : begins_at_home path ≡ false → user ≡ None → rest ≡ path → SplitsHome path user rest

-- a path below the home folder of a user, as a shell takes it
abbrev pub shell_text : Option HomeUser → List ℕ → List ℕ
shell_text None path = path
shell_text (Some current) path = tilde ∷ path
shell_text (Some (named name)) path = tilde ∷ (name ++ path)

-- the path as a shell takes it
pub record ForShell (path result : List ℕ) : Type 0 where
  pub user : Option HomeUser
  pub rest : List ℕ
  pub split : SplitsHome path user rest
  pub written : result ≡ shell_text user rest

-- ---- the folder

-- the home folder of a user, if it is known, from that of the current user
pub data HomeFolder (home : Option (List ℕ)) (user : HomeUser)
    (folder : Option (List ℕ)) : Type 0 where
  -- the current user's own
  own : user ≡ current → folder ≡ home → HomeFolder home user folder
  -- another user's folder is next to it, in its parent
  beside : (name own parent other : List ℕ) → user ≡ named name → home ≡ Some own
      → IsParent own (Some parent)
      → Joins parent (lossy_text name) other → folder ≡ Some other → HomeFolder home user folder
  -- if it has no parent, no folder is known
  topmost : (name own : List ℕ) → user ≡ named name → home ≡ Some own → IsParent own None
      → folder ≡ None → HomeFolder home user folder
  -- if it isn't known, no other folder is known
  unknown : (name : List ℕ) → user ≡ named name → home ≡ None → folder ≡ None
      → HomeFolder home user folder

-- a path, unchanged without a user, or below the home folder of its user; `None` if that isn't known
pub data Expands (home : Option (List ℕ)) (user : Option HomeUser) (path : List ℕ)
    (result : Option (List ℕ)) : Type 0 where
  userless : user ≡ None → result ≡ Some path → Expands home user path result
  at_home : (who : HomeUser) (folder whole : List ℕ) → user ≡ Some who
      → HomeFolder home who (Some folder)
      → LiesBelow folder path whole → result ≡ Some whole → Expands home user path result
  homeless : (who : HomeUser) → user ≡ Some who → HomeFolder home who None → result ≡ None
      → Expands home user path result
