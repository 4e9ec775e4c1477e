-- The laws of home folders and of paths as text: each definition has exactly one result.
use Rattle.std.specs.Prelude.{◌≡◌, ℕ, List, Option}
use Rattle.gix_url.specs.Paths.{WithoutFirst, Joins, IsParent}
use Rattle.gix_url.specs.Homes.{HomeUser, SplitsHome, ForShell, HomeFolder, Expands}

-- exactly one value fits
abbrev pub ExactlyOne : {A : Type 0} → (A → Type 0) → Type 0
ExactlyOne {A} fits = ((x : A) × fits x) × ((x y : A) → fits x → fits y → x ≡ y)

-- a path has exactly one home split: the user in whose home folder it begins, if any, and the rest
abbrev pub OneHomeSplit : Type 0
OneHomeSplit = (path : List ℕ)
    → ExactlyOne {A = Option HomeUser × List ℕ} (λ split. SplitsHome path split.0 split.1)

-- there is exactly one text as which a shell takes a path
abbrev pub OneReading : Type 0
OneReading = (path : List ℕ) → ExactlyOne (ForShell path)

-- a text without its first component is exactly one text
abbrev pub OneRest : Type 0
OneRest = (text : List ℕ) → ExactlyOne (WithoutFirst text)

-- a path joined to a folder is exactly one path
abbrev pub OneJoined : Type 0
OneJoined = (folder path : List ℕ) → ExactlyOne (Joins folder path)

-- a text has exactly one parent, or none
abbrev pub OneParent : Type 0
OneParent = (text : List ℕ) → ExactlyOne (IsParent text)

-- a user has exactly one home folder, or none is known
abbrev pub OneFolder : Type 0
OneFolder = (home : Option (List ℕ)) (user : HomeUser) → ExactlyOne (HomeFolder home user)

-- a path has exactly one expansion
abbrev pub OneExpansion : Type 0
OneExpansion = (home : Option (List ℕ)) (user : Option HomeUser) (path : List ℕ)
    → ExactlyOne (Expands home user path)
