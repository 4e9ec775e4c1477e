-- The results of the calls on home folders and on canonical paths, by the types of the code.
use Rattle.std.specs.Prelude.{◌≡◌, ℕ, false, ◌⊎◌, List, [], ◌∷◌, ◌++◌, Option, Some, None, MatchOption, Result, Ok, Err, String, string_bytes, IsUtf8}
use Rattle.std.specs.Global.{Global}
use Rattle.std.specs.Borrow.{Bor}
use Rattle.bstr.specs.Owned.{bstring_bytes}
use Rattle.gix_url.specs.declared.home_user.ForUser.{ForUser}
use Rattle.gix_url.specs.declared.home_user.ForUser.TheVariants.{Current, Name}
use Rattle.gix_url.specs.declared.error.Error.{Error}
use Rattle.gix_url.specs.declared.error.Error.TheVariants as error
use Rattle.git_syntax.specs.Location.{Location}
use Rattle.git_syntax.specs.Location.Scheme.{file}
use Rattle.git_syntax.specs.Bytes.{slash, tilde, FreeOf}
use Rattle.git_syntax.specs.Grammar.{begins_at_home}
use Rattle.gix_url.specs.Paths.{EndsInPiece, IsIdle, LiesBelow}
use Rattle.gix_url.specs.Homes.{HomeUser, Expands}
use Rattle.gix_url.specs.Homes.HomeUser.{current, named}

-- the user that a `ForUser` represents
abbrev pub user_of : ForUser → HomeUser
user_of Current = current
user_of (Name name) = named (bstring_bytes name)

-- the path is `/~` and a name, with nothing below, or `/~`, a name, `/` and the rest below
abbrev pub HomePath : List ℕ → List ℕ → List ℕ → Type 0
HomePath path name below = ((path ≡ slash ∷ (tilde ∷ name)) × (below ≡ []))
    ⊎ (path ≡ slash ∷ (tilde ∷ (name ++ slash ∷ below)))

-- the name of a user and the path below the home folder, or `None` if the path doesn't begin with `/~`
abbrev pub CutsHome : List ℕ → Option (Bor (List ℕ) × Bor (List ℕ)) → Type 0
CutsHome path r = MatchOption r (begins_at_home path ≡ false)
    (λ p. FreeOf slash p.0.now × HomePath path p.0.now p.1.now)

-- the first segment of a text, and the text after the `/` that ends it, if one does
abbrev pub CutsSegment : List ℕ → Bor (List ℕ) → Option (Bor (List ℕ)) → Type 0
CutsSegment text segment suffix =
    FreeOf slash segment.now
    × MatchOption suffix (text ≡ segment.now) (λ more. text ≡ segment.now ++ slash ∷ more.now)

-- the front of a text that ends with its last piece; it is empty if there is no piece
pub record UpToLast (text front : List ℕ) : Type 0 where
  pub tail : List ℕ
  pub idle : IsIdle tail
  pub whole : text ≡ front ++ tail
  pub last : EndsInPiece front ⊎ (front ≡ [])

-- the result for a user whose home folder satisfies `is_home`: the path below it, or the error that none is
-- known
abbrev pub Expansion : (Option (List ℕ) → Type 0) → HomeUser → List ℕ → Result (String Global) Error
    → Type 0
Expansion is_home user path (Ok text) = (folder : List ℕ) × is_home (Some folder)
    × LiesBelow folder path (string_bytes text)
Expansion is_home user path (Err error.Memory) = Unit {0}
Expansion is_home user path (Err (error.NoHome who)) = is_home None × (user_of who ≡ user)
Expansion is_home user path (Err _) = ⊥

-- the result of an expansion by the home folder of the current user: the expanded path, or the error that the
-- user has none
abbrev pub AnswersExpanded : Option (List ℕ) → Option HomeUser → List ℕ → Result (String Global) Error
    → Type 0
AnswersExpanded home user path (Ok text) = Expands home user path (Some (string_bytes text))
AnswersExpanded home user path (Err error.Memory) = Unit {0}
AnswersExpanded home user path (Err (error.NoHome who)) = (user ≡ Some (user_of who))
    × Expands home user path None
AnswersExpanded home user path (Err _) = ⊥

-- why a path wasn't expanded: it is not text, its user has no home folder, or an allocation failed
abbrev pub IsUnexpanded : Option HomeUser → List ℕ → Error → Type 0
IsUnexpanded user path error.PathNotUtf8 = ¬ IsUtf8 path
IsUnexpanded user path (error.NoHome who) = IsUtf8 path × (user ≡ Some (user_of who))
IsUnexpanded user path error.Memory = IsUtf8 path
IsUnexpanded user path _ = ⊥

-- why the path of a local location wasn't resolved: it is not text, or the resolver returned `None` for it
abbrev pub IsUnresolved : Location → Error → Type 0
IsUnresolved v error.PathNotUtf8 = (v.scheme ≡ file) × ¬ IsUtf8 v.path
IsUnresolved v error.Unresolved = (v.scheme ≡ file) × IsUtf8 v.path
IsUnresolved v _ = ⊥
