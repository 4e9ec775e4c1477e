-- Home folders: how a path begins, and that it has one split and one reading for a shell.
use Rattle.std.proofs.Common.{◌≡◌, ℕ, false, ◌==◌, ◌&&◌, inl, inr, List, [], ◌∷◌, ◌++◌, Option, Some, None, Result, Ok, Err, String, string_bytes, Bor, refl, sym, ap, ◌∙◌}
use Rattle.std.specs.Global.{Global}
use Rattle.std.specs.Option.{option_copied}
use Rattle.bstr.proofs.Computing.{computing}
use Rattle.gix_url.specs.declared.error.Error.{Error}
use Rattle.gix_url.specs.declared.error.Error.TheVariants as error
use Rattle.git_syntax.specs.Bytes.{slash, tilde, FreeOf, begins_with, lossy_text}
use Rattle.git_syntax.specs.Grammar.{begins_at_home}
use Rattle.gix_url.specs.Paths.{IsParent}
use Rattle.gix_url.specs.Homes.{HomeUser, home_user, SplitsHome, shell_text, ForShell, HomeFolder, Expands}
use Rattle.gix_url.specs.Homes.HomeUser.{current, named}
use Rattle.gix_url.specs.HomeReadings.{HomePath, Expansion, AnswersExpanded}

-- ---- how a path begins

-- a path that doesn't begin with `/` doesn't begin with `/~`
pub no_slash_no_home : (path : List ℕ) → begins_with slash path ≡ false → begins_at_home path ≡ false
no_slash_no_home [] h = refl
no_slash_no_home (a ∷ []) h = refl
no_slash_no_home (a ∷ b ∷ rest) h = ap (λ t. t && b == tilde) h

-- nor does one whose `/` another byte than `~` follows
pub no_tilde_no_home : (rest : List ℕ) → begins_with tilde rest ≡ false → begins_at_home (slash ∷ rest) ≡ false
no_tilde_no_home [] h = refl
no_tilde_no_home (b ∷ rest) h = h

-- ---- splits

-- nothing is shown as nothing
lossy_none : lossy_text [] ≡ []
unfolding computing
lossy_none = refl

-- the split of a path with a user
pub splits_at : (path name below : List ℕ) (user : HomeUser) (rest : List ℕ) → FreeOf slash name → HomePath path name below
    → user ≡ home_user name → rest ≡ slash ∷ lossy_text below → SplitsHome path (Some user) rest
splits_at path name below user rest free (inl (e, none)) u r = SplitsHome.home_alone name free e (ap Some u) (r ∙ ap (λ t. slash ∷ t) (ap lossy_text none ∙ lossy_none))
splits_at path name below user rest free (inr e) u r = SplitsHome.below_home name below free e (ap Some u) r

-- a user's path as a shell takes it
shell_named : (name rest : List ℕ) → shell_text (Some (home_user name)) rest ≡ tilde ∷ (name ++ rest)
shell_named [] rest = refl
shell_named (b ∷ bs) rest = refl

-- the reading of such a path for a shell
pub shell_at : (path name below rest text : List ℕ) → FreeOf slash name → HomePath path name below
    → rest ≡ slash ∷ lossy_text below → text ≡ tilde ∷ (name ++ rest) → ForShell path text
shell_at path name below rest text free cut r e = record {
  user = Some (home_user name);
  rest = rest;
  split = splits_at path name below (home_user name) rest free cut refl r;
  written = e ∙ sym (shell_named name rest);
}

-- ---- folders

-- none is known beside none
pub folder_unknown : (home : Option (Bor (List ℕ))) (user : HomeUser) → ((text : Bor (List ℕ)) → home ≡ Some text → ⊥) → HomeFolder (option_copied home) user None
folder_unknown None current h = HomeFolder.own refl refl
folder_unknown None (named name) h = HomeFolder.unknown name refl refl refl
folder_unknown (Some text) user h = absurd (h text refl)

-- a folder without a parent has none beside it
pub folder_topmost : (own name : List ℕ) (parent : Option (Bor (List ℕ))) → IsParent own (option_copied parent) → ((text : Bor (List ℕ)) → parent ≡ Some text → ⊥) → HomeFolder (Some own) (named name) None
folder_topmost own name None h k = HomeFolder.topmost name own refl refl h refl
folder_topmost own name (Some text) h k = absurd (k text refl)

-- ---- expansions

-- an expansion by a folder is one by all that holds of the folder
pub expansion_weaker : (strong weak : Option (List ℕ) → Type 0) → ((folder : Option (List ℕ)) → strong folder → weak folder) → (user : HomeUser) (path : List ℕ) (r : Result (String Global) Error) → Expansion strong user path r → Expansion weak user path r
expansion_weaker strong weak f user path (Ok text) (folder, h, below) = (folder, f (Some folder) h, below)
expansion_weaker strong weak f user path (Err error.Memory) h = tt
expansion_weaker strong weak f user path (Err (error.NoHome who)) (h, e) = (f None h, e)
expansion_weaker strong weak f user path (Err _) h = h

-- an answer for a user by the user's home folder is that of the expansion
pub answers_expanded : (home : Option (List ℕ)) (user : HomeUser) (path : List ℕ) (r : Result (String Global) Error) → Expansion (HomeFolder home user) user path r → AnswersExpanded home (Some user) path r
answers_expanded home user path (Ok text) (folder, h, below) = Expands.at_home user folder (string_bytes text) refl h below refl
answers_expanded home user path (Err error.Memory) h = tt
answers_expanded home user path (Err (error.NoHome who)) (h, e) = (ap Some (sym e), Expands.homeless user refl h refl)
answers_expanded home user path (Err _) h = h
