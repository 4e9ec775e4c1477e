-- Remote helpers and local paths that are read are settled, and are written as they were read.
use Rattle.std.proofs.Common.{◌≡◌, ℕ, true, List, ◌∷◌, ◌++◌, Option, Ok, refl, arith}
use Rattle.std.proofs.lemmas.Bool.Decides.{nat_tests}
use Rattle.std.proofs.lemmas.Slice.Eq.{bytes_eq-Decides}
use Rattle.git_syntax.specs.Location.{Scheme, Location, path_alone}
use Rattle.git_syntax.specs.Location.Scheme.{file, helper}
use Rattle.git_syntax.specs.Bytes.{colon, is_helper_name}
use Rattle.git_syntax.specs.Grammar.{helper_scheme, SpellsHelper, SpellsLocal}
use Rattle.git_location.specs.Text.{text}
use Rattle.git_location.specs.Settled.{IsSettled}
use Rattle.git_syntax.proofs.Parsing.SchemeLemmas.{helper_cases}

-- the value of a location that has a scheme, a path and the flag, and perhaps a spelling
abbrev pub kept : Scheme → List ℕ → Option (List ℕ) → Location
kept scheme path spelling = record (path_alone scheme true path) { spelling = spelling }

-- ---- texts

-- a remote helper is written as its name, `::` and its path
pub helper_written : (name path : List ℕ) (spelling : Option (List ℕ)) → is_helper_name name ≡ true → text (kept (helper name) path spelling) ≡ Ok (name ++ colon ∷ (colon ∷ path))
helper_written name path spelling named = rw named refl

-- a local path is written as it is
pub local_written : (path : List ℕ) (spelling : Option (List ℕ)) → text (kept file path spelling) ≡ Ok path
local_written path spelling = refl

-- a remote helper without a spelling is settled
helper_settled : (name path : List ℕ) → is_helper_name name ≡ true → IsSettled (path_alone (helper_scheme name) true path)
helper_settled name path named = grind arith

-- and written as its name, `::` and its path
helper_text : (name path : List ℕ) → is_helper_name name ≡ true → text (path_alone (helper_scheme name) true path) ≡ Ok (name ++ colon ∷ (colon ∷ path))
helper_text name path named = grind (arith, nat_tests, helper_written, bytes_eq-Decides, helper_cases)

-- the location of a remote helper's form is settled, and written as it was read
pub helper_unchanged : (b : List ℕ) (v : Location) → SpellsHelper b v → IsSettled v × (text v ≡ Ok b)
helper_unchanged b v h = grind (arith, nat_tests, helper_settled, helper_text)

-- the location of a local path is settled, and written as it was read
pub local_unchanged : (b : List ℕ) (v : Location) → SpellsLocal b v → IsSettled v × (text v ≡ Ok b)
local_unchanged b v h = grind arith
