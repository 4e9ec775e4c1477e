-- Laws on passwords and on arguments of commands.
use Rattle.std.specs.Prelude.{◌≡◌, ℕ, false, List, Option, Some}
use Rattle.git_syntax.specs.Bytes.{is_option_like}
use Rattle.git_syntax.specs.Location.{Location}
use Rattle.git_location.specs.Arguments.{judgement_of, path_argument}
use Rattle.git_location.specs.Arguments.Judgement.{usable}
use Rattle.git_location.specs.Display.{display}
pub use Rattle.git_syntax.specs.Safeguards.{PathSet, PasswordSet, UserSet, DecidesAddresses}

-- `Display` has the same output for locations that differ only in the text of their passwords
abbrev pub HidesPassword : Type 0
HidesPassword = (v : Location) (p q : List ℕ)
    → display (record v { password = Some p }) ≡ display (record v { password = Some q })

-- a usable argument doesn't begin with `-`, and is the field itself
abbrev pub UsableIsNoOption : Type 0
UsableIsNoOption = (part : Option (List ℕ)) (text : List ℕ) → judgement_of part ≡ usable text
    → (part ≡ Some text) × (is_option_like text ≡ false)

-- a path that is passed doesn't begin with `-`, and is the path itself
abbrev pub PathIsNoOption : Type 0
PathIsNoOption = (path text : List ℕ) → path_argument path ≡ Some text
    → (path ≡ text) × (is_option_like text ≡ false)
