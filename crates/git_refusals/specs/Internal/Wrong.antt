-- The characters that the code's checks search for.
use Rattle.std.specs.Prelude.{ℕ, Bool, true}
use Rattle.std.specs.Char.{is_whitespace}
use Rattle.git_refusals.specs.declared.characters.Wrong.{Wrong}
use Rattle.git_refusals.specs.declared.characters.Wrong.TheVariants.{WhiteSpace, InScheme, InWebHost, Any}
use Rattle.git_refusals.specs.Characters.{is_no_scheme_character, is_no_host_character}

-- the test for the character
abbrev pub wrong_test : Wrong → ℕ → Bool
wrong_test WhiteSpace = is_whitespace
wrong_test InScheme = is_no_scheme_character
wrong_test InWebHost = is_no_host_character
wrong_test Any = λ _. true
