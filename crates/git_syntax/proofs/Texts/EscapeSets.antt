-- The bytes of the three sets of escaped bytes, by computing at each ASCII byte.
use Rattle.std.proofs.Common.{◌∙◌, ℕ, List, refl, arith}
use Rattle.std.proofs.lemmas.Bool.{agree_below_at}
use Rattle.std.proofs.lemmas.Bool.Decides.{nat_tests}
use Rattle.percent_encoding.specs.AsciiSet.{contains}
use Rattle.percent_encoding.specs.Percent.{percent_encode}
use Rattle.git_syntax.specs.Bytes.{LacksWhiteSpace}
use Rattle.git_syntax.specs.Escapes.{HoldsExactly, is_path_escaped, is_password_escaped, is_user_escaped}
use Rattle.git_syntax.specs.declared.escape.TheConstants.{PATH, PASSWORD, USER}
use Rattle.git_syntax.proofs.Texts.EscapeLemmas.{white_space_encode}

-- the set of the path is its definition
pub path_holds : HoldsExactly PATH is_path_escaped
path_holds b ascii = agree_below_at (contains PATH) is_path_escaped 128 b refl ascii

-- the set of the password is its definition
pub password_holds : HoldsExactly PASSWORD is_password_escaped
password_holds b ascii = agree_below_at (contains PASSWORD) is_password_escaped 128 b refl ascii

-- the set of the user is its definition
pub user_holds : HoldsExactly USER is_user_escaped
user_holds b ascii = agree_below_at (contains USER) is_user_escaped 128 b refl ascii

-- a path is written without white space
pub white_space_path : (t : List ℕ) → LacksWhiteSpace (percent_encode PATH t)
white_space_path t = white_space_encode PATH t (λ b ascii space. path_holds b ascii ∙ grind (arith, nat_tests))
