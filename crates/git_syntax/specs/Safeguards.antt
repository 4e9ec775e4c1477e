-- Laws on the sets of escaped bytes and on the test for IPv6 texts.
use Rattle.std.specs.Prelude.{◌≡◌, ℕ, ◌↔◌, List, IsTrue}
use Rattle.git_syntax.specs.declared.escape.TheConstants.{PATH, PASSWORD, USER}
use Rattle.git_syntax.specs.Escapes.{HoldsExactly, path_set, password_set, user_set, is_path_escaped, is_password_escaped, is_user_escaped}
use Rattle.git_syntax.specs.Addresses.{IsIpv6Text}
use Rattle.git_syntax.specs.AddressTest.{is_ipv6_text}

-- the code's set for paths is the documented one and has exactly the documented bytes of ASCII
abbrev pub PathSet : Type 0
PathSet = (PATH ≡ path_set) × HoldsExactly path_set is_path_escaped

-- the code's set for passwords is the documented one and has exactly the documented bytes of ASCII
abbrev pub PasswordSet : Type 0
PasswordSet = (PASSWORD ≡ password_set) × HoldsExactly password_set is_password_escaped

-- the code's set for users is the documented one and has exactly the documented bytes of ASCII
abbrev pub UserSet : Type 0
UserSet = (USER ≡ user_set) × HoldsExactly user_set is_user_escaped

-- exactly the IPv6 texts pass the test that the definition of a location's text uses
abbrev pub DecidesAddresses : Type 0
DecidesAddresses = (t : List ℕ) → IsTrue (is_ipv6_text t) ↔ IsIpv6Text t
