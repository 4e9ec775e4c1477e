-- The normal forms of hosts and of literals are idempotent.
use Rattle.std.proofs.Common.{◌≡◌, ℕ, Bool, List, ◌++◌, refl, sym, ap, subst, ◌∙◌, codes, arith}
use Rattle.std.proofs.lemmas.Bool.Decides.{nat_tests}
use Rattle.std.specs.List.{list_all}
use Rattle.std.proofs.lemmas.Bool.{cond-true, cond-false}
use Rattle.git_syntax.specs.Bytes.{lowercase}
use Rattle.git_syntax.specs.Addresses.{IsIpv6Text, Literal}
use Rattle.git_syntax.specs.Addresses.Literal.{address, zoned}
use Rattle.git_syntax.specs.Hosts.{is_dns_byte, normal_host}
use Rattle.git_syntax.proofs.Addresses.AddressLemmas.{lowercase_twice, address-lowercase}
use Rattle.git_syntax.proofs.Parsing.HostLemmas.{dns_lowercase}

-- by whether the host looks like a domain name
normal_by : (host : List ℕ) (is_domain : Bool) → list_all is_dns_byte host ≡ is_domain → normal_host (normal_host host) ≡ normal_host host
normal_by host is_domain h = grind (arith, nat_tests, cond-false, cond-true, dns_lowercase, lowercase_twice)

-- the normal form of a host is its own
pub normal_again : (host : List ℕ) → normal_host (normal_host host) ≡ normal_host host
normal_again host = normal_by host (list_all is_dns_byte host) refl

-- the normal form of a literal is a literal, and its own
pub literal_again : (given normal : List ℕ) → Literal given normal → Literal normal normal
literal_again text normal (address is e) =
    address (subst IsIpv6Text (sym e) (address-lowercase text is)) (e ∙ sym (ap lowercase e ∙ lowercase_twice text))
literal_again text normal (zoned a z is zone joined e) =
    zoned (lowercase a) z (address-lowercase a is) zone e (e ∙ sym (ap (λ t. t ++ (codes "%25" ++ z)) (lowercase_twice a)))
