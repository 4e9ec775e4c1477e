-- The text of a location of HTTP of the class, before any reader cuts
-- it: scheme, user information, host, port and path.
use Rattle.std.proofs.Common.{◌≡◌, ◌∙◌, ℕ, ◌<◌, true, List, ◌++◌, length, Some, Ok, sym, ap, subst, arith}
use Rattle.std.proofs.lemmas.Option.{same_Some}
use Rattle.git_syntax.specs.Location.{Location}
use Rattle.git_syntax.specs.Bytes.{at_sign, Lacks, FreeOf, IsLowercase, is_scheme_text, is_path_start}
use Rattle.git_syntax.specs.Hosts.HostSyntax.{http_hosts}
use Rattle.git_syntax.specs.Schemes.{scheme_text}
use Rattle.git_syntax.specs.Hosts.{port_part}
use Rattle.git_location.specs.Text.{user_information, host_part, canonical_text, text}
use Rattle.git_location.specs.Settled.{IsValue, IsWeb, IsWebHost}
use Rattle.git_class.specs.WebClass.{IsUnambiguousHost, AgreesOverWeb}
use Rattle.git_reads.specs.Credentials.{IsOneLine}
use Rattle.git_laws.proofs.Writing.WrittenWebHostLemmas.{web_host_same, web_host_written}
use Rattle.git_laws.proofs.Writing.WrittenUrlLemmas.{authority_text, authority_with_host}
use Rattle.git_location.proofs.SettledClass.SettledLemmas.{settled_as_web}
use Rattle.git_class.proofs.Classes.WebClassLemmas.{IsWebForm, url_host_form}

-- a location of the class has the text of a URL
pub web_text : (v : Location) → IsWeb v → AgreesOverWeb v → text v ≡ Ok (canonical_text v)
web_text v web a = grind arith

-- a scheme of one line, in lower case
pub record IsWebScheme (scheme : List ℕ) : Type 0 where
  pub text : is_scheme_text scheme ≡ true
  pub lower : IsLowercase scheme
  pub nonempty : 0 < length scheme
  pub line : IsOneLine scheme

-- each of HTTP is one
pub web_scheme : (v : Location) → IsWeb v → IsWebScheme (scheme_text v.scheme)
web_scheme v h = grind arith

-- the authority is the user information, and host and port as they are
pub record IsWebAuthority (v : Location) (host : List ℕ) : Type 0 where
  pub form : IsWebForm host
  pub written : authority_text v ≡ user_information v.user v.password ++ (host ++ port_part v.port)
  pub no_at : FreeOf at_sign (host ++ port_part v.port)
  pub before_path : Lacks (is_path_start true) (authority_text v)

-- that of the class is
pub web_authority : (v : Location) (host : List ℕ) → IsWeb v → IsValue v → AgreesOverWeb v → v.host ≡ Some host → IsWebAuthority v host
web_authority v host web is a there =
    let w = settled_as_web v web a.settled in
    let (g, given, kind) = w.host in
    let (o, own, unambiguous) = a.host in
    let settled = subst (λ x. IsWebHost v.port x) (same_Some g host (sym given ∙ there)) kind in
    let writes = web_host_written v host web settled w.port is.port in
    let same = ap (λ x. x ++ port_part v.port) (web_host_same v host web settled w.port is.port) in record {
      form = url_host_form host (subst (λ x. IsUnambiguousHost x) (same_Some o host (sym own ∙ there)) unambiguous);
      written = ap (λ o. user_information v.user v.password ++ (host_part v o ++ port_part v.port)) there ∙ ap (λ x. user_information v.user v.password ++ x) same;
      no_at = subst (λ x. FreeOf at_sign x) same writes.no_at;
      before_path = (authority_with_host http_hosts v host host w.common is there writes).1.before_path;
    }
