-- The host that is there decides, beside the port.
use Rattle.std.proofs.Common.{◌↔◌, ◌∙◌, ap, sym, subst, Some, IsTrue, option_map}
use Rattle.git_syntax.specs.Location.{Location}
use Rattle.git_location.specs.Settled.{IsWebHost}
use Rattle.git_location.proofs.SettledClass.SettledLemmas.{host_tested}
use Rattle.git_location.proofs.settled.url.has_web_host.Goals as goal

pub returns-in-Some : goal.returns-in-Some
returns-in-Some c =
    let port = ap (λ (v : Location). v.port) c.url.view_is in
    let host = sym (ap (λ (v : Location). v.host) c.url.view_is) ∙ ap (option_map (λ t. t.now)) c.in-Some.is ∙ ap Some (sym c.as_bytes.ensures.value) in
    let test = subst (λ p. IsTrue c.is_web_host.result ↔ IsWebHost p c.as_bytes.result.now) port c.is_web_host.ensures in
    host_tested (IsWebHost c.args.url.now.port) c.args.url.now.host c.as_bytes.result.now c.is_web_host.result host test
