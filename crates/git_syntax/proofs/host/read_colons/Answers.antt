-- The whole piece is the host.
use Rattle.std.proofs.Common.{ap, Some}
use Rattle.std.proofs.lemmas.Bool.{false≢true}
use Rattle.git_syntax.specs.Hosts.{SpellsHostPort}
use Rattle.git_syntax.specs.Internal.HostPieces.{denoted_host}
use Rattle.git_syntax.proofs.host.read_colons.Goals as goal

pub returns-in-Some : goal.returns-in-Some
returns-in-Some c =
    SpellsHostPort.colons (denoted_host c.in-Some.host) (λ h. false≢true (c.if-is_http_syntax.ensures.1 h)) (λ h. false≢true (c.if-reads_address.ensures.1 h))
    c.requires.no_bracket c.requires.colons c.in-Some.ensures (ap Some c.alone-in-Some.ensures.host) c.alone-in-Some.ensures.port
