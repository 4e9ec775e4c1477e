-- The whole piece is the host, or denotes none.
use Rattle.std.proofs.Common.{[], ap, inl, refl, sym, Some}
use Rattle.std.proofs.lemmas.List.{append-nil}
use Rattle.git_syntax.specs.Flaws.{HasBadHost}
use Rattle.git_syntax.specs.Hosts.{SpellsHostPort}
use Rattle.git_syntax.specs.Internal.HostPieces.{denoted_host}
use Rattle.git_syntax.proofs.host.read_plain.Goals as goal

pub returns-in-Some : goal.returns-in-Some
returns-in-Some c = SpellsHostPort.plain (denoted_host c.in-Some.host) c.requires c.in-Some.ensures (ap Some c.alone.ensures.host) c.alone.ensures.port

pub returns-in-None : goal.returns-in-None
returns-in-None c = HasBadHost.plain c.args.piece.now [] c.requires (inl refl) (sym (append-nil c.args.piece.now)) c.in-None.ensures
