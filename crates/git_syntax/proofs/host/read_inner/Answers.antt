-- A literal is decoded except in HTTP.
use Rattle.std.proofs.Common.{refl}
use Rattle.git_syntax.specs.Internal.HostPieces.{shown_literal, host_syntax}
use Rattle.git_syntax.proofs.Parsing.HostLemmas.{literal_inner}
use Rattle.git_syntax.proofs.host.read_inner.Goals as goal

pub returns-then-is_literal : goal.returns-then-is_literal
returns-then-is_literal c =
    (shown_literal (host_syntax c.args.syntax) c.args.text.now, literal_inner (host_syntax c.args.syntax) c.args.text.now (c.if-is_literal.ensures.0 refl), c.literal.ensures)
