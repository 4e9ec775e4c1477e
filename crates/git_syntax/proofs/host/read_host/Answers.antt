-- A piece with a flaw names nothing.
use Rattle.std.proofs.lemmas.Result.{err_from_is_err_and}
use Rattle.git_syntax.specs.Internal.HostPieces.{named_text, host_syntax}
use Rattle.git_syntax.proofs.Parsing.HostLemmas.{flawed_unnamed, names_utf8, simple_host_named}
use Rattle.git_syntax.proofs.host.read_host.Goals as goal

pub returns-in_err-named-clause-unnamed : goal.returns-in_err-named-clause-unnamed
returns-in_err-named-clause-unnamed c =
    let p = err_from_is_err_and c.from_residual.result c.from_residual.ensures.1 in
    rw p.1 (flawed_unnamed (host_syntax c.args.syntax) c.args.piece.now c.in_err-named.field-0.0 c.in_err-named.ensures)

pub returns-clause-text : goal.returns-clause-text
returns-clause-text c = names_utf8 (host_syntax c.args.syntax) c.args.piece.now (named_text c.in_ok-named.named) c.in_ok-named.named.port c.in_ok-named.ensures

pub returns-in-Some-clause-named : goal.returns-in-Some-clause-named
returns-in-Some-clause-named c = simple_host_named (host_syntax c.args.syntax) c.args.piece.now c.in-Some.named c.in-Some.ensures.simple c.in-Some.ensures.host c.in-Some.ensures.port

pub returns-in-Some-clause-text : goal.returns-in-Some-clause-text
returns-in-Some-clause-text c =
    names_utf8 (host_syntax c.args.syntax) c.args.piece.now (named_text c.in-Some.named) c.in-Some.named.port
    (simple_host_named (host_syntax c.args.syntax) c.args.piece.now c.in-Some.named c.in-Some.ensures.simple c.in-Some.ensures.host c.in-Some.ensures.port)
