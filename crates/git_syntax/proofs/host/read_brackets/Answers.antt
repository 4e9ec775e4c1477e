-- The text between brackets, and the text after it.
use Rattle.std.proofs.Common.{Some, refl}
use Rattle.std.proofs.lemmas.Bool.{false≢true}
use Rattle.git_syntax.specs.Internal.HostPieces.{named_text, denoted_host, host_syntax}
use Rattle.git_syntax.proofs.Parsing.HostLemmas.{bracketed_name, no_port_after, not_ended, not_inner}
use Rattle.git_syntax.proofs.host.read_brackets.Goals as goal

pub returns-then-not-ends_host : goal.returns-then-not-ends_host
returns-then-not-ends_host c =
    not_ended (host_syntax c.args.syntax) _ c.args.inner.now c.args.rest.now c.requires refl (λ h. false≢true (c.if-not-ends_host.ensures.1 h))

pub returns-in_default : goal.returns-in_default
returns-in_default c =
    not_inner (host_syntax c.args.syntax) _ c.args.inner.now c.args.rest.now c.requires refl (c.if-not-ends_host.ensures.0 refl) c.in_default.ensures

pub returns-in-Some-with_rest : goal.returns-in-Some-with_rest
returns-in-Some-with_rest c =
    bracketed_name (host_syntax c.args.syntax) _ c.args.inner.now c.args.rest.now (denoted_host c.in-Some.host) (Some (named_text c.in-Some-with_rest.named)) c.in-Some-with_rest.named.port
    c.requires refl c.in-Some.ensures c.in-Some-with_rest.ensures

pub returns-in-None : goal.returns-in-None
returns-in-None c =
    no_port_after (host_syntax c.args.syntax) _ c.args.inner.now c.args.rest.now c.in-None.ensures.0 c.requires refl c.in-None.ensures.2 c.in-None.ensures.1
