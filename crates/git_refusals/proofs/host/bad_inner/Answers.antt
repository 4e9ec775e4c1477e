-- A literal denotes another in each syntax.
use Rattle.std.proofs.Common.{refl, ap, arith}
use Rattle.std.proofs.lemmas.Bool.{false≢true}
use Rattle.git_syntax.specs.Internal.HostPieces.{host_syntax, shown_literal}
use Rattle.git_syntax.proofs.Parsing.HostLemmas.{literal_inner}
use Rattle.git_refusals.proofs.Refusing.HostLemmas.{lax_inner, lax_syntax, web_inner}
use Rattle.git_refusals.proofs.host.bad_inner.Goals as goal

pub returns-then-is_literal : goal.returns-then-is_literal
returns-then-is_literal c = record {
  found = (shown_literal (host_syntax c.args.syntax) c.args.text.now, literal_inner (host_syntax c.args.syntax) c.args.text.now (c.if-is_literal.ensures.0 refl));
  within = tt;
}

pub returns-in-Http : goal.returns-in-Http
returns-in-Http c = record {
  found = web_inner (host_syntax c.args.syntax) c.args.text.now _ (ap host_syntax c.in-Http.is) (λ h. false≢true (c.if-is_literal.ensures.1 h)) (record { named = refl; start = refl; size = refl });
  within = omega arith;
}

pub returns-in-Git : goal.returns-in-Git
returns-in-Git c =
    lax_inner (host_syntax c.args.syntax) c.args.text.now c.undecodable.result (lax_syntax c.args.syntax c.in-Git.is) (λ h. false≢true (c.if-is_literal.ensures.1 h)) c.undecodable.ensures
