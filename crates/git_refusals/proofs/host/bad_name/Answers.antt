-- In HTTP characters are tested, and elsewhere the text is decoded.
use Rattle.std.proofs.Common.{refl, ap}
use Rattle.git_syntax.specs.Internal.HostPieces.{host_syntax}
use Rattle.git_refusals.proofs.Refusing.HostLemmas.{lax_syntax, lax_text, no_web_host, web_host}
use Rattle.git_refusals.proofs.host.bad_name.Goals as goal

pub returns-in_err-at-in-Http : goal.returns-in_err-at-in-Http
returns-in_err-at-in-Http c =
    let none = rw c.as_text.ensures at c.in_err-at-in-Http.ensures.found in
    rw c.from_residual.ensures (record { found = web_host (host_syntax c.args.syntax) c.args.text.now (ap host_syntax c.in-Http.is) c.requires none; within = tt })

pub returns-in_ok-at-in-Http : goal.returns-in_ok-at-in-Http
returns-in_ok-at-in-Http c =
    let stands = rw c.as_text.ensures at c.in_ok-at-in-Http.ensures.found in
    let within = rw c.as_text.ensures at c.in_ok-at-in-Http.ensures.within in
    record { found = no_web_host (host_syntax c.args.syntax) c.args.text.now _ (ap host_syntax c.in-Http.is) (record { named = refl; stands = stands }); within = within }

pub returns-in-Git : goal.returns-in-Git
returns-in-Git c = lax_text (host_syntax c.args.syntax) c.args.text.now c.undecodable.result (lax_syntax c.args.syntax c.in-Git.is) c.undecodable.ensures
