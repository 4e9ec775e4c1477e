-- A text that is rewritten by the rules is rewritten by those of the entries.
use Rattle.std.proofs.Common.{subst}
use mathlib.Core.Logic.{inr}
use Rattle.git_rules.specs.Rewrites.{IsRewritten}
use Rattle.c_values.proofs.CallLemmas.{unless_memory}
use Rattle.c_values.proofs.rules.rewriting.fetch.Goals as goal

pub returns-in-Ok-clause-reported : goal.returns-in-Ok-clause-reported
returns-in-Ok-clause-reported c =
    let filled = c.in-Ok.ensures in
    let outcome = c.rewrite_fetch.result in
    let rewritten = subst (λ rules. IsRewritten rules.fetching c.args.text.now outcome) filled.1 c.rewrite_fetch.ensures in
    unless_memory c.write_outcome.result (λ put. inr (filled.0, (outcome, rewritten, c.no_stop.ensures, put)))
    c.write_outcome.ensures.reported
