-- By the bytes so far.
use Rattle.std.proofs.Common.{◌∙◌, arith, sym}
use Rattle.git_secrets.proofs.Cuts.ClassLemmas.{passed_all, passed_here, passed_more, passed_none}
use Rattle.git_secrets.proofs.mark.Class.first.Goals as goal

pub loop-at-init : goal.loop-at-init
loop-at-init c = passed_none c.args.self c.args.text.now

pub returns-then-has-clause-place : goal.returns-then-has-clause-place
returns-then-has-clause-place c =
    passed_here c.args.self c.args.text.now c.loop-at.at c.loop-at-test.true (sym c.has.ensures ∙ c.if-has.true) c.loop-at.invariant

pub loop-at-preserved : goal.loop-at-preserved
loop-at-preserved c =
    passed_more c.args.self c.args.text.now c.loop-at.at c.loop-at-test.true (sym c.has.ensures ∙ c.if-has.false) c.loop-at.invariant

pub returns-clause-place : goal.returns-clause-place
returns-clause-place c = passed_all c.args.self c.args.text.now c.loop-at.at (omega (arith, c.loop-at-test.false)) c.loop-at.invariant
