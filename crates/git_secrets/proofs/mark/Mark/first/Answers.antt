-- By the bytes so far.
use Rattle.std.proofs.Common.{◌∙◌, ap, arith, sym}
use Rattle.git_secrets.specs.Secrets.{begins_as}
use Rattle.git_secrets.proofs.Cuts.MarkLemmas.{passed_all, passed_here, passed_more, passed_none}
use Rattle.git_secrets.proofs.mark.Mark.first.Goals as goal

pub loop-at-init : goal.loop-at-init
loop-at-init c = passed_none c.args.self c.args.text.now

pub returns-then-begins-clause-place : goal.returns-then-begins-clause-place
returns-then-begins-clause-place c =
    passed_here c.args.self c.args.text.now c.loop-at.at c.loop-at-test.true (ap (begins_as c.args.self) (sym c.split_at.ensures.back) ∙ sym c.begins.ensures ∙ c.if-begins.true) c.loop-at.invariant

pub loop-at-preserved : goal.loop-at-preserved
loop-at-preserved c =
    passed_more c.args.self c.args.text.now c.loop-at.at c.loop-at-test.true (ap (begins_as c.args.self) (sym c.split_at.ensures.back) ∙ sym c.begins.ensures ∙ c.if-begins.false) c.loop-at.invariant

pub returns-clause-place : goal.returns-clause-place
returns-clause-place c = passed_all c.args.self c.args.text.now c.loop-at.at (omega (arith, c.loop-at-test.false)) c.loop-at.invariant
