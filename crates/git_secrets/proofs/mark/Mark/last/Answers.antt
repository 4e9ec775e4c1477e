-- By the bytes so far.
use Rattle.std.proofs.Common.{◌∙◌, ap, arith, sym, ◌-◌}
use Rattle.git_secrets.specs.Secrets.{begins_as}
use Rattle.git_secrets.proofs.Cuts.MarkLemmas.{last_found, none_is_last, none_at_end, none_from}
use Rattle.git_secrets.proofs.mark.Mark.last.Goals as goal

pub loop-at-init : goal.loop-at-init
loop-at-init c = none_at_end c.args.self c.args.text.now

pub returns-then-begins-clause-place : goal.returns-then-begins-clause-place
returns-then-begins-clause-place c =
    last_found c.args.self c.args.text.now (c.loop-at.at - 1) c.loop-at.at (omega arith) (omega arith) (ap (begins_as c.args.self) (sym c.split_at.ensures.back) ∙ sym c.begins.ensures ∙ c.if-begins.true) c.loop-at.invariant

pub loop-at-preserved : goal.loop-at-preserved
loop-at-preserved c =
    none_from c.args.self c.args.text.now (c.loop-at.at - 1) c.loop-at.at (omega arith) (omega arith) (ap (begins_as c.args.self) (sym c.split_at.ensures.back) ∙ sym c.begins.ensures ∙ c.if-begins.false) c.loop-at.invariant

pub returns-clause-place : goal.returns-clause-place
returns-clause-place c = none_is_last c.args.self c.args.text.now c.loop-at.at (omega arith) c.loop-at.invariant
