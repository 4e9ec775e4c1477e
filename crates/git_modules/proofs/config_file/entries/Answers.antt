-- The text that is read grows by one item; at the end the entries are those of the text.
use Rattle.std.proofs.Common.{ap, ◌+◌, ◌∙◌, ℕ, arith}
use Rattle.git_modules.proofs.ConfigFile.PlaceLemmas.{left_some, left_none}
use Rattle.git_modules.proofs.ConfigFile.ProgressLemmas.{begins, goes_on, all_read}
use Rattle.git_modules.proofs.config_file.entries.Goals as goal

pub loop-at-init : goal.loop-at-init
loop-at-init c = record {
  read = begins c.args.text.now c.in_ok-at.at (1 + c.lines_between-before.result) c.owner_of-owner.result c.new-found.result.items c.in_ok-at.ensures.1 c.owner_of-owner.ensures c.lines_between-before.ensures c.in_ok-at.ensures.0 c.new-found.ensures.items;
  left = omega arith;
  whole = omega arith;
}

pub loop-at-preserved : goal.loop-at-preserved
loop-at-preserved c =
    let is = c.loop-at.invariant.read in
    let counted = ap (λ (k : ℕ). k + c.lines_between-line.result) is.7 ∙ c.lines_between-line.ensures in
    record {
      read = goes_on c.args.text.now c.loop-at.at c.loop-at.line c.in_ok-step.next (c.loop-at.line + c.lines_between-line.result) c.in_ok-step.step c.loop-at.owner c.in_ok-owner.owner c.loop-at.found.items c.keep.new.found.items is (left_some c.args.text.now c.loop-at.at c.loop-at-test.true) c.in_ok-step.ensures.item c.in_ok-owner.ensures counted c.in_ok-step.ensures.within;
      left = c.in_ok-step.ensures.left;
      whole = c.loop-at.invariant.whole;
    }

pub returns-clause-entries : goal.returns-clause-entries
returns-clause-entries c = all_read c.args.text.now c.loop-at.at c.loop-at.line c.loop-at.owner c.loop-at.found.items c.loop-at.invariant.read (left_none c.args.text.now c.loop-at.at c.loop-at-test.false)
