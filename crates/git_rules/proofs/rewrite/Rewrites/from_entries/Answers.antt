use Rattle.std.proofs.lemmas.Result.{err_from_is_err_and}
use Rattle.git_rules.proofs.Rules.EntryLemmas.{filled_more, filled_to}
use Rattle.git_rules.proofs.rewrite.Rewrites.from_entries.Goals as goal

pub loop-entry-preserved : goal.loop-entry-preserved
loop-entry-preserved c =
    filled_more c.args.entries.now c.loop-entry.entry-index c.entry-item.result c.loop-entry.rules c.add_entry.new.self c.loop-entry-test.true c.entry-item.is c.loop-entry.invariant c.in_ok-add_entry.ensures

pub returns-in_err-add_entry : goal.returns-in_err-add_entry
returns-in_err-add_entry c =
    let reported = err_from_is_err_and c.from_residual.result c.from_residual.ensures.1 in
    rw (reported.1, reported.2) (filled_to c.args.entries.now c.loop-entry.entry-index c.entry-item.result c.loop-entry.rules c.add_entry.new.self _ c.loop-entry-test.true c.entry-item.is c.loop-entry.invariant c.in_err-add_entry.ensures)
