-- The first error is that of the buffer, or memory is refused for the index of the best entry.
use Rattle.std.proofs.Common.{length, option_copied, subst}
use Rattle.std.proofs.lemmas.Result.{err_from_is_err_and}
use Rattle.git_rules.specs.Patterns.{IsBest}
use Rattle.git_rules.specs.Settings.{RanksSetting}
use Rattle.git_rules.proofs.Settled.AnswerLemmas.{first_of_memory, first_of_buffer}
use Rattle.git_rules.proofs.pattern.settings.best_alone.Goals as goal

pub returns-in-Err-clause-first : goal.returns-in-Err-clause-first
returns-in-Err-clause-first c = first_of_buffer c.args.name.now (option_copied c.args.place) (length c.args.buffer.now) c.args.entries.now c.requires c.in-Err.ensures.first

pub returns-in_err-push-in-Ok-Some-clause-first : goal.returns-in_err-push-in-Ok-Some-clause-first
returns-in_err-push-in-Ok-Some-clause-first c =
    let (e, is, memory) = err_from_is_err_and c.from_residual.result c.from_residual.ensures.1 in
    let place = option_copied c.args.place in
    let best = subst (IsBest (RanksSetting c.args.name.now place) c.args.entries.now) c.in-Ok-Some.field-0-is c.in-Ok-Some.ensures.best in
    rw (is, memory) (first_of_memory c.args.name.now place (length c.args.buffer.now) c.args.entries.now c.in-Ok-Some.best c.requires c.in-Ok-Some.ensures.buffer best)
