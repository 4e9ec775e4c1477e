-- Each entry with its rank, and at the end the best of all.
use Rattle.std.proofs.Common.{◌≡◌, ℕ, arith, length, subst, None, option_copied}
use Rattle.std.proofs.lemmas.List.Elements.{All-more}
use Rattle.std.proofs.lemmas.Result.{err_from_is_err_and}
use Rattle.git_rules.specs.Patterns.{HasRank}
use Rattle.git_rules.specs.PatternEntries.{BufferSuffices, RanksEntry}
use Rattle.git_rules.proofs.Matched.EntryLemmas.{all_of, first_short}
use Rattle.git_rules.proofs.Matched.RankLemmas.{next, finished}
use Rattle.git_rules.proofs.pattern.entries.best_in.Goals as goal

pub loop-i-preserved : goal.loop-i-preserved
loop-i-preserved c =
    let Ranks = RanksEntry c.args.section.now c.args.name.now (option_copied c.args.place) in
    let FitsIn = λ (n : ℕ). BufferSuffices c.args.section.now c.args.name.now (option_copied c.args.place) n in
    let Fits = FitsIn (length c.args.buffer.now) in
    let size : length c.loop-i.buffer ≡ length c.args.buffer.now = omega (arith, c.loop-i.auto.buffer) in
    record {
      best = next Ranks c.args.entries.now c.loop-i.i c.index-entries-i.result c.loop-i.best c.better-best.result c.in_ok-rank.rank c.loop-i-test.true c.loop-i.invariant.best (subst (λ t. HasRank Ranks t c.in_ok-rank.rank) c.index-entries-i.is c.in_ok-rank.ensures.rank) c.better-best.ensures;
      enough = All-more Fits c.args.entries.now c.loop-i.i c.index-entries-i.result c.loop-i-test.true c.loop-i.invariant.enough (subst Fits c.index-entries-i.is (subst (λ n. FitsIn n c.index-entries-i.result) size c.in_ok-rank.ensures.buffer));
    }

pub returns-in_err-rank-clause-first : goal.returns-in_err-rank-clause-first
returns-in_err-rank-clause-first c =
    let (e, is, same) = err_from_is_err_and c.from_residual.result c.from_residual.ensures.1 in
    let place = option_copied c.args.place in
    let size : length c.loop-i.buffer ≡ length c.args.buffer.now = omega (arith, c.loop-i.auto.buffer) in
    let short = subst (λ n. ¬ BufferSuffices c.args.section.now c.args.name.now place n c.index-entries-i.result) size c.in_err-rank.ensures.rank.1 in
    rw is (first_short c.args.section.now c.args.name.now place (length c.args.buffer.now) c.args.entries.now c.loop-i.i c.index-entries-i.result c.loop-i-test.true c.index-entries-i.is c.loop-i.invariant.enough short)

pub returns-in-None-clause-best : goal.returns-in-None-clause-best
returns-in-None-clause-best c =
    finished (RanksEntry c.args.section.now c.args.name.now (option_copied c.args.place)) c.args.entries.now _ _ None (omega arith) c.in-None.is c.loop-i.invariant.best

pub returns-in-None-clause-buffer : goal.returns-in-None-clause-buffer
returns-in-None-clause-buffer c =
    all_of (BufferSuffices c.args.section.now c.args.name.now (option_copied c.args.place) (length c.args.buffer.now)) c.args.entries.now _ (omega arith) c.loop-i.invariant.enough

pub returns-in-Some-clause-buffer : goal.returns-in-Some-clause-buffer
returns-in-Some-clause-buffer c =
    all_of (BufferSuffices c.args.section.now c.args.name.now (option_copied c.args.place) (length c.args.buffer.now)) c.args.entries.now _ (omega arith) c.loop-i.invariant.enough
