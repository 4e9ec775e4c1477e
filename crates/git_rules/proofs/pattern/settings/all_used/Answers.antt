-- Each entry with its rank, and the first that is refused.
use Rattle.std.proofs.Common.{◌≡◌, ℕ, arith, length, option_copied, codes, subst}
use Rattle.std.proofs.lemmas.List.Elements.{All-more}
use Rattle.std.proofs.lemmas.Result.{err_from_is_err_and}
use Rattle.git_rules.specs.PatternEntries.{BufferSuffices}
use Rattle.git_rules.proofs.Settled.AnswerLemmas.{first_refused, first_unfit, further, refused_at}
use Rattle.git_rules.proofs.pattern.settings.all_used.Goals as goal

pub returns-in_default-clause-first : goal.returns-in_default-clause-first
returns-in_default-clause-first c =
    let place = option_copied c.args.place in
    let size : length c.loop-i.buffer ≡ length c.args.buffer.now = omega (arith, c.loop-i.auto.buffer) in
    let short = subst (λ n. ¬ BufferSuffices (codes "http") c.args.name.now place n c.index-entries-i.result) size c.in_default.ensures.rank.1 in
    first_unfit c.args.name.now place (length c.args.buffer.now) c.args.entries.now c.loop-i.i c.index-entries-i.result c.loop-i.best c.loop-i.found.items c.loop-i-test.true c.index-entries-i.is c.loop-i.invariant.listed c.loop-i.invariant.enough short

pub returns-in_err-add_best-clause-refused : goal.returns-in_err-add_best-clause-refused
returns-in_err-add_best-clause-refused c =
    let reported = err_from_is_err_and c.from_residual.result c.from_residual.ensures.1 in
    rw (reported.1, reported.2) (refused_at c.args.name.now (option_copied c.args.place) (length c.args.buffer.now) c.args.entries.now c.loop-i.i c.index-entries-i.result c.loop-i.best c.better-best.result c.in-Ok.rank c.loop-i.found.items c.add_best.new.found.items _ c.requires c.loop-i-test.true c.index-entries-i.is c.loop-i.invariant.listed c.in-Ok.ensures.rank c.better-best.ensures c.in_err-add_best.ensures)

pub returns-in_err-add_best-clause-first : goal.returns-in_err-add_best-clause-first
returns-in_err-add_best-clause-first c =
    let place = option_copied c.args.place in
    let size : length c.loop-i.buffer ≡ length c.args.buffer.now = omega (arith, c.loop-i.auto.buffer) in
    let fits = subst (λ n. BufferSuffices (codes "http") c.args.name.now place n c.index-entries-i.result) size c.in-Ok.ensures.buffer in
    let reported = err_from_is_err_and c.from_residual.result c.from_residual.ensures.1 in
    rw (reported.1, reported.2) (first_refused c.args.name.now place (length c.args.buffer.now) c.args.entries.now c.loop-i.i c.index-entries-i.result c.loop-i.best c.better-best.result c.in-Ok.rank c.loop-i.found.items c.add_best.new.found.items _ c.requires c.loop-i-test.true c.index-entries-i.is c.loop-i.invariant.listed c.loop-i.invariant.enough fits c.in-Ok.ensures.rank c.better-best.ensures c.in_err-add_best.ensures)

pub loop-i-preserved : goal.loop-i-preserved
loop-i-preserved c =
    let FitsIn = λ (n : ℕ). BufferSuffices (codes "http") c.args.name.now (option_copied c.args.place) n in
    let Fits = FitsIn (length c.args.buffer.now) in
    let size : length c.loop-i.buffer ≡ length c.args.buffer.now = omega (arith, c.loop-i.auto.buffer) in
    record {
      listed = further c.args.name.now (option_copied c.args.place) c.args.entries.now c.loop-i.i c.index-entries-i.result c.loop-i.best c.better-best.result c.in-Ok.rank c.loop-i.found.items c.add_best.new.found.items _ c.loop-i-test.true c.index-entries-i.is c.loop-i.invariant.listed c.in-Ok.ensures.rank c.better-best.ensures c.in_ok-add_best.ensures;
      enough = All-more Fits c.args.entries.now c.loop-i.i c.index-entries-i.result c.loop-i-test.true c.loop-i.invariant.enough (subst Fits c.index-entries-i.is (subst (λ n. FitsIn n c.index-entries-i.result) size c.in-Ok.ensures.buffer));
    }
