-- A byte that begins no escape stays.
use Rattle.std.proofs.Common.{ap, arith, length}
use Rattle.git_reads.proofs.Texts.DecodeLemmas.{first_kept, one_more}
use Rattle.git_reads.proofs.decode.append_decoded.Goals as goal

pub loop-first-preserved : goal.loop-first-preserved
loop-first-preserved c =
    let step = first_kept c.loop-first.rest.now c.in-Some.tail.now _ c.in-None.ensures c.in-Some.ensures.cases.0 in
    record {
      whole = one_more c.loop-first.out.items c.push-in-None.new.self.items c.loop-first.rest.now c.in-Some.tail.now _ _ c.loop-first.invariant.whole step c.in_ok-push-in-None.ensures.items;
      within = omega (arith, ap length c.in-Some.ensures.cases.0, c.loop-first.invariant.within);
    }
