-- The parts are put one after the other.
use Rattle.std.proofs.Common.{[], refl, rules, append_assoc}
use Rattle.c_values.proofs.BufferLemmas.{BeginsWith, write_after}
use Rattle.c_values.proofs.rules.submodules.write_parts.Goals as goal

pub returns : goal.returns
returns c =
    let begun : BeginsWith [] c.args.buffer.now c.args.buffer.now 0 = record { here = refl; begins = refl } in
    let front = write_after [] _ c.args.buffer.now _ _ _ _ begun c.write_at-at.ensures.end c.write_at-at.ensures.put in
    let separator = write_after _ _ _ _ _ _ _ front c.write_at-at-2.ensures.end c.write_at-at-2.ensures.put in
    let all = (write_after _ _ _ _ _ _ _ separator c.write_at.ensures.end c.write_at.ensures.put).begins in
    search (rules, all, append_assoc, c.resolved.view_is)
