-- The parts are put one after the other.
use Rattle.std.proofs.Common.{[], refl, rules}
use Rattle.c_values.proofs.BufferLemmas.{BeginsWith, write_after}
use Rattle.c_values.proofs.output.write_parts.Goals as goal

pub returns : goal.returns
returns c =
    let begun : BeginsWith [] c.args.buffer.now c.args.buffer.now 0 = record { here = refl; begins = refl } in
    let name = write_after [] _ c.args.buffer.now _ _ _ _ begun c.write_at-at.ensures.end c.write_at-at.ensures.put in
    let user = write_after _ _ _ _ _ _ _ name c.write_at-at-2.ensures.end c.write_at-at-2.ensures.put in
    let password = write_after _ _ _ _ _ _ _ user c.write_at-at-3.ensures.end c.write_at-at-3.ensures.put in
    let host = write_after _ _ _ _ _ _ _ password c.write_at-at-4.ensures.end c.write_at-at-4.ensures.put in
    let path = write_after _ _ _ _ _ _ _ host c.write_at-at-5.ensures.end c.write_at-at-5.ensures.put in
    let all = (write_after _ _ _ _ _ _ _ path c.write_at.ensures.end c.write_at.ensures.put).begins in
    search (rules, all, c.url.view_is, c.name.ensures, c.text.ensures, c.text-2.ensures, c.text-3.ensures, c.part.ensures)
