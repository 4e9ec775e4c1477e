-- The pieces filled the buffer, from its front on.
use Rattle.std.proofs.Common.{[], refl, rules}
use Rattle.git_location.proofs.writer.fill.fill.Goals as goal

pub returns : goal.returns
returns c = λ fits.
    let same = c.in-Ok.ensures.0 in
    let filled = (c.in-Ok.ensures.1 [] c.args.buffer.now refl refl fits).0 in
    search (rules, same, filled)
