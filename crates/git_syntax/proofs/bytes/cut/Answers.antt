-- The pieces around the place of the byte that was found.
use Rattle.git_syntax.proofs.Texts.CutLemmas.{first_found, none_found}
use Rattle.git_syntax.proofs.bytes.cut.Goals as goal

pub returns-in_err-at : goal.returns-in_err-at
returns-in_err-at c = rw c.from_residual.ensures (none_found c.args.c c.args.bytes.now c.in_err-at.ensures)

pub returns : goal.returns
returns c =
    let found = first_found c.args.c c.args.bytes.now c.in_ok-at.at c.in_ok-at.ensures in
    rw (c.split_at.ensures.front, c.split_at-2.ensures.back) found
