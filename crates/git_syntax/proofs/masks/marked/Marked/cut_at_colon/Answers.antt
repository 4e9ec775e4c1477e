-- The pieces around the place of the first byte.
use Rattle.memchr.specs.Find.{is_byte}
use Rattle.git_syntax.specs.Bytes.{colon}
use Rattle.git_syntax.proofs.Texts.CutLemmas.{first_found, none_found}
use Rattle.git_syntax.proofs.masks.marked.Marked.cut_at_colon.Goals as goal

pub returns-in_err-at-clause-cut : goal.returns-in_err-at-clause-cut
returns-in_err-at-clause-cut c =
    let text = c.args.self.now.text.now in
    rw c.from_residual.ensures (none_found colon text (c.in_err-at.ensures (is_byte colon) text c.requires.short c.requires.colon))

pub returns-clause-cut : goal.returns-clause-cut
returns-clause-cut c =
    let text = c.args.self.now.text.now in
    let found = first_found colon text c.in_ok-at.at (c.in_ok-at.ensures (is_byte colon) text c.requires.short c.requires.colon) in
    rw (c.front.ensures.text, c.rest.ensures.text) found
