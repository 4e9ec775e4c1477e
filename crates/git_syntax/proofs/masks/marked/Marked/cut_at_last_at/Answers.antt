-- The pieces around the place of the last byte.
use Rattle.memchr.specs.Find.{is_byte}
use Rattle.git_syntax.specs.Bytes.{at_sign}
use Rattle.git_syntax.proofs.Texts.CutLemmas.{last_found, none_last}
use Rattle.git_syntax.proofs.masks.marked.Marked.cut_at_last_at.Goals as goal

pub returns-in_err-at-clause-cut : goal.returns-in_err-at-clause-cut
returns-in_err-at-clause-cut c =
    let text = c.args.self.now.text.now in
    rw c.from_residual.ensures (none_last at_sign text (c.in_err-at.ensures (is_byte at_sign) text c.requires.short c.requires.at))

pub returns-clause-cut : goal.returns-clause-cut
returns-clause-cut c =
    let text = c.args.self.now.text.now in
    let found = last_found at_sign text c.in_ok-at.at (c.in_ok-at.ensures (is_byte at_sign) text c.requires.short c.requires.at) in
    rw (c.front.ensures.text, c.rest.ensures.text) found
