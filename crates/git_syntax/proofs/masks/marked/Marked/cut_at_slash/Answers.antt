-- The bytes before the first slash, or all if there is none.
use Rattle.memchr.specs.Find.{is_byte}
use Rattle.git_syntax.specs.Bytes.{slash}
use Rattle.git_syntax.proofs.Texts.CutLemmas.{first_found, none_found}
use Rattle.git_syntax.proofs.masks.marked.Marked.cut_at_slash.Goals as goal

pub returns-in-Some-clause-front : goal.returns-in-Some-clause-front
returns-in-Some-clause-front c =
    let text = c.args.self.now.text.now in
    let found = first_found slash text c.in-Some.at (c.in-Some.ensures (is_byte slash) text c.requires.short c.requires.slash) in
    rw c.front.ensures.text found.0

pub returns-in-None-clause-front : goal.returns-in-None-clause-front
returns-in-None-clause-front c = none_found slash c.args.self.now.text.now (c.in-None.ensures (is_byte slash) c.args.self.now.text.now c.requires.short c.requires.slash)
