-- The front of the text is the mark, or no text after the mark makes it up.
use Rattle.std.proofs.lemmas.Bool.Decides.{Decides-eqb}
use Rattle.std.proofs.lemmas.Slice.Eq.{starts_is}
use Rattle.git_reads.proofs.transport.begins_by.Goals as goal

pub returns : goal.returns
returns c =
    let is = starts_is Decides-eqb c.args.text.now c.args.mark.now c.starts_with.result c.starts_with.ensures.value in
    (λ begins. (_, is.0 begins), λ (rest, whole). is.1 rest whole)
