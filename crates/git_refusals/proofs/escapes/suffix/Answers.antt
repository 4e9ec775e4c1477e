-- One more byte of the decoding is left.
use Rattle.std.proofs.Common.{ap, drop, ◌∙◌}
use Rattle.std.proofs.lemmas.List.{take_rest}
use Rattle.git_refusals.proofs.Refusing.EscapeLemmas.{unit_more}
use Rattle.git_refusals.proofs.escapes.suffix.Goals as goal

pub loop-turn-preserved : goal.loop-turn-preserved
loop-turn-preserved c =
    let rest = c.loop-turn.rest.now in
    unit_more c.args.text.now rest _ c.loop-turn._turn c.loop-turn.invariant (take_rest rest c.unit_len.result ∙ ap (λ k. drop k rest) c.unit_len.ensures)
