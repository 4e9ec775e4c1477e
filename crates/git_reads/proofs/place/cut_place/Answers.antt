-- The first mark after the brackets, or none.
use Rattle.std.proofs.Common.{refl}
use Rattle.git_reads.proofs.Texts.PlaceLemmas.{cut_after, uncut}
use Rattle.git_reads.proofs.place.cut_place.Goals as goal

pub returns-in_err-between : goal.returns-in_err-between
returns-in_err-between c =
    rw c.from_residual.ensures (uncut c.args.mark c.args.text.now c.past_brackets.result.0.now c.past_brackets.result.1.now c.past_brackets.ensures.end c.in_err-between.ensures)

pub returns : goal.returns
returns c =
    cut_after c.args.mark c.args.text.now c.past_brackets.result.0.now c.past_brackets.result.1.now c.in_ok-between.between.now c.in_ok-between.field-0-1.now c.split_at.result.0.now c.split_at.result.1.now _ c.past_brackets.ensures.end c.past_brackets.ensures.joined c.in_ok-between.ensures.0 c.in_ok-between.ensures.1 refl c.split_at.ensures.front c.split_at.ensures.back
