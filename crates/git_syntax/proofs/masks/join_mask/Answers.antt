-- A front of the text, and a block that may overlap it.
use Rattle.std.proofs.Common.{◌%◌, ◌*◌, ◌^◌, bit_or, ap₂, ◌∙◌}
use Rattle.git_syntax.proofs.ByMasks.JoinLemmas.{joined}
use Rattle.git_syntax.proofs.masks.join_mask.Goals as goal

pub returns : goal.returns
returns c test is-front is-block =
    let r = c.requires in
    ap₂ (λ a b. bit_or a (b * 2 ^ c.args.at % 2 ^ 64)) is-front is-block ∙ joined test c.args.text.now c.args.done c.args.at r.places.0 r.places.1 r.places.2 r.short
