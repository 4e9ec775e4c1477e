-- The bits from the place on.
use Rattle.std.proofs.Common.{◌/◌, ◌^◌, ap, sym, ◌∙◌}
use Rattle.git_syntax.proofs.ByMasks.JoinLemmas.{mask-drop}
use Rattle.git_syntax.proofs.masks.bits.rest.Goals as goal

pub returns-then-place-lt64 : goal.returns-then-place-lt64
returns-then-place-lt64 c test text short is = ap (λ m. m / 2 ^ c.args.place) is ∙ sym (mask-drop test c.args.place text)
