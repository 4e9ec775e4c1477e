-- The bits before the place.
use Rattle.std.proofs.Common.{◌-◌, ◌%◌, ◌*◌, ◌^◌, bit_and, ap, ◌∙◌, arith}
use Rattle.git_syntax.proofs.ByMasks.JoinLemmas.{front_bits}
use Rattle.git_syntax.proofs.masks.bits.front.Goals as goal

pub returns-then-place-lt64 : goal.returns-then-place-lt64
returns-then-place-lt64 c test text short is =
    ap (λ m. bit_and m (1 * 2 ^ c.args.place % 2 ^ 64 - 1)) is ∙ front_bits 64 test text c.args.place (omega arith)
