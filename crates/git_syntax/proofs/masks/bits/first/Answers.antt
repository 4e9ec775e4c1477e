-- No bit, or the lowest.
use Rattle.std.proofs.Common.{◌≡◌, ◌<◌, Some, sym, subst, ◌∙◌, arith}
use Rattle.memchr.specs.Find.{IsFirstByte}
use Rattle.git_syntax.specs.Internal.Masks.{mask_of}
use Rattle.git_syntax.proofs.ByMasks.BitLemmas.{none_set, first_set}
use Rattle.git_syntax.proofs.masks.bits.first.Goals as goal
use lib.Count.{count_trailing_zeros}
use mir.Syntax.{w64}

pub returns-then-mask-eq0 : goal.returns-then-mask-eq0
returns-then-mask-eq0 c test text short is =
    let none : c.args.mask ≡ 0 = omega arith in
    none_set test text (sym is ∙ none)

pub returns : goal.returns
returns c test text short is =
    let some : 0 < mask_of test text = omega (arith, is) in
    subst (λ m. IsFirstByte test text (Some (count_trailing_zeros 64 m))) (sym is) (first_set w64 test text short some)
