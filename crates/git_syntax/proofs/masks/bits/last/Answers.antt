-- No bit, or the highest.
use Rattle.std.proofs.Common.{◌≡◌, ◌-◌, ◌<◌, sym, ap, ◌∙◌, arith}
use Rattle.git_syntax.specs.Internal.Masks.{mask_of}
use Rattle.git_syntax.proofs.ByMasks.BitLemmas.{none_set, last_set}
use Rattle.git_syntax.proofs.masks.bits.last.Goals as goal
use lib.Count.{count_leading_zeros}
use mir.Syntax.{w64}

pub returns-then-mask-eq0 : goal.returns-then-mask-eq0
returns-then-mask-eq0 c test text short is =
    let none : c.args.mask ≡ 0 = omega arith in
    none_set test text (sym is ∙ none)

pub returns : goal.returns
returns c test text short is =
    let some : 0 < mask_of test text = omega (arith, is) in
    last_set w64 test text _ short some (ap (λ m. 63 - count_leading_zeros 64 m) is)
