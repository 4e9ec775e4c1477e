use Rattle.std.proofs.Common.{◌≡◌, ◌*◌, ◌∙◌, ap, sym, arith}
use Rattle.git_rules.proofs.Numbers.DigitLemmas.{fitting-front}
use Rattle.git_rules.proofs.number.read_digits.Goals as goal

pub returns-then-more-from : goal.returns-then-more-from
returns-then-more-from c =
    let a = c.args in
    let l = c.loop-byte in
    let from = c.from-in-loop-byte in
    let product : c.from.result * from.result ≡ l.value * a.radix = ap (λ x. x * from.result) c.from.ensures ∙ ap (λ y. l.value * y) from.ensures in
    sym (fitting-front a.greatest a.radix l.value l.byte-index a.digits.now (omega arith) (omega arith) l.invariant.1 (omega (arith, product)))
