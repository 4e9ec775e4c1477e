-- All bits.
use Rattle.std.proofs.Common.{◌≡◌, ◌-◌, ◌≤◌, ◌^◌, length, sym, ap, ◌∙◌, arith}
use Rattle.std.proofs.lemmas.Bool.{eqb-true, eq-eqb}
use Rattle.git_syntax.proofs.ByMasks.BitLemmas.{full_all, all_full}
use Rattle.git_syntax.proofs.masks.bits.all.Goals as goal

pub returns : goal.returns
returns c test text size short is =
    let within : c.args.count ≤ 64 = omega (arith, size, short) in
    let full : c.ones.result ≡ 2 ^ length text - 1 = c.ones.ensures within ∙ ap (λ n. 2 ^ n - 1) size in (
      λ h. full_all test text (sym is ∙ eqb-true c.args.mask c.ones.result h ∙ full),
      λ h. eq-eqb c.args.mask c.ones.result (is ∙ all_full test text h ∙ sym full),
    )
