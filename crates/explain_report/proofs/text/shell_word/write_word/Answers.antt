use Rattle.std.proofs.Common.{[], ◌∷◌, refl}
use Rattle.explain_report.proofs.Printed.{adds_end, adds_one, adds_then, printed_ascii}
use Rattle.explain_report.proofs.text.shell_word.write_word.Goals as goal

pub loop-from-init : goal.loop-from-init
loop-from-init g c = adds_one g.W.Write.write_str_gives c.args.out.now c.write_str.new.self _ (c.in_ok-write_str.ensures.ok refl) c.opening.ensures

pub loop-from-preserved : goal.loop-from-preserved
loop-from-preserved g c =
    adds_then g.W.Write.write_str_gives c.args.out.now c.loop-from.out c.write_in_word.new.out c.loop-from.invariant c.in_ok-write_in_word.ensures

pub returns : goal.returns
returns g c = adds_end g.W.Write.write_str_gives c.args.out.now c.loop-from.out c.write_str-2.new.self (39 ∷ []) c.write_str-2.result c.loop-from.invariant (printed_ascii (39 ∷ []) refl) c.write_str-2.ensures.ok
