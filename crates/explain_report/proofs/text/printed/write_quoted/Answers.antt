use Rattle.std.proofs.Common.{[], ◌∷◌, refl}
use Rattle.explain_report.proofs.Printed.{adds_end, adds_one, adds_then, printed_ascii}
use Rattle.explain_report.proofs.text.printed.write_quoted.Goals as goal

pub loop-from-init : goal.loop-from-init
loop-from-init g c = adds_one g.W.Write.write_str_gives c.args.out.now c.write_str.new.self (34 ∷ []) (c.in_ok-write_str.ensures.ok refl) (printed_ascii (34 ∷ []) refl)

pub loop-from-preserved : goal.loop-from-preserved
loop-from-preserved g c =
    adds_then g.W.Write.write_str_gives c.args.out.now c.loop-from.out c.write_in_quotes.new.out c.loop-from.invariant c.in_ok-write_in_quotes.ensures

pub returns : goal.returns
returns g c = adds_end g.W.Write.write_str_gives c.args.out.now c.loop-from.out c.write_str-2.new.self (34 ∷ []) c.write_str-2.result c.loop-from.invariant (printed_ascii (34 ∷ []) refl) c.write_str-2.ensures.ok
