use Rattle.std.proofs.Common.{[], ◌∷◌, refl, rules}
use Rattle.explain_report.proofs.Printed.{adds_last, adds_one, adds_then, printed_ascii, printed_one}
use Rattle.explain_report.proofs.text.printed.write_byte.Goals as goal

pub returns : goal.returns
returns g c =
    let took = g.W.Write.write_str_gives in
    let mark = adds_one took c.args.out.now c.write_str.new.self (92 ∷ 120 ∷ []) (c.in_ok-write_str.ensures.ok refl) (printed_ascii (92 ∷ 120 ∷ []) refl) in
    let high = adds_one took c.write_str.new.self c.write_char.new.self _ c.in_ok-write_char.ensures.writes (printed_one c.digit.result c.digit.ensures) in
    adds_last took c.args.out.now c.write_char.new.self c.write_char-2.new.self _ c.write_char-2.result (adds_then took c.args.out.now c.write_str.new.self c.write_char.new.self mark high) (printed_one c.digit-2.result c.digit-2.ensures) c.write_char-2.ensures.writes
