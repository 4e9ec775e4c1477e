use Rattle.std.proofs.Common.{◌&&◌, [], ◌∷◌, not, ap, refl}
use Rattle.std.proofs.lemmas.Bool.{and_from}
use Rattle.explain_report.proofs.Printed.{adds_call, adds_last, adds_nil, printed_ascii, printed_one}
use Rattle.explain_report.proofs.text.shell_word.write_in_word.Goals as goal

pub returns-in-39-default : goal.returns-in-39-default
returns-in-39-default g c = adds_call g.W.Write.write_str_gives c.args.out.now c.write_str.new.self _ c.write_str.result c.quote.ensures c.write_str.ensures.ok

pub returns-in-92-default : goal.returns-in-92-default
returns-in-92-default g c = adds_call g.W.Write.write_str_gives c.args.out.now c.write_str-in-92-default.new.self (92 ∷ []) c.write_str-in-92-default.result (printed_ascii (92 ∷ []) refl) c.write_str-in-92-default.ensures.ok

pub returns-in_default-Plain : goal.returns-in_default-Plain
returns-in_default-Plain g c =
    let took = g.W.Write.write_str_gives in
    adds_last took c.args.out.now c.args.out.now c.write_char.new.self _ c.write_char.result (adds_nil took c.args.out.now) (printed_one c.args.character (and_from _ _ c.ranges.character.0 (ap not c.in_default-Plain.ensures))) c.write_char.ensures.writes

pub returns-in_default-Short : goal.returns-in_default-Short
returns-in_default-Short g c = adds_call g.W.Write.write_str_gives c.args.out.now c.write_str-in_default-Short.new.self _ c.write_str-in_default-Short.result c.in_default-Short.ensures c.write_str-in_default-Short.ensures.ok
