use Rattle.std.proofs.Common.{◌&&◌, not, ap, ◌∙◌, rules}
use Rattle.std.proofs.lemmas.Bool.{and_from}
use Rattle.explain_report.proofs.Printed.{adds_call, adds_last, adds_nil, printed_one}
use Rattle.explain_report.proofs.text.printed.write_character.Goals as goal

pub returns-in-Plain : goal.returns-in-Plain
returns-in-Plain g c =
    let took = g.W.Write.write_str_gives in
    adds_last took c.args.out.now c.args.out.now c.write_char.new.self _ c.write_char.result (adds_nil took c.args.out.now) (printed_one c.args.character (and_from _ _ c.ranges.character.0 (ap not c.in-Plain.ensures))) c.write_char.ensures.writes

pub returns-in-Short : goal.returns-in-Short
returns-in-Short g c = adds_call g.W.Write.write_str_gives c.args.out.now c.write_str.new.self _ c.write_str.result c.in-Short.ensures c.write_str.ensures.ok
