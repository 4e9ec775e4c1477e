use Rattle.std.proofs.Common.{◌∙◌, sym, ap}
use Rattle.std.proofs.lemmas.Bool.{and_parts}
use Rattle.std.specs.List.{list_all}
use Rattle.std.specs.Char.Iter.{escape_rest}
use Rattle.explain_report.specs.Printed.{is_printed}
use Rattle.explain_report.proofs.Printed.{adds_nil, adds_one, adds_then, number_printed, printed_one}
use Rattle.explain_report.proofs.text.printed.write_number.Goals as goal

pub loop-it-init : goal.loop-it-init
loop-it-init g c = (adds_nil g.W.Write.write_str_gives c.args.out.now, ap (list_all is_printed) c.escape_unicode-rest.ensures.rest ∙ number_printed c.args.character)

pub loop-it-preserved : goal.loop-it-preserved
loop-it-preserved g c =
    let took = g.W.Write.write_str_gives in
    let all = sym (ap (list_all is_printed) c.in-Some.ensures.steps.1.0) ∙ c.loop-it.invariant.1 in
    let parts = and_parts (is_printed c.in-Some.it) (list_all is_printed (escape_rest c.next.new.self)) all in
    (adds_then took c.args.out.now c.loop-it.out c.write_char.new.self c.loop-it.invariant.0 (adds_one took c.loop-it.out c.write_char.new.self _ c.in_ok-write_char.ensures.writes (printed_one c.in-Some.it parts.0)), parts.1)
