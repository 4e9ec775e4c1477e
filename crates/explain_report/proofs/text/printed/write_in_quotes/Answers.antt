use Rattle.std.proofs.Common.{[], ◌∷◌, refl}
use Rattle.explain_report.proofs.Printed.{adds_call, printed_ascii}
use Rattle.explain_report.proofs.text.printed.write_in_quotes.Goals as goal

pub returns-in-34 : goal.returns-in-34
returns-in-34 g c = adds_call g.W.Write.write_str_gives c.args.out.now c.write_str.new.self (92 ∷ 34 ∷ []) c.write_str.result (printed_ascii (92 ∷ 34 ∷ []) refl) c.write_str.ensures.ok
