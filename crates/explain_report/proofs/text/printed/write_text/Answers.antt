use Rattle.explain_report.proofs.Printed.{adds_then}
use Rattle.explain_report.proofs.text.printed.write_text.Goals as goal

pub loop-from-preserved : goal.loop-from-preserved
loop-from-preserved g c =
    adds_then g.W.Write.write_str_gives c.args.out.now c.loop-from.out c.write_character.new.out c.loop-from.invariant c.in_ok-write_character.ensures
