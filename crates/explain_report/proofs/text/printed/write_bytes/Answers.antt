use Rattle.explain_report.proofs.Printed.{adds_nil, adds_then}
use Rattle.explain_report.proofs.text.printed.write_bytes.Goals as goal

pub loop-byte-preserved : goal.loop-byte-preserved
loop-byte-preserved g c =
    adds_then g.W.Write.write_str_gives c.args.out.now c.loop-byte.out c.write_byte.new.out c.loop-byte.invariant c.in_ok-write_byte.ensures
