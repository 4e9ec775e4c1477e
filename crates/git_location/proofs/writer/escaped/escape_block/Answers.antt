-- Nothing at first, then a byte more.
use Rattle.std.proofs.Common.{◌∙◌, ◌++◌, arith, ap, get_or, sym}
use Rattle.percent_encoding.specs.Percent.{encode_byte}
use Rattle.percent_encoding.proofs.PercentLemmas.{percent_encode-nil}
use Rattle.git_location.proofs.Writing.EscapedLemmas.{encoded_more}
use Rattle.git_location.proofs.writer.escaped.escape_block.Goals as goal

pub loop-byte-init : goal.loop-byte-init
loop-byte-init c = record { bytes = sym (percent_encode-nil c.args.set); bound = omega arith }

pub loop-byte-preserved : goal.loop-byte-preserved
loop-byte-preserved c = record {
  bytes = c.write_byte-size.ensures.bytes ∙ ap (λ l. l ++ encode_byte c.args.set (get_or c.args.block.now c.loop-byte.byte-index 0)) c.loop-byte.invariant.bytes ∙ encoded_more c.args.set c.args.block.now c.loop-byte.byte-index c.loop-byte-test.true;
  bound = omega (arith, c.write_byte-size.ensures.bound, c.loop-byte.invariant.bound);
}
