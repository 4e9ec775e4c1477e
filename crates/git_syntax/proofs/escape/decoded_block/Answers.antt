-- A byte more of the block, or the end of the text.
use Rattle.std.proofs.Common.{◌∙◌, arith}
use Rattle.std.proofs.lemmas.List.{length-set}
use Rattle.git_syntax.proofs.Texts.DecodingLemmas.{block_shorter, byte_more, end_shorter, full_block, last_block, zeros_left}
use Rattle.git_syntax.proofs.escape.decoded_block.Goals as goal

pub returns-in_default-clause-bytes : goal.returns-in_default-clause-bytes
returns-in_default-clause-bytes c = last_block c.args.text.now c.loop-at.block c.loop-at.rest.now c.loop-at.at c.in_default.ensures c.loop-at.invariant.zeros c.loop-at.invariant.bytes

pub returns-in_default-clause-shorter : goal.returns-in_default-clause-shorter
returns-in_default-clause-shorter c = λ some. end_shorter c.args.text.now c.loop-at.rest.now c.in_default.ensures some

pub loop-at-preserved : goal.loop-at-preserved
loop-at-preserved c = record {
  bytes = byte_more c.args.text.now c.loop-at.block c.loop-at.rest.now c.in-Some.suffix.now c.loop-at.at c.in-Some.byte (omega (arith, c.loop-at.invariant.buffer, c.loop-at-test.true)) c.loop-at.invariant.bytes c.in-Some.ensures;
  buffer = length-set c.loop-at.block c.loop-at.at c.in-Some.byte ∙ c.loop-at.invariant.buffer;
  zeros = zeros_left c.loop-at.block c.loop-at.at c.in-Some.byte c.loop-at-test.true c.loop-at.invariant.zeros;
}

pub returns-clause-bytes : goal.returns-clause-bytes
returns-clause-bytes c = full_block c.args.text.now c.loop-at.block c.loop-at.rest.now c.loop-at.at (omega (arith, c.loop-at.invariant.buffer, c.loop-at-test.false)) c.loop-at.invariant.bytes

pub returns-clause-shorter : goal.returns-clause-shorter
returns-clause-shorter c = λ some. block_shorter c.args.text.now c.loop-at.block c.loop-at.rest.now c.loop-at.at (omega (arith, c.loop-at-test.false)) (omega (arith, c.loop-at.invariant.buffer, c.loop-at.auto.at-end)) c.loop-at.invariant.bytes
