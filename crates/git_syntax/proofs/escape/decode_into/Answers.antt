-- At the end nothing is left to be decoded.
use Rattle.std.proofs.Common.{ap, arith, length, take}
use Rattle.git_syntax.proofs.Texts.DecodingLemmas.{all_decoded, nothing_decoded}
use Rattle.git_syntax.proofs.escape.decode_into.Goals as goal

pub returns-clause-size : goal.returns-clause-size
returns-clause-size c = omega (arith, c.loop-byte.invariant.size, ap length (nothing_decoded c.loop-byte.rest.now c.in_default.ensures))

pub returns-clause-bytes : goal.returns-clause-bytes
returns-clause-bytes c = all_decoded (take c.loop-byte.size c.loop-byte.buffer) c.loop-byte.rest.now c.args.text.now c.loop-byte.invariant.bytes c.in_default.ensures
