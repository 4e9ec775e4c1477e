-- The path is the rest after the slashes, decoded and trimmed.
use Rattle.git_reads.proofs.credential.decode_path.Goals as goal

pub returns : goal.returns
returns c = record {
  slashes = c.without_first_slashes.ensures.slashes;
  rest = c.without_first_slashes.result.now;
  decoded = c.in_ok-decoded.decoded.now;
  joined = c.without_first_slashes.ensures.joined;
  front = c.without_first_slashes.ensures.front;
  begins = c.without_first_slashes.ensures.begins;
  decodes = c.in_ok-decoded.ensures;
  value = c.trimmed_path.ensures;
}
