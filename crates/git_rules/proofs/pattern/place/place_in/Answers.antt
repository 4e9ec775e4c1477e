-- The text is at the front of the buffer, if there is one.
use Rattle.std.proofs.Common.{arith, length}
use Rattle.git_location.specs.Text.{text}
use Rattle.git_rules.proofs.Matched.PlacedLemmas.{no_text, read_front}
use Rattle.git_rules.proofs.pattern.place.place_in.Goals as goal

pub returns-in-Err : goal.returns-in-Err
returns-in-Err c = no_text (text c.args.url.now) c.in-Err.fault (length c.args.buffer.now) c.in-Err.ensures.length

pub returns-else-len-buffer : goal.returns-else-len-buffer
returns-else-len-buffer c =
    read_front (text c.args.url.now) c.in-Ok.len c.args.buffer.now c.write_into.new.buffer c.normalize_front.result c.in-Ok.ensures.length c.in-Ok.ensures.placed (omega arith) (omega arith) c.normalize_front.ensures
