-- The front of the buffer is the path of the stack so far, on which
-- the rest is put as the whole on an empty one.
use Rattle.std.proofs.Common.{◌≡◌, ◌≤◌, ◌+◌, ◌*◌, [], List, ℕ, true, length, take}
use Rattle.git_syntax.specs.Escapes.{is_sound}
use Rattle.git_rules.specs.Normal.{normal_segments, write_segments}
use Rattle.git_rules.specs.NormalPieces.{ShowsStack}
use Rattle.git_rules.proofs.normal.path.write_path.Given as goal

abbrev pub invariant-loop-segment : goal.invariant-loop-segment
invariant-loop-segment l = record {
  stack : List (List ℕ);
  shown : ShowsStack (take l.at l.buffer) stack;
  left : write_segments (normal_segments l.rest) stack ≡ write_segments (normal_segments l.segments) [];
  sound : is_sound l.rest ≡ true;
  buffer_left : l.at + 3 * length l.rest ≤ 3 * length l.segments;
  kept : length l.buffer ≡ length l.fn.buffer;
}

abbrev pub decreases-loop-segment : goal.decreases-loop-segment
decreases-loop-segment l = length l.rest
