-- The entries so far are those of the items up to the place.
use Rattle.std.proofs.Common.{length, ◌-◌, ◌+◌, ◌≤◌}
use Rattle.git_modules.proofs.ConfigFile.ProgressLemmas.{IsAt}
use Rattle.git_modules.proofs.config_file.entries.Given as goal

abbrev pub invariant-loop-at : goal.invariant-loop-at
invariant-loop-at l = record {
  read : IsAt l.text l.at l.line l.owner l.found.items;
  left : length l.text ≤ l.at + length l.unused_buffer;
  whole : length l.text ≤ length l.fn.buffer;
}

abbrev pub decreases-loop-at : goal.decreases-loop-at
decreases-loop-at l = length l.text - l.at
