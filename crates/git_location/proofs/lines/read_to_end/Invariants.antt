-- The bytes read so far, and at least one byte in each turn.
use Rattle.std.proofs.Common.{◌≤◌, length}
use Rattle.std.specs.Io.KnownBytes.{Consumes}
use Rattle.git_location.proofs.lines.read_to_end.Given as goal

abbrev pub invariant-loop-turn : goal.invariant-loop-turn
invariant-loop-turn g l = record {
  read : Consumes (g.R.Read.remaining l.fn.input) (g.R.Read.remaining l.input) l.all.items;
  each : l._turn ≤ length l.all.items;
}
