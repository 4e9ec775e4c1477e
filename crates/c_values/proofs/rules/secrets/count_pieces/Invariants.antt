-- The pieces so far were counted.
use Rattle.std.proofs.Common.{◌≡◌, ◌++◌, length, map}
use Rattle.git_audit.specs.Secrets.{parts_of, piece_part}
use Rattle.c_values.specs.Answers.{reported_length}
use Rattle.c_values.proofs.rules.secrets.count_pieces.Given as goal

abbrev pub invariant-loop-piece : goal.invariant-loop-piece
invariant-loop-piece l = record {
  cut : parts_of l.fn.text ≡ map piece_part l.yielded ++ l._piece-iterator;
  counted : l.count ≡ reported_length (length l.yielded);
}
