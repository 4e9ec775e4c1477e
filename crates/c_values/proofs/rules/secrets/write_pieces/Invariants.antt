-- The numbers of the pieces so far were put.
use Rattle.std.proofs.Common.{◌≡◌, ◌++◌, length, map}
use Rattle.std.specs.List.{flat_map}
use Rattle.git_audit.specs.Secrets.{parts_of, piece_part}
use Rattle.c_values.specs.PieceNumbers.{part_numbers}
use Rattle.c_values.proofs.BufferLemmas.{BeginsWith}
use Rattle.c_values.proofs.rules.secrets.write_pieces.Given as goal

abbrev pub invariant-loop-piece : goal.invariant-loop-piece
invariant-loop-piece l = record {
  cut : parts_of l.fn.text ≡ map piece_part l.yielded ++ l.piece-iterator;
  begun : BeginsWith (flat_map part_numbers (map piece_part l.yielded)) l.fn.numbers l.numbers l.at;
  size : length l.numbers ≡ length l.fn.numbers;
}
