-- The count so far.
use Rattle.std.proofs.Common.{◌≡◌, ◌≤◌, ◌==◌, take}
use Rattle.std.specs.List.{count_by}
use Rattle.git_syntax.specs.Bytes.{percent_sign}
use Rattle.git_location.proofs.writer.piece.count_in_block.Given as goal

abbrev pub invariant-loop-byte : goal.invariant-loop-byte
invariant-loop-byte l = record {
  count : l.count ≡ count_by (λ b. b == percent_sign) (take l.byte-index l.block);
  bound : l.count ≤ l.byte-index;
}
