-- The fields counted so far and those that begin in the rest make up the whole.
use Rattle.std.proofs.Common.{◌≡◌, ◌+◌, ◌≤◌, ◌==◌, drop}
use Rattle.git_syntax.specs.Bytes.{ampersand}
use Rattle.gix_url.specs.Internal.ComponentPieces.{begun_in, ends_in}
use Rattle.gix_url.proofs.components.fields.count_begun.Given as goal

abbrev pub invariant-loop-byte : goal.invariant-loop-byte
invariant-loop-byte l = record {
  counted : l.count + begun_in (l.last == ampersand) (drop l.byte-index l.piece) ≡ begun_in (l.before == ampersand) l.piece;
  ended : ends_in (l.last == ampersand) (drop l.byte-index l.piece) ≡ ends_in (l.before == ampersand) l.piece;
  small : l.count ≤ l.byte-index;
}
