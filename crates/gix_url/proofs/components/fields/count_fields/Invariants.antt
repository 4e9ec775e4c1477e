-- The fields counted so far and those that begin in the rest make up the whole.
use Rattle.std.proofs.Common.{◌≡◌, ◌+◌, ◌≤◌, ◌==◌, length}
use Rattle.git_syntax.specs.Bytes.{ampersand}
use Rattle.gix_url.specs.Internal.ComponentPieces.{begun_in, field_count}
use Rattle.gix_url.proofs.components.fields.count_fields.Given as goal

abbrev pub invariant-loop-rest : goal.invariant-loop-rest
invariant-loop-rest l = record {
  counted : l.count + begun_in (l.before == ampersand) l.rest ≡ field_count l.query;
  small : l.count + length l.rest ≤ length l.query;
}

abbrev pub decreases-loop-rest : goal.decreases-loop-rest
decreases-loop-rest l = length l.rest
