-- The length so far, with that of the spelling of the rest, is the whole, and no sum wraps.
use Rattle.std.proofs.Common.{◌≡◌, ◌+◌, ◌*◌, ◌≤◌, length}
use Rattle.git_laws.specs.Records.{new_spelling}
use Rattle.gix_url.proofs.stored.respelled_len.Given as goal

abbrev pub invariant-loop-front : goal.invariant-loop-front
invariant-loop-front l = record {
  so_far : l.total + length (new_spelling l.rest) ≡ length (new_spelling l.path);
  bound : l.total + 3 * length l.rest ≤ 3 * length l.path;
}

abbrev pub decreases-loop-front : goal.decreases-loop-front
decreases-loop-front l = length l.rest
