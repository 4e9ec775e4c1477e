-- The bytes appended so far and the spelling of the rest make up the whole, and the capacity suffices for the
-- rest.
use Rattle.std.proofs.Common.{◌≡◌, ◌+◌, ◌≤◌, ◌++◌, length, vec_len, vec_capacity}
use Rattle.git_laws.specs.Records.{new_spelling}
use Rattle.gix_url.proofs.stored.respell.Given as goal

abbrev pub invariant-loop-front : goal.invariant-loop-front
invariant-loop-front l = record {
  items : l.spelling.items ++ new_spelling l.rest ≡ new_spelling l.path;
  reserved : vec_len l.spelling + length (new_spelling l.rest) ≤ vec_capacity l.spelling;
}

abbrev pub decreases-loop-front : goal.decreases-loop-front
decreases-loop-front l = length l.rest
