-- The result so far and the meaning of the rest, with its spaces,
-- make up the whole, and the capacity suffices for the rest.
use Rattle.std.proofs.Common.{◌≡◌, ◌++◌, ◌+◌, ◌≤◌, length, vec_len, vec_capacity}
use Rattle.git_laws.specs.Components.{with_spaces}
use Rattle.gix_url.specs.Internal.Meanings.{denoted_by}
use Rattle.gix_url.proofs.components.query_texts.with_spaces.Given as goal

abbrev pub invariant-loop-front : goal.invariant-loop-front
invariant-loop-front l = record {
  escaped : l.rest.escaped ≡ l.fn.piece.escaped;
  built : denoted_by l.fn.piece.escaped (with_spaces l.fn.piece.text.now) ≡ l.bytes.items ++ denoted_by l.fn.piece.escaped (with_spaces l.rest.text.now);
  reserved : vec_len l.bytes + length l.rest.denoted.now ≤ vec_capacity l.bytes;
}

abbrev pub decreases-loop-front : goal.decreases-loop-front
decreases-loop-front l = length l.rest.text.now
