-- After the front come idle bytes.
use Rattle.std.proofs.Common.{◌≡◌, ◌++◌, List, ℕ, length}
use denote.Text.{Utf8}
use denote.Shadow.{shadow}
use Rattle.gix_url.specs.Paths.{IsIdle}
use Rattle.gix_url.proofs.expand_path.paths.up_to_last.Given as goal

abbrev pub invariant-loop-before : goal.invariant-loop-before
invariant-loop-before l = record {
  text : shadow (Utf8 l.front);
  suffix : (tail : List ℕ) × IsIdle tail × (l.text ≡ l.front ++ tail);
}

abbrev pub decreases-loop-before : goal.decreases-loop-before
decreases-loop-before l = length l.front
