use Rattle.std.proofs.Common.{◌≡◌, ◌+◌, drop}
use Rattle.git_modules.specs.ResolveRoots.{authority_length}
use Rattle.git_modules.proofs.resolve.root.authority_length.Given as goal

abbrev pub invariant-loop-i : goal.invariant-loop-i
invariant-loop-i l = l.i + authority_length (drop l.i l.text) ≡ authority_length l.text
