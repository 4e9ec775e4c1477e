use Rattle.std.proofs.Common.{◌≡◌, ◌+◌, drop, false}
use Rattle.git_modules.specs.ResolveRoots.{name_length}
use Rattle.git_modules.proofs.resolve.root.name_length.Given as goal

abbrev pub invariant-loop-i : goal.invariant-loop-i
invariant-loop-i l = l.i + name_length l.within (drop l.i l.text) ≡ name_length false l.text
