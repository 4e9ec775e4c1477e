use Rattle.std.proofs.Common.{◌≡◌, drop}
use Rattle.git_modules.specs.ResolveParents.{is_remote}
use Rattle.git_modules.proofs.resolve.left.is_remote.Given as goal

abbrev pub invariant-loop-byte : goal.invariant-loop-byte
invariant-loop-byte l = is_remote (drop l.byte-index l.text) ≡ is_remote l.text
