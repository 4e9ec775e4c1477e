-- Each byte so far may follow the one before it.
use Rattle.std.proofs.Common.{◌≡◌, drop}
use Rattle.git_syntax.specs.Bytes.{dot}
use Rattle.git_readers.proofs.NameLemmas.{follows}
use Rattle.git_readers.proofs.host.is_common_name.Given as goal

abbrev pub invariant-loop-byte : goal.invariant-loop-byte
invariant-loop-byte l = follows l.before (drop l.byte-index l.host) ≡ follows dot l.host
