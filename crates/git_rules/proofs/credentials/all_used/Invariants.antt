-- The settings used by the entries so far.
use Rattle.std.proofs.Common.{take}
use Rattle.git_reads.specs.Views.{credential_reading}
use Rattle.git_rules.specs.Credentials.{AreCredentials}
use Rattle.git_rules.proofs.credentials.all_used.Given as goal

abbrev pub invariant-loop-i : goal.invariant-loop-i
invariant-loop-i l = AreCredentials (credential_reading l.request) (take l.i l.entries) l.used
