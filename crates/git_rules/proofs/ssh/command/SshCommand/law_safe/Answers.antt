use Rattle.std.proofs.Common.{subst}
use Rattle.git_rules.specs.SecureShell.{IsSafeCommand}
use Rattle.git_rules.proofs.Shell.SafeLemmas.{safe_command}
use Rattle.git_rules.proofs.ssh.command.SshCommand.law_safe.Goals as goal

pub returns : goal.returns
returns c = subst (λ v. IsSafeCommand v) c.self.view_is (safe_command _ c.self.invariant c.law_port.ensures)
