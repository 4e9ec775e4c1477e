-- The errors of the function that allocates the words for a location.
use Rattle.std.specs.Prelude.{◌≡◌, Some, None}
use Rattle.git_syntax.specs.Location.{Location}
use Rattle.git_rules.specs.declared.ssh.SshError.{SshError}
use Rattle.git_rules.specs.declared.ssh.SshError.TheVariants.{Memory, Refused}
use Rattle.git_rules.specs.SecureShell.{Request, ssh_refusal}

-- an allocation failed although there is a command for the location; or there is no command, for this reason
abbrev pub IsNotBuilt : Request → Location → SshError → Type 0
IsNotBuilt r v Memory = ssh_refusal r v ≡ None
IsNotBuilt r v (Refused refusal) = ssh_refusal r v ≡ Some refusal
