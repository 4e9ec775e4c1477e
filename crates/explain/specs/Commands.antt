-- The commands of Secure Shell for lines.
use Rattle.std.specs.Prelude.{Bool, true, not}
use Rattle.git_rules.specs.declared.ssh.SshRefusal.TheVariants as refusal
use Rattle.git_rules.specs.declared.ssh.SshVariant.{SshVariant}
use Rattle.git_rules.specs.declared.ssh.SshVariant.TheVariants as variant
use Rattle.git_rules.specs.declared.ssh.program.ProgramVariant.{ProgramVariant}
use Rattle.git_rules.specs.declared.ssh.program.ProgramVariant.TheVariants.{Known, Asked}
use Rattle.explain.specs.declared.commands.Lack.{Lack}
use Rattle.explain.specs.declared.commands.Lack.TheVariants as lack

-- the variant of a program; OpenSSH if Git has to run the program to find its variant
abbrev pub variant_or_openssh : ProgramVariant → SshVariant
variant_or_openssh (Known it) = it
variant_or_openssh Asked = variant.Ssh

-- the run ends as if the line couldn't be read: the line isn't of Secure Shell, or the run doesn't fail for its findings
abbrev pub is_missing : Lack → Bool → Bool
is_missing lack.NoLocation fails = true
is_missing (lack.Refused refusal.NotSecureShell) fails = true
is_missing _ fails = not fails
