-- The plain values of an `SshSettings` and of an `SshProgram`.
use Rattle.std.specs.Prelude.{option_map}
use Rattle.git_rules.specs.declared.ssh.program.SshSettings.TheInside as settings
use Rattle.git_rules.specs.declared.ssh.program.SshProgram.TheInside as found
use Rattle.git_rules.specs.SshPrograms.{Program, Settings}

-- the view of an `SshSettings`
abbrev pub borrowed_settings : settings.Inside → Settings
borrowed_settings s = record {
  entries = s.entries.now;
  git_ssh_command = option_map (λ t. t.now) s.git_ssh_command;
  git_ssh = option_map (λ t. t.now) s.git_ssh;
  git_ssh_variant = option_map (λ t. t.now) s.git_ssh_variant;
}

-- the view of an `SshProgram`
abbrev pub borrowed_program : found.Inside → Program
borrowed_program p = record { text = p.text.now; is_command_line = p.is_command_line; variant = p.variant }
