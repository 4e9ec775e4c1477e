-- The command that an `SshCommand` represents.
use Rattle.std.specs.Prelude.{option_map}
use Rattle.git_rules.specs.declared.ssh.command.SshCommand.TheInside.{Inside}
use Rattle.git_rules.specs.SecureShell.{Command}

-- the view of an `SshCommand`: the request, and the parts of the location
abbrev pub borrowed_command : Inside → Command
borrowed_command c = record {
  request = record {
    service = c.service;
    program = option_map (λ t. t.now) c.program;
    variant = c.variant;
    version = c.version;
    family = c.family;
  };
  user = option_map (λ t. t.now) c.user;
  host = c.host.now;
  port = c.port;
  path = c.path.now;
}
