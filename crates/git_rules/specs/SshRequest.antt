-- The request that an `SshRequest` represents.
use Rattle.std.specs.Prelude.{option_map}
use Rattle.git_rules.specs.declared.ssh.request.SshRequest.TheInside.{Inside}
use Rattle.git_rules.specs.SecureShell.{Request}

-- the view of an `SshRequest`
abbrev pub borrowed_request : Inside → Request
borrowed_request r = record {
  service = r.service;
  program = option_map (λ t. t.now) r.program;
  variant = r.variant;
  version = r.version;
  family = r.family;
}
