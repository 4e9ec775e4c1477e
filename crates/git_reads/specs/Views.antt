-- The readings that results of calls represent.
use Rattle.std.specs.Prelude.{option_map}
use Rattle.git_syntax.specs.Location.{Scheme}
use Rattle.git_syntax.specs.Location.Scheme.{file, git, ssh}
use Rattle.git_reads.specs.declared.transport.Protocol.{Protocol}
use Rattle.git_reads.specs.declared.transport.Protocol.TheVariants as protocol
use Rattle.git_reads.specs.declared.transport.GitPlace.{GitPlace}
use Rattle.git_reads.specs.declared.credential.Request.{Request}
use Rattle.git_reads.specs.Git.{GitReading}
use Rattle.git_reads.specs.Credentials.{CredentialReading}

-- the scheme of a transport
abbrev pub scheme_of_protocol : Protocol → Scheme
scheme_of_protocol protocol.Ssh = ssh
scheme_of_protocol protocol.Git = git
scheme_of_protocol protocol.File = file

-- the view of a `GitPlace`
abbrev pub git_reading : GitPlace → GitReading
git_reading r = record {
  protocol = scheme_of_protocol r.protocol;
  user = option_map (λ t. t.now) r.user;
  host = option_map (λ t. t.now) r.host;
  port = r.port;
  path = r.path.now;
}

-- the view of a `Request`
abbrev pub credential_reading : Request → CredentialReading
credential_reading r = record {
  protocol = r.protocol.now;
  user = option_map (λ t. t.now) r.user;
  password = option_map (λ t. t.now) r.password;
  host = r.host.now;
  path = option_map (λ t. t.now) r.path;
}
