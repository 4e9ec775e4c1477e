-- The scheme that a `Scheme` represents.
use Rattle.std.specs.Prelude.{string_bytes}
use Rattle.gix_url.specs.declared.scheme.Scheme as rust
use Rattle.gix_url.specs.declared.scheme.Scheme.TheVariants.{File, Git, Ssh, Http, Https, Ext, Helper, HelperUrl}
use Rattle.git_syntax.specs.Location.{Scheme}
use Rattle.git_syntax.specs.Location.Scheme.{file, git, ssh, http, https, ext, helper, helper_url}
pub use Rattle.git_location.specs.Views.{judgement}
pub use Rattle.git_syntax.specs.Views.{borrowed_scheme}

-- the scheme that a `Scheme` represents
abbrev pub owned_scheme : rust.Scheme → Scheme
owned_scheme File = file
owned_scheme Git = git
owned_scheme Ssh = ssh
owned_scheme Http = http
owned_scheme Https = https
owned_scheme Ext = ext
owned_scheme (Helper name) = helper (string_bytes name)
owned_scheme (HelperUrl name) = helper_url (string_bytes name)
