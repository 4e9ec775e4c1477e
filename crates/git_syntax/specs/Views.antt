-- The scheme that a `SchemeRef` represents.
use Rattle.git_syntax.specs.declared.scheme.SchemeRef.{SchemeRef}
use Rattle.git_syntax.specs.declared.scheme.SchemeRef.TheVariants as borrowed
use Rattle.git_syntax.specs.Location.{Scheme}
use Rattle.git_syntax.specs.Location.Scheme.{file, git, ssh, http, https, ext, helper, helper_url}

-- the scheme that a `SchemeRef` represents
abbrev pub borrowed_scheme : SchemeRef → Scheme
borrowed_scheme borrowed.File = file
borrowed_scheme borrowed.Git = git
borrowed_scheme borrowed.Ssh = ssh
borrowed_scheme borrowed.Http = http
borrowed_scheme borrowed.Https = https
borrowed_scheme borrowed.Ext = ext
borrowed_scheme (borrowed.Helper name) = helper name.now
borrowed_scheme (borrowed.HelperUrl name) = helper_url name.now
