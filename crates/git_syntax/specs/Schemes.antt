-- The scheme of a URL: its name, the syntax of its host, and whether it needs a host and a path.
use Rattle.std.specs.Prelude.{ℕ, Bool, true, false, ◌||◌, List, codes, bytes_eq, Option, Some, None, if◌then◌else◌}
use Rattle.git_syntax.specs.Location.{Scheme}
use Rattle.git_syntax.specs.Location.Scheme.{file, git, ssh, http, https, ext, helper, helper_url}
use Rattle.git_syntax.specs.Hosts.{HostSyntax}
use Rattle.git_syntax.specs.Hosts.HostSyntax.{http_hosts, git_hosts, other_hosts}
use Rattle.std.specs.Prelude.{ℕ, Bool, ◌||◌, List, codes, bytes_eq}

-- the scheme is one of the names of Secure Shell
abbrev pub is_ssh_scheme : List ℕ → Bool
is_ssh_scheme s = bytes_eq s (codes "ssh")
    || (bytes_eq s (codes "ssh+git") || bytes_eq s (codes "git+ssh"))

-- the scheme is a name of HTTP, with or without encryption
abbrev pub is_web_scheme : List ℕ → Bool
is_web_scheme s = bytes_eq s (codes "http") || bytes_eq s (codes "https")

-- the scheme of which the text is the name, byte for byte
abbrev pub scheme_of : List ℕ → Scheme
scheme_of s =
    if is_ssh_scheme s then ssh
    else (if bytes_eq s (codes "file") then file
    else (if bytes_eq s (codes "git") then git
    else (if bytes_eq s (codes "http") then http
    else (if bytes_eq s (codes "https") then https
    else (if bytes_eq s (codes "ext") then ext
    else helper_url s)))))

-- the text that a scheme is written with
abbrev pub scheme_text : Scheme → List ℕ
scheme_text file = codes "file"
scheme_text git = codes "git"
scheme_text ssh = codes "ssh"
scheme_text http = codes "http"
scheme_text https = codes "https"
scheme_text ext = codes "ext"
scheme_text (helper name) = name
scheme_text (helper_url name) = name

-- the default port of the scheme, if it has one
abbrev pub default_port_of : Scheme → Option ℕ
default_port_of http = Some 80
default_port_of https = Some 443
default_port_of ssh = Some 22
default_port_of git = Some 9418
default_port_of _ = None

-- the syntax of the host of a URL with this scheme
abbrev pub host_syntax_of : List ℕ → HostSyntax
host_syntax_of s = if is_web_scheme s then http_hosts
    else (if is_ssh_scheme s || bytes_eq s (codes "git") then git_hosts else other_hosts)

-- a URL with this scheme needs a host
abbrev pub requires_host : List ℕ → Bool
requires_host s = is_web_scheme s
    || (bytes_eq s (codes "git")
    || (bytes_eq s (codes "ssh") || (bytes_eq s (codes "ftp") || bytes_eq s (codes "ftps"))))

-- URLs of the scheme need a path, and one that begins with `/`
abbrev pub requires_path : Scheme → Bool
requires_path ssh = true
requires_path git = true
requires_path _ = false

-- the text is the name of a known scheme
abbrev pub is_known_scheme : List ℕ → Bool
is_known_scheme s = is_ssh_scheme s
    || (is_web_scheme s ||
    (bytes_eq s (codes "file") || (bytes_eq s (codes "git") || bytes_eq s (codes "ext"))))

-- the name is `ftp` or `ftps`, whose URLs need a host
abbrev pub is_ftp : List ℕ → Bool
is_ftp name = bytes_eq name (codes "ftp") || bytes_eq name (codes "ftps")
