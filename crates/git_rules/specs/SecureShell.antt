-- The words with which Git runs Secure Shell.
use Rattle.std.specs.Prelude.{◌≡◌, ℕ, Bool, true, false, not, ◌==◌, bytes_eq, List, [], ◌∷◌, ◌++◌, codes, decimal, Option, Some, None, is_none, is_some, unwrap_or, IfSome, if◌then◌else◌}
use Rattle.std.specs.List.{list_any, starts_with}
use Rattle.git_syntax.specs.Location.{Scheme, Location}
use Rattle.git_syntax.specs.Location.Scheme.{ssh}
use Rattle.git_syntax.specs.Bytes.{space, at_sign, is_option_like}
use Rattle.git_rules.specs.declared.ssh.Service.{Service}
use Rattle.git_rules.specs.declared.ssh.Service.TheVariants.{UploadPack, ReceivePack, UploadArchive}
use Rattle.git_rules.specs.declared.ssh.SshVariant.{SshVariant}
use Rattle.git_rules.specs.declared.ssh.SshVariant.TheVariants.{Ssh, Simple, Plink, Putty, TortoisePlink}
use Rattle.git_rules.specs.declared.ssh.ProtocolVersion.{ProtocolVersion}
use Rattle.git_rules.specs.declared.ssh.ProtocolVersion.TheVariants.{V0, V1, V2}
use Rattle.git_rules.specs.declared.ssh.request.AddressFamily.{AddressFamily}
use Rattle.git_rules.specs.declared.ssh.request.AddressFamily.TheVariants.{Any, V4, V6}
use Rattle.git_rules.specs.declared.ssh.SshRefusal.{SshRefusal}
use Rattle.git_rules.specs.declared.ssh.SshRefusal.TheVariants as refusal
use Rattle.git_reads.specs.Git.{UserCut}
use Rattle.git_rules.specs.ShellWords.{shell_words, sq_quote}

-- ---- requests

-- a request: the service, a program that may replace it, the variant of Secure Shell, the version of the protocol,
-- and the address family
pub record Request : Type 0 where
  pub service : Service
  pub program : Option (List ℕ)
  pub variant : SshVariant
  pub version : ProtocolVersion
  pub family : AddressFamily

-- a request for a service alone: with the service's own program, and any address family
abbrev pub service_alone : Service → SshVariant → ProtocolVersion → Request
service_alone asked client spoken =
    record { service = asked; program = None; variant = client; version = spoken; family = Any }

-- the program of a service
abbrev pub service_name : Service → List ℕ
service_name UploadPack = codes "git-upload-pack"
service_name ReceivePack = codes "git-receive-pack"
service_name UploadArchive = codes "git-upload-archive"

-- the program that the server runs, before the path: the one in the request, or else the service's own
abbrev pub program_text : Request → List ℕ
program_text r = unwrap_or r.program (service_name r.service)

-- ---- the words before the destination

-- the version is above 0, and Git uses it. Git doesn't push by version 2, which it decides only by the name of the
-- program
abbrev pub is_asked_for : List ℕ → ProtocolVersion → Bool
is_asked_for program V0 = false
is_asked_for program V1 = true
is_asked_for program V2 = not (bytes_eq program (service_name ReceivePack))

-- the version is sent to the server, by a variable that OpenSSH passes on
abbrev pub sends_version : SshVariant → List ℕ → ProtocolVersion → Bool
sends_version Ssh program version = is_asked_for program version
sends_version _ program version = false

-- the value of that variable, `GIT_PROTOCOL`
abbrev pub version_value : ProtocolVersion → List ℕ
version_value V0 = codes "version=0"
version_value V1 = codes "version=1"
version_value V2 = codes "version=2"

-- the option with which OpenSSH passes the variable on
abbrev pub version_words : Bool → List (List ℕ)
version_words true = codes "-o" ∷ codes "SendEnv=GIT_PROTOCOL" ∷ []
version_words false = []

-- the option for an address family
abbrev pub family_words : AddressFamily → List (List ℕ)
family_words Any = []
family_words V4 = codes "-4" ∷ []
family_words V6 = codes "-6" ∷ []

-- the option with which TortoisePlink opens no window
abbrev pub batch_words : SshVariant → List (List ℕ)
batch_words TortoisePlink = codes "-batch" ∷ []
batch_words _ = []

-- the options for an address family and for no window
abbrev pub client_words : SshVariant → AddressFamily → List (List ℕ)
client_words variant family = family_words family ++ batch_words variant

-- the option for a port; `simple` has none
abbrev pub port_option : SshVariant → List ℕ
port_option Ssh = codes "-p"
port_option Simple = []
port_option _ = codes "-P"

-- the port's option and its digits
abbrev pub port_words : SshVariant → Option ℕ → List (List ℕ)
port_words variant None = []
port_words variant (Some port) = port_option variant ∷ decimal port ∷ []

-- all words before the destination
abbrev pub option_words : Request → Option ℕ → List (List ℕ)
option_words r port = version_words (sends_version r.variant (program_text r) r.version)
    ++ (client_words r.variant r.family ++ port_words r.variant port)

-- ---- the destination and the remote command

-- the user and `@`, if there is a user, and the host
abbrev pub destination : Option (List ℕ) → List ℕ → List ℕ
destination None host = host
destination (Some user) host = user ++ at_sign ∷ host

-- the command for the server's shell: the program unchanged, a space, and the path in Git's single quotes
abbrev pub remote_command : List ℕ → List ℕ → List ℕ
remote_command program path = program ++ space ∷ sq_quote path

-- ---- refusals

-- the location uses Secure Shell
abbrev pub is_secure : Scheme → Bool
is_secure ssh = true
is_secure _ = false

-- the text contains a byte 0, which no argument can contain
abbrev pub has_zero : List ℕ → Bool
has_zero text = list_any (λ b. b == 0) text

-- the reason to refuse a user
abbrev pub user_refusal : Option (List ℕ) → Option SshRefusal
user_refusal None = None
user_refusal (Some []) = Some refusal.EmptyUser
user_refusal (Some (b ∷ bs)) =
    if has_zero (b ∷ bs) then Some refusal.ByteZero
    else (if is_option_like (b ∷ bs) then Some refusal.OptionLikeUser else None)

-- the reason to refuse a host
abbrev pub host_refusal : Option (List ℕ) → Option SshRefusal
host_refusal None = Some refusal.NoHost
host_refusal (Some []) = Some refusal.NoHost
host_refusal (Some (b ∷ bs)) =
    if has_zero (b ∷ bs) then Some refusal.ByteZero
    else (if is_option_like (b ∷ bs) then Some refusal.OptionLikeHost
    else (if list_any (λ c. c == at_sign) (b ∷ bs) then Some refusal.AtSignInHost else None))

-- the text begins with `ssh://`, so OpenSSH reads it as a URL
abbrev pub is_url_like : List ℕ → Bool
is_url_like text = starts_with (λ a b. a == b) text (codes "ssh://")

-- the reason to refuse a user and a host together: no byte of `ssh://` is an `@`, so if there is a user, it decides
-- alone
abbrev pub url_refusal : Option (List ℕ) → Option (List ℕ) → Option SshRefusal
url_refusal (Some user) host = if is_url_like user then Some refusal.UrlLikeDestination else None
url_refusal None (Some host) = if is_url_like host then Some refusal.UrlLikeDestination else None
url_refusal None None = None

-- the reason to refuse a path
abbrev pub path_refusal : List ℕ → Option SshRefusal
path_refusal [] = Some refusal.NoPath
path_refusal (b ∷ bs) =
    if has_zero (b ∷ bs) then Some refusal.ByteZero
    else (if is_option_like (b ∷ bs) then Some refusal.OptionLikePath else None)

-- the reason to refuse a port, by the variant
abbrev pub port_refusal : SshVariant → Option ℕ → Option SshRefusal
port_refusal Simple (Some port) = Some refusal.PortOfSimple
port_refusal Simple None = None
port_refusal Ssh port = None
port_refusal Plink port = None
port_refusal Putty port = None
port_refusal TortoisePlink port = None

-- the reason to refuse a program that replaces the service's
abbrev pub program_refusal : Option (List ℕ) → Option SshRefusal
program_refusal None = None
program_refusal (Some []) = Some refusal.EmptyProgram
program_refusal (Some (b ∷ bs)) =
    if has_zero (b ∷ bs) then Some refusal.ByteZeroInProgram
    else (if is_option_like (b ∷ bs) then Some refusal.OptionLikeProgram else None)

-- the reason to refuse an address family, by the variant
abbrev pub family_refusal : SshVariant → AddressFamily → Option SshRefusal
family_refusal Simple Any = None
family_refusal Simple V4 = Some refusal.FamilyOfSimple
family_refusal Simple V6 = Some refusal.FamilyOfSimple
family_refusal Ssh family = None
family_refusal Plink family = None
family_refusal Putty family = None
family_refusal TortoisePlink family = None

-- the first of two reasons
abbrev pub or_refusal : Option SshRefusal → Option SshRefusal → Option SshRefusal
or_refusal None second = second
or_refusal (Some first) second = Some first

-- the reason why a user and a host form no destination
abbrev pub destination_refusal : Option (List ℕ) → Option (List ℕ) → Option SshRefusal
destination_refusal user host =
    or_refusal (user_refusal user) (or_refusal (host_refusal host) (url_refusal user host))

-- the reason why the request has no command with this port
abbrev pub request_refusal : Request → Option ℕ → Option SshRefusal
request_refusal r port = or_refusal (program_refusal r.program)
    (or_refusal (family_refusal r.variant r.family) (port_refusal r.variant port))

-- the reason why the parts form no command
abbrev pub parts_refusal : Request → Option (List ℕ) → Option (List ℕ) → Option ℕ → List ℕ
    → Option SshRefusal
parts_refusal r user host port path = or_refusal (destination_refusal user host)
    (or_refusal (path_refusal path) (request_refusal r port))

-- the reason why there is no command for a location; none if there is one
abbrev pub ssh_refusal : Request → Location → Option SshRefusal
ssh_refusal r v =
    if is_secure v.scheme
    then (if is_some v.password then Some refusal.Password
    else parts_refusal r v.user v.host v.port v.path)
    else Some refusal.NotSecureShell

-- ---- the command

-- a command: the request, and the parts of the location
pub record Command : Type 0 where
  pub request : Request
  pub user : Option (List ℕ)
  pub host : List ℕ
  pub port : Option ℕ
  pub path : List ℕ

-- the command's user and host form a destination, its program and its path a remote command, and its variant has
-- options for its address family and its port
abbrev pub IsSafe : Command → Type 0
IsSafe c = is_none (parts_refusal c.request c.user (Some c.host) c.port c.path) ≡ true

-- the command for the server's shell
abbrev pub run_there : Command → List ℕ
run_there c = remote_command (program_text c.request) c.path

-- the words after the program's name
abbrev pub command_words : Command → List (List ℕ)
command_words c =
    option_words c.request c.port ++ destination c.user c.host ∷ run_there c ∷ []

-- the parts of the command are those of the location
pub record IsOwn (v : Location) (c : Command) : Type 0 where
  pub user : c.user ≡ v.user
  pub host : v.host ≡ Some c.host
  pub port : c.port ≡ v.port
  pub path : c.path ≡ v.path

-- the variable that accompanies the words, if the version is sent to the server
abbrev pub command_variable : Command → Option (List ℕ)
command_variable c = if sends_version c.request.variant (program_text c.request) c.request.version
    then Some (version_value c.request.version) else None

-- no word except the options begins with `-`, nor does the host in the destination or the path for the program
pub record HasNoOptions (c : Command) : Type 0 where
  pub destination : is_option_like (destination c.user c.host) ≡ false
  pub host : is_option_like c.host ≡ false
  pub path : is_option_like c.path ≡ false
  pub digits : IfSome c.port (λ port. is_option_like (decimal port) ≡ false)
  pub remote : is_option_like (run_there c) ≡ false

-- OpenSSH doesn't take the destination for a URL, splits it at its last `@`, and finds the user and the host there
pub record IsCutAlike (c : Command) : Type 0 where
  pub no_url : (rest : List ℕ) → ¬ (destination c.user c.host ≡ codes "ssh://" ++ rest)
  pub cut : UserCut (destination c.user c.host) c.user c.host

-- a shell's reading of the command. Without a replaced program it reads two words, the service and the path. After
-- any program and a space it reads one word, the path. If the program alone reads as some words, the command reads
-- as these words and the path
pub record IsReadThere (c : Command) : Type 0 where
  pub service : c.request.program ≡ None
      → shell_words (run_there c) ≡ Some (service_name c.request.service ∷ c.path ∷ [])
  pub joined : run_there c ≡ program_text c.request ++ space ∷ sq_quote c.path
  pub path : shell_words (sq_quote c.path) ≡ Some (c.path ∷ [])
  pub program : (words : List (List ℕ)) → shell_words (program_text c.request) ≡ Some words
      → shell_words (run_there c) ≡ Some (words ++ c.path ∷ [])

-- no word of the command except its options begins with `-`, OpenSSH finds the command's user and host in the
-- destination, and a shell reads its path as one word
pub record IsSafeCommand (c : Command) : Type 0 where
  pub no_options : HasNoOptions c
  pub cut : IsCutAlike c
  pub words : IsReadThere c

-- these are the words of a command for the location and the request: its user, host, port and path are the
-- location's, and `IsSafeCommand` holds of it
pub record AreWordsFor (v : Location) (r : Request) (said : List (List ℕ)) : Type 0 where
  pub command : Command
  pub built : ssh_refusal r v ≡ None
  pub own : IsOwn v command
  pub asked : command.request ≡ r
  pub safe : IsSafeCommand command
  pub words : said ≡ command_words command
