-- A command of Secure Shell for C: the request by numbers, and the words one after the other.
use Rattle.std.specs.Prelude.{◌≡◌, ℕ, ◌<◌, ◌==◌, ◌⊎◌, List, Some, None, length, map, if◌then◌else◌}
use Rattle.std.specs.List.{concat}
use Rattle.std.specs.Option.{is_some}
use Rattle.gix_url.specs.Location.{Location}
use Rattle.git_rules.specs.declared.ssh.Service.{Service}
use Rattle.git_rules.specs.declared.ssh.Service.TheVariants as service
use Rattle.git_rules.specs.declared.ssh.SshVariant.{SshVariant}
use Rattle.git_rules.specs.declared.ssh.SshVariant.TheVariants as variant
use Rattle.git_rules.specs.declared.ssh.ProtocolVersion.{ProtocolVersion}
use Rattle.git_rules.specs.declared.ssh.ProtocolVersion.TheVariants as version
use Rattle.git_rules.specs.declared.ssh.request.AddressFamily.{AddressFamily}
use Rattle.git_rules.specs.declared.ssh.request.AddressFamily.TheVariants as family
use Rattle.git_rules.specs.declared.ssh.SshRefusal.{SshRefusal}
use Rattle.git_rules.specs.declared.ssh.SshRefusal.TheVariants as refusal
use Rattle.git_rules.specs.SecureShell.{Command, IsOwn, IsSafeCommand, Request, command_variable, command_words, ssh_refusal}
use Rattle.c_values.specs.declared.rules.commands.RequestBytes.{RequestBytes}
use Rattle.c_values.specs.declared.rules.commands.WordNumbers.{WordNumbers}
use Rattle.c_values.specs.Codes.{ok}
use Rattle.c_values.specs.Input.{present}
use Rattle.c_values.specs.Output.{PutsBoth}

-- ---- the request

-- the service, the variant, the version and the version of IP with a number
abbrev pub service_numbered : ℕ → Service
service_numbered n = if n == 0 then service.UploadPack else
    if n == 1 then service.ReceivePack else service.UploadArchive

abbrev pub variant_numbered : ℕ → SshVariant
variant_numbered n = if n == 0 then variant.Ssh else
    if n == 1 then variant.Simple else
    if n == 2 then variant.Plink else
    if n == 3 then variant.Putty else variant.TortoisePlink

abbrev pub version_numbered : ℕ → ProtocolVersion
version_numbered n = if n == 0 then version.V0 else
    if n == 1 then version.V1 else version.V2

abbrev pub family_numbered : ℕ → AddressFamily
family_numbered n = if n == 0 then family.Any else
    if n == 4 then family.V4 else family.V6

-- the request with these numbers
abbrev pub request_passed : RequestBytes → Request
request_passed r = record {
  service = service_numbered r.service;
  program = present r.has_program r.program.now;
  variant = variant_numbered r.variant;
  version = version_numbered r.version;
  family = family_numbered r.family;
}

-- no version of IP has the number
abbrev pub IsNoFamily : ℕ → Type 0
IsNoFamily n = (¬ (n ≡ 0)) × (¬ (n ≡ 4)) × (¬ (n ≡ 6))

-- a number of the request has no meaning
abbrev pub IsNoRequest : RequestBytes → Type 0
IsNoRequest r = (2 < r.service) ⊎ ((4 < r.variant) ⊎ ((2 < r.version) ⊎ IsNoFamily r.family))

-- ---- the result

-- the number of a reason why there is no command: its place in the order of the header
abbrev pub refusal_number : SshRefusal → ℕ
refusal_number refusal.NotSecureShell = 1
refusal_number refusal.Password = 2
refusal_number refusal.EmptyUser = 3
refusal_number refusal.ByteZero = 4
refusal_number refusal.OptionLikeUser = 5
refusal_number refusal.NoHost = 6
refusal_number refusal.OptionLikeHost = 7
refusal_number refusal.AtSignInHost = 8
refusal_number refusal.UrlLikeDestination = 9
refusal_number refusal.NoPath = 10
refusal_number refusal.OptionLikePath = 11
refusal_number refusal.EmptyProgram = 12
refusal_number refusal.ByteZeroInProgram = 13
refusal_number refusal.OptionLikeProgram = 14
refusal_number refusal.FamilyOfSimple = 15
refusal_number refusal.PortOfSimple = 16

-- the numbers of a location without a command
abbrev pub refused_numbers : SshRefusal → WordNumbers
refused_numbers why = record { refusal = refusal_number why; git_protocol = 0; words = 0; bytes = 0 }

-- the number of a version
abbrev pub version_number : ProtocolVersion → ℕ
version_number version.V0 = 0
version_number version.V1 = 1
version_number version.V2 = 2

-- the version for the environment variable of a command, or 0
abbrev pub variable_number : Command → ℕ
variable_number c = if is_some (command_variable c) then version_number c.request.version else 0

-- the numbers of a command
abbrev pub word_numbers : Command → WordNumbers
word_numbers c = record {
  refusal = 0;
  git_protocol = variable_number c;
  words = length (command_words c);
  bytes = length (concat (command_words c));
}

-- the words of a command are copied
abbrev pub PutsWords : Command → WordNumbers → List ℕ → List ℕ → List ℕ → List ℕ → ℕ → Type 0
PutsWords c built old new old_lengths new_lengths code = (built ≡ word_numbers c)
    × PutsBoth (concat (command_words c)) (map length (command_words c)) old new old_lengths new_lengths code

-- the location has no command, for this reason
abbrev pub ReportsRefusal : Request → Location → WordNumbers → List ℕ → List ℕ → List ℕ → List ℕ → ℕ → Type 0
ReportsRefusal r v built old new old_lengths new_lengths code = (why : SshRefusal) × (ssh_refusal r v ≡ Some why)
    × (built ≡ refused_numbers why) × (new ≡ old) × (new_lengths ≡ old_lengths) × (code ≡ ok)

-- the command is the location's own, for the request
pub record IsCommandFor (v : Location) (r : Request) (c : Command) : Type 0 where
  pub built : ssh_refusal r v ≡ None
  pub own : IsOwn v c
  pub asked : c.request ≡ r
  pub safe : IsSafeCommand c

-- the words for the location are reported, or why there are none
abbrev pub ReportsWords : Location → Request → WordNumbers → List ℕ → List ℕ → List ℕ → List ℕ → ℕ → Type 0
ReportsWords v r built old new old_lengths new_lengths code = ReportsRefusal r v built old new old_lengths new_lengths code
    ⊎ ((c : Command) × IsCommandFor v r c × PutsWords c built old new old_lengths new_lengths code)
