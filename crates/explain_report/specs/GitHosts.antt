-- The host that Git connects to for a line.
use Rattle.std.specs.Prelude.{◌≡◌, ◌⊎◌, ◌||◌, ◌==◌, ⊤, ℕ, Bool, if◌then◌else◌, codes, List, Option, Some, None, option_map}
use Rattle.std.specs.List.{list_any}
use Rattle.std.specs.Str.{chars}
use Rattle.bstr.specs.Owned.{bstring_bytes}
use Rattle.git_audit.specs.Dangers.{has_front}
use Rattle.git_reads.specs.declared.transport.Protocol.{Protocol}
use Rattle.git_reads.specs.declared.transport.Protocol.TheVariants as protocol
use Rattle.git_reads.specs.declared.transport.GitPlace.{GitPlace}
use Rattle.git_reads.specs.Git.{GitReads}
use Rattle.git_reads.specs.Unread.{LacksReading}
use Rattle.git_reads.specs.Views.{git_reading}
use Rattle.git_rules.specs.SameHost.{host_name}
use Rattle.explain_report.specs.declared.readers.git_host.GitHost.{GitHost}
use Rattle.explain_report.specs.declared.readers.git_host.GitHost.TheVariants as host

-- what Git does with a line: it opens a local path, connects to the host of a name, or neither is known
pub data Target : Type 0 where
  path : Target
  named : List ℕ → Target
  unknown : Target

-- the view of a `GitHost`
abbrev pub target : GitHost → Target
target host.Local = path
target (host.Named name) = named (bstring_bytes name)
target host.Unknown = unknown

-- the host of this name, if there is a name
abbrev pub named_target : Option (List ℕ) → Target
named_target None = unknown
named_target (Some name) = named name

-- U+FFFD is in the text
abbrev pub has_replacement : List ℕ → Bool
has_replacement text = list_any (λ c. c == 0xFFFD) (chars text)

-- the host of a name that curl reads, unless U+FFFD replaces bytes in it that aren't valid text
abbrev pub text_target : List ℕ → Target
text_target name = if has_replacement name then unknown else named name

-- Git passes the line to curl
abbrev pub is_for_curl : List ℕ → Bool
is_for_curl line = has_front line (codes "http://") || has_front line (codes "https://")

-- the target of this transport and this host: a file is a local path
abbrev pub target_by : Protocol → Option (List ℕ) → Target
target_by protocol.File name = path
target_by protocol.Ssh name = named_target name
target_by protocol.Git name = named_target name

-- the target of a place that Git reads
abbrev pub target_of : GitPlace → Target
target_of place = target_by place.protocol (option_map (λ name. name.now) place.host)

-- Git reads a place in the line, and this is its target; or Git reads no place in it, and the target isn't known
abbrev pub IsTargetOf : List ℕ → Target → Type 0
IsTargetOf line found = ((place : GitPlace) × GitReads line (git_reading place) × (found ≡ target_of place))
    ⊎ (LacksReading line × (found ≡ unknown))

-- the target is the host of this name, as names of hosts are compared; without a name it is a local path
abbrev pub IsTarget : Option (List ℕ) → Target → Type 0
IsTarget None path = ⊤
IsTarget None (named found) = ⊥
IsTarget None unknown = ⊥
IsTarget (Some name) path = ⊥
IsTarget (Some name) (named found) = host_name found ≡ host_name name
IsTarget (Some name) unknown = ⊥
