-- The version of Git's protocol that a configuration sets.
use Rattle.std.specs.Prelude.{ℕ, Bool, bytes_eq, codes, if◌then◌else◌, List, Option, Some, None, option_and_then, Result, Ok, ok_or}
use Rattle.git_rules.specs.Config.{ConfigEntry}
use Rattle.git_rules.specs.SshPrograms.{is_setting, last_setting}
use Rattle.git_rules.specs.declared.ssh.ProtocolVersion.{ProtocolVersion}
use Rattle.git_rules.specs.declared.ssh.ProtocolVersion.TheVariants.{V0, V1, V2}

-- the version of this name, if there is one
abbrev pub version_named : List ℕ → Option ProtocolVersion
version_named name = if bytes_eq name (codes "0") then Some V0
    else (if bytes_eq name (codes "1") then Some V1
    else (if bytes_eq name (codes "2") then Some V2 else None))

-- the version that an entry sets, or the offset of the entry if its value isn't the name of a version
abbrev pub version_by : Option ConfigEntry → Result ProtocolVersion ℕ
version_by None = Ok V2
version_by (Some entry) = ok_or (option_and_then version_named entry.value) entry.at

-- the key of the entry is `protocol.version`, without a subsection
abbrev pub is_version : ConfigEntry → Bool
is_version entry = is_setting (codes "protocol") (codes "version") entry

-- the last entry of `protocol.version`
abbrev pub last_version : List ConfigEntry → Option ConfigEntry
last_version entries = last_setting (codes "protocol") (codes "version") entries

-- the version that the last entry of `protocol.version` sets, or version 2 without such an entry
abbrev pub version_of : List ConfigEntry → Result ProtocolVersion ℕ
version_of entries = version_by (last_version entries)
