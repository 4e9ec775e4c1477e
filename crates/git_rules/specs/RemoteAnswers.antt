-- The errors of reading a remote.
use Rattle.std.specs.Prelude.{List, Result, Ok, Err}
use Rattle.git_rules.specs.Config.{ConfigEntry}
use Rattle.git_rules.specs.Remotes.{HaveValues, LacksFirst}
use Rattle.git_rules.specs.declared.remote.RemoteError.{RemoteError}
use Rattle.git_rules.specs.declared.remote.RemoteError.TheVariants.{Memory, NoValue}

-- the error of a remote: `NoValue` has the byte offset of the first entry that lacks a value; `Memory` is returned
-- only if no entry lacks one
abbrev pub RefusesRemote : List ConfigEntry → RemoteError → Type 0
RefusesRemote entries Memory = HaveValues entries
RefusesRemote entries (NoValue at) = LacksFirst entries at

-- no entry lacks a value, or the first one that does is reported
abbrev pub ChecksValues : List ConfigEntry → Result (Unit {0}) RemoteError → Type 0
ChecksValues entries (Ok done) = HaveValues entries
ChecksValues entries (Err Memory) = ⊥
ChecksValues entries (Err (NoValue at)) = LacksFirst entries at
