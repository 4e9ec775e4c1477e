-- The transports that Git uses, as a program that fetches needs them.
use Rattle.std.specs.Prelude.{◌↔◌, ℕ, Bool, List, None, IsTrue}
use Rattle.git_rules.specs.declared.protocols.Permission.{Permission}
use Rattle.git_rules.specs.Config.{ConfigEntry}
use Rattle.git_rules.specs.Protocols.{Decides, IsAllowed}

-- whether Git uses the transport of this name, by these entries alone and no variable of the environment
abbrev pub DecidesUse : List ConfigEntry → List ℕ → Bool → Type 0
DecidesUse entries name used = (decision : Permission)
    × Decides (record { entries = entries; allow_list = None; from_user = None }) name decision
    × (IsTrue used ↔ IsAllowed decision)
