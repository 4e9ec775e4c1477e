-- The settings that decide which transports may be used, as plain values.
use Rattle.std.specs.Prelude.{ℕ, List, Option}
use Rattle.git_rules.specs.Config.{ConfigEntry}

-- the entries of the configuration in their order, and the values of `GIT_ALLOW_PROTOCOL` and
-- `GIT_PROTOCOL_FROM_USER`, if they are set
pub record Policy : Type 0 where
  pub entries : List ConfigEntry
  pub allow_list : Option (List ℕ)
  pub from_user : Option (List ℕ)
