-- The laws on the settings of Git's credential code.
use Rattle.std.specs.Prelude.{◌≡◌, ℕ, List, Contains}
use Rattle.git_reads.specs.Credentials.{CredentialReading}
use Rattle.git_rules.specs.Config.{ConfigEntry}
use Rattle.git_rules.specs.CredentialEntries.{AppliesAt, CredentialUse}
use Rattle.git_rules.specs.Credentials.{AreCredentials}

-- a request and entries determine the settings
abbrev pub OneUse : Type 0
OneUse = (r : CredentialReading) (entries : List ConfigEntry) (a b : CredentialUse)
    → AreCredentials r entries a → AreCredentials r entries b → a ≡ b

-- each helper is an entry that applies
abbrev pub HelpersApply : Type 0
HelpersApply = (r : CredentialReading) (entries : List ConfigEntry) (used : CredentialUse) (i : ℕ)
    → AreCredentials r entries used → Contains used.helpers i → (e : ConfigEntry) × AppliesAt r entries i e
