-- The settings of Git's credential code in a configuration, for C.
use Rattle.std.specs.Prelude.{◌≡◌, ℕ, ◌⊎◌, true, false, List, length}
use Rattle.git_reads.specs.Credentials.{CredentialReading, CredentialReads}
use Rattle.git_rules.specs.Config.{ConfigEntry}
use Rattle.git_rules.specs.CredentialEntries.{CredentialUse}
use Rattle.git_rules.specs.Credentials.{AreCredentials, StopsFirst}
use Rattle.git_rules.specs.declared.credentials.CredentialsError.TheVariants.{NoBoolean, NoValue}
use Rattle.c_values.specs.declared.rules.credentials.CredentialNumbers.{CredentialNumbers}
use Rattle.c_values.specs.declared.rules.stops.Stop.{Stop}
use Rattle.c_values.specs.Codes.{ok}
use Rattle.c_values.specs.Output.{PutsBoth, is_there, or_nothing}
use Rattle.c_values.specs.ReadingNumbers.{LacksRequest}
use Rattle.c_values.specs.Stops.{StopsAt, no_boolean, no_stop, no_value}

-- the numbers of the settings that Git uses
abbrev pub credential_numbers : CredentialUse → CredentialNumbers
credential_numbers used = record {
  is_read = true;
  has_user = is_there used.user;
  use_http_path = used.use_http_path;
  helpers = length used.helpers;
  user = length (or_nothing used.user);
}

-- the numbers of a text in which Git's credential code reads nothing
abbrev pub no_credentials : CredentialNumbers
no_credentials = record { is_read = false; has_user = false; use_http_path = false; helpers = 0; user = 0 }

-- the settings that Git uses are copied
abbrev pub PutsCredentials : CredentialUse → CredentialNumbers → List ℕ → List ℕ → List ℕ → List ℕ → ℕ → Type 0
PutsCredentials used built old new old_indices new_indices code = (built ≡ credential_numbers used)
    × PutsBoth (or_nothing used.user) used.helpers old new old_indices new_indices code

-- Git stops at the first entry that applies and has no value, or no boolean value; that entry is reported
abbrev pub StopsFor : CredentialReading → List ConfigEntry → Stop → ℕ → Type 0
StopsFor r entries stop code =
    ((at : ℕ) × StopsFirst r entries (NoValue at) × StopsAt no_value at stop code)
    ⊎ ((at : ℕ) × StopsFirst r entries (NoBoolean at) × StopsAt no_boolean at stop code)

-- the settings that Git uses for a request are reported, or the entry at which it stops
abbrev pub FindsCredentials : CredentialReading → List ConfigEntry → CredentialNumbers → List ℕ → List ℕ → List ℕ → List ℕ → Stop → ℕ → Type 0
FindsCredentials r entries built old new old_indices new_indices stop code = StopsFor r entries stop code
    ⊎ ((used : CredentialUse) × AreCredentials r entries used × (stop ≡ no_stop)
    × PutsCredentials used built old new old_indices new_indices code)

-- the settings that Git uses for a text are reported, or that its credential code reads no request in it
abbrev pub ReportsCredentials : List ConfigEntry → List ℕ → CredentialNumbers → List ℕ → List ℕ → List ℕ → List ℕ → Stop → ℕ → Type 0
ReportsCredentials entries text built old new old_indices new_indices stop code =
    (LacksRequest text × (built ≡ no_credentials) × (new ≡ old) × (new_indices ≡ old_indices) × (stop ≡ no_stop)
    × (code ≡ ok))
    ⊎ ((r : CredentialReading) × CredentialReads text r
    × FindsCredentials r entries built old new old_indices new_indices stop code)
