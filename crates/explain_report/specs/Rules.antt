-- The report of a configuration's rules: the verdict on a transport, and the settings that Git uses.
use Rattle.std.specs.Prelude.{◌≡◌, ◌↔◌, ◌⊎◌, ℕ, Bool, true, false, IsTrue, if◌then◌else◌, not, ◌&&◌, All, List, [], Option, Some, None, codes}
use Rattle.std.specs.Option.{option_and_then}
use Rattle.git_syntax.specs.Bytes.{begins_with, slash}
use Rattle.git_rules.specs.Config.{ConfigEntry, is_of_section}
use Rattle.git_rules.specs.Normal.{NormalPlace}
use Rattle.git_rules.specs.Policies.{Policy}
use Rattle.git_rules.specs.Protocols.{Decides, IsAllowed}
use Rattle.git_rules.specs.SameHost.{HaveSameHost}
use Rattle.git_rules.specs.Settings.{AreSettings, RefusesSettings}
use Rattle.git_rules.specs.TextTransports.{HasTransport, LacksTransport}
use Rattle.git_rules.specs.declared.pattern.settings.SettingsError.{SettingsError}
use Rattle.git_rules.specs.declared.pattern.settings.SettingsError.TheVariants.{Memory}
use Rattle.git_rules.specs.declared.protocols.Reason.{Reason}
use Rattle.git_rules.specs.declared.protocols.Reason.TheVariants as reason
use Rattle.git_rules.specs.declared.protocols.Permission.{Permission}
use Rattle.git_rules.specs.declared.protocols.text.NoTransport.{NoTransport}
use Rattle.git_rules.specs.declared.protocols.Permission.TheVariants as permission
use Rattle.gix_url.specs.Location.{Location}
use Rattle.explain_report.specs.Marks.{is_empty}
use Rattle.explain_report.specs.declared.rules.transports.Verdict.{Verdict}
use Rattle.explain_report.specs.declared.rules.transports.Verdict.TheVariants as verdict

-- the reported verdict of a permission
abbrev pub verdict_of : Permission → Verdict
verdict_of (permission.Allowed by) = verdict.Allowed
verdict_of (permission.Refused by) = verdict.Refused
verdict_of (permission.UnknownAllowance at) = verdict.UnknownAllowance
verdict_of permission.UnknownFromUser = verdict.UnknownFromUser

-- the offset of the entry that a reason names, if it names one
abbrev pub place_in : Reason → Option ℕ
place_in reason.AllowList = None
place_in (reason.Entry at) = Some at
place_in reason.Default = None

-- the offset of the entry that decides, if an entry does
abbrev pub place_of : Permission → Option ℕ
place_of (permission.Allowed by) = place_in by
place_of (permission.Refused by) = place_in by
place_of (permission.UnknownAllowance at) = Some at
place_of permission.UnknownFromUser = None

-- the offset of an entry that begins there; none only if there is no offset or no entry begins there
abbrev pub IsEntryAt : List ConfigEntry → Option ℕ → Option ℕ → Type 0
IsEntryAt entries None r = r ≡ None
IsEntryAt entries (Some place) None = All (λ e. ¬ (e.at ≡ place)) entries
IsEntryAt entries (Some place) (Some at) = at ≡ place

-- the variable that contains the list, if the list decides
abbrev pub list_variable : Reason → Option (List ℕ)
list_variable reason.AllowList = Some (codes "GIT_ALLOW_PROTOCOL")
list_variable (reason.Entry at) = None
list_variable reason.Default = None

-- whether Git uses the transport with this name
abbrev pub IsUsed : Policy → List ℕ → Bool → Type 0
IsUsed policy name b = (p : Permission) × Decides policy name p × (IsTrue b ↔ IsAllowed p)

-- whether Git has a transport for the text, and uses it
abbrev pub HasUsedTransport : Policy → List ℕ → Bool → Type 0
HasUsedTransport policy text b = ((name : List ℕ) × HasTransport text name × IsUsed policy name b)
    ⊎ ((why : NoTransport) × LacksTransport text why × (b ≡ false))

-- whether the configuration without the variables allows the transport to users
abbrev pub IsAllowedToUsers : Policy → List ℕ → Bool → Type 0
IsAllowedToUsers policy name b = IsUsed (record policy { allow_list = None; from_user = None }) name b

-- the other variable, if the transport is allowed without it
abbrev pub user_variable : Bool → Option (List ℕ)
user_variable true = Some (codes "GIT_PROTOCOL_FROM_USER")
user_variable false = None

-- the variable by which the transport is refused for this reason
abbrev pub IsRefusing : Policy → List ℕ → Reason → Option (List ℕ) → Type 0
IsRefusing policy name reason.AllowList r = r ≡ Some (codes "GIT_ALLOW_PROTOCOL")
IsRefusing policy name (reason.Entry at) r = (b : Bool) × IsAllowedToUsers policy name b × (r ≡ user_variable b)
IsRefusing policy name reason.Default r = (b : Bool) × IsAllowedToUsers policy name b × (r ≡ user_variable b)

-- the variable that decides, if one does: without it the permission is different
abbrev pub IsVariableOf : Policy → List ℕ → Permission → Option (List ℕ) → Type 0
IsVariableOf policy name (permission.Allowed by) r = r ≡ list_variable by
IsVariableOf policy name (permission.Refused by) r = IsRefusing policy name by r
IsVariableOf policy name (permission.UnknownAllowance at) r = r ≡ None
IsVariableOf policy name permission.UnknownFromUser r = r ≡ Some (codes "GIT_PROTOCOL_FROM_USER")

-- the verdict of Git on the transport with this name, and the variable and the offset of the entry that decide
pub record ReportsPermission (policy : Policy) (name : List ℕ) (v : Verdict) (variable : Option (List ℕ))
    (entry : Option ℕ) : Type 0 where
  pub permission : Permission
  pub decides : Decides policy name permission
  pub verdict : v ≡ verdict_of permission
  pub by_variable : IsVariableOf policy name permission variable
  pub by_entry : IsEntryAt policy.entries (place_of permission) entry

-- the indices are those of the entries of a name of `http.*` that Git uses for the place, or for a text without a
-- place; there are none if Git stops at one of the entries, or if the buffer is too short for a URL
abbrev pub AreShown : List ℕ → Option NormalPlace → ℕ → List ConfigEntry → List ℕ → Type 0
AreShown name place buffer entries found = AreSettings name place entries found
    ⊎ ((found ≡ []) × (error : SettingsError) × (¬ (error ≡ Memory)) × RefusesSettings name place buffer entries error)

-- whether both name the same host, if both are locations
abbrev pub SaysSameHost : Option Location → Option Location → Option Bool → Type 0
SaysSameHost None goal same = same ≡ None
SaysSameHost (Some line) None same = same ≡ None
SaysSameHost (Some line) (Some goal) None = ⊥
SaysSameHost (Some line) (Some goal) (Some same) = IsTrue same ↔ HaveSameHost line goal

-- the name of the remote that an entry configures, if it configures one; it isn't empty and doesn't begin with `/`
abbrev pub remote_name : ConfigEntry → Option (List ℕ)
remote_name e = option_and_then (λ name. if is_of_section (codes "remote") e && (not (is_empty name) && not (begins_with slash name)) then Some name else None) e.subsection
