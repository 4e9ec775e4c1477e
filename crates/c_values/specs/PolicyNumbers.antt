-- Transports as C gets them: the name of one, and whether Git uses it.
use Rattle.std.specs.Prelude.{◌≡◌, ℕ, ◌⊎◌, List}
use Rattle.git_rules.specs.declared.protocols.text.NoTransport.{NoTransport}
use Rattle.git_rules.specs.declared.protocols.text.NoTransport.TheVariants as why
use Rattle.git_rules.specs.declared.protocols.Reason.{Reason}
use Rattle.git_rules.specs.declared.protocols.Reason.TheVariants as reason
use Rattle.git_rules.specs.declared.protocols.Permission.{Permission}
use Rattle.git_rules.specs.declared.protocols.Permission.TheVariants as permission
use Rattle.git_rules.specs.TextTransports.{HasTransport, LacksTransport}
use Rattle.git_rules.specs.Config.{ConfigEntry}
use Rattle.git_rules.specs.Policies.{Policy}
use Rattle.git_rules.specs.Protocols.{Decides}
use Rattle.c_values.specs.declared.rules.policies.PolicyBytes.{PolicyBytes}
use Rattle.c_values.specs.declared.rules.policies.PermissionNumbers.{PermissionNumbers}
use Rattle.c_values.specs.Answers.{PutsText}
use Rattle.c_values.specs.Codes.{ok}
use Rattle.c_values.specs.Input.{present}

-- the number of the reason why a text has no transport
abbrev pub transport_number : NoTransport → ℕ
transport_number why.ByteZero = 1
transport_number why.OptionLike = 2
transport_number why.Rsync = 3
transport_number why.UnknownScheme = 4

-- the name of the text's transport is copied; or there is none, for the reported reason, and nothing is copied
abbrev pub ReportsTransport : List ℕ → List ℕ → List ℕ → ℕ → ℕ → ℕ → Type 0
ReportsTransport t old new len number code =
    ((name : List ℕ) × HasTransport t name × (number ≡ 0) × PutsText name old new len code)
    ⊎ ((reason : NoTransport) × LacksTransport t reason × (number ≡ transport_number reason) × (len ≡ 0)
    × (new ≡ old) × (code ≡ ok))

-- the number of the variable or entry that decides about a transport
abbrev pub decider_number : Reason → ℕ
decider_number reason.AllowList = 1
decider_number (reason.Entry at) = 2
decider_number reason.Default = 3

-- the place of the entry that decides, or 0
abbrev pub reason_place : Reason → ℕ
reason_place (reason.Entry at) = at
reason_place reason.AllowList = 0
reason_place reason.Default = 0

-- the numbers of a permission
abbrev pub permission_numbers : Permission → PermissionNumbers
permission_numbers (permission.Allowed by) = record { decision = 1; by = decider_number by; at = reason_place by }
permission_numbers (permission.Refused by) = record { decision = 2; by = decider_number by; at = reason_place by }
permission_numbers (permission.UnknownAllowance at) = record { decision = 3; by = decider_number (reason.Entry at); at = at }
permission_numbers permission.UnknownFromUser = record { decision = 4; by = 0; at = 0 }

-- the entries and the variables
abbrev pub policy_passed : List ConfigEntry → PolicyBytes → Policy
policy_passed config passed = record {
  entries = config;
  allow_list = present passed.has_allow_list passed.allow_list.now;
  from_user = present passed.has_from_user passed.from_user.now;
}

-- whether Git uses the transport with a name is reported
abbrev pub ReportsPermission : Policy → List ℕ → PermissionNumbers → ℕ → Type 0
ReportsPermission policy name built code =
    (decision : Permission) × Decides policy name decision × (built ≡ permission_numbers decision) × (code ≡ ok)
