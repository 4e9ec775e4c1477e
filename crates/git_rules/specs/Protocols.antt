-- Which transports may be used: by the configuration, two environment variables and Git's defaults.
use Rattle.std.specs.Prelude.{◌≡◌, ◌↔◌, ℕ, Bool, true, false, ◌||◌, ◌==◌, ◌⊎◌, bytes_eq, codes, List, ◌∷◌, ◌++◌, Option, Some, None, All, if◌then◌else◌}
use Rattle.std.specs.List.{list_any, slice_split}
use Rattle.git_syntax.specs.Bytes.{colon}
use Rattle.git_rules.specs.Config.{ConfigEntry, of_section, sets}
use Rattle.git_rules.specs.Booleans.{boolean_of}
use Rattle.git_rules.specs.Words.{is_word}
use Rattle.git_rules.specs.declared.protocols.Allowance.{Allowance}
use Rattle.git_rules.specs.declared.protocols.Allowance.TheVariants as allowance
use Rattle.git_rules.specs.declared.protocols.Reason.{Reason}
use Rattle.git_rules.specs.declared.protocols.Reason.TheVariants as reason
use Rattle.git_rules.specs.declared.protocols.Permission.{Permission}
use Rattle.git_rules.specs.declared.protocols.Permission.TheVariants as permission
use Rattle.git_rules.specs.Policies.{Policy}

-- the key of the entry is `protocol.allow`, or with a name `protocol.<name>.allow`
abbrev pub SetsAllow : Option (List ℕ) → ConfigEntry → Type 0
SetsAllow name e = (sets (codes "protocol") (codes "allow") e ≡ true) × (e.subsection ≡ name)

-- the last entry that has the property, or that no entry has it
abbrev pub IsLastOf : (ConfigEntry → Type 0) → List ConfigEntry → Option ConfigEntry → Type 0
IsLastOf P entries None = All (λ e. ¬ P e) entries
IsLastOf P entries (Some last) = (before : List ConfigEntry) × (after : List ConfigEntry)
    × (entries ≡ before ++ last ∷ after) × P last × All (λ e. ¬ P e) after

-- the entry that decides about a transport: the last one of its own, or else the last one of all transports
abbrev pub Counts : List ConfigEntry → List ℕ → Option ConfigEntry → Type 0
Counts entries name None =
    IsLastOf (SetsAllow (Some name)) entries None × IsLastOf (SetsAllow None) entries None
Counts entries name (Some e) = IsLastOf (SetsAllow (Some name)) entries (Some e)
    ⊎ (IsLastOf (SetsAllow (Some name)) entries None × IsLastOf (SetsAllow None) entries (Some e))

-- the name is in the list, whose names are separated by colons
abbrev pub is_listed : List ℕ → List ℕ → Bool
is_listed list name = list_any (λ piece. bytes_eq piece name) (slice_split (λ b. b == colon) list)

-- the allowance that the value of an entry spells, if Git can read it
abbrev pub allowance_of : Option (List ℕ) → Option Allowance
allowance_of None = None
allowance_of (Some text) = if is_word text (codes "always") then Some allowance.Always
    else (if is_word text (codes "user") then Some allowance.User
    else (if is_word text (codes "never") then Some allowance.Never else None))

-- the transports that are allowed if nothing is configured
abbrev pub is_trusted : List ℕ → Bool
is_trusted name = bytes_eq name (codes "http") || (bytes_eq name (codes "https")
    || (bytes_eq name (codes "git") || bytes_eq name (codes "ssh")))

-- the allowance if nothing is configured
abbrev pub default_allowance : List ℕ → Allowance
default_allowance name = if is_trusted name then allowance.Always
    else (if bytes_eq name (codes "ext") then allowance.Never else allowance.User)

-- the location comes from the user, by the value of `GIT_PROTOCOL_FROM_USER`, if Git can read it
abbrev pub is_from_user : Option (List ℕ) → Option Bool
is_from_user None = Some true
is_from_user (Some text) = boolean_of text

-- the decision by a test; it has no result if Git can't read the value
abbrev pub by_test : Reason → Option Bool → Permission
by_test by (Some true) = permission.Allowed by
by_test by (Some false) = permission.Refused by
by_test by None = permission.UnknownFromUser

-- the decision by an allowance
abbrev pub under : Allowance → Reason → Option (List ℕ) → Permission
under allowance.Always by from_user = permission.Allowed by
under allowance.User by from_user = by_test by (is_from_user from_user)
under allowance.Never by from_user = permission.Refused by

-- the decision by the allowance of the entry at this byte offset
abbrev pub by_value : Option Allowance → ℕ → Option (List ℕ) → Permission
by_value None at from_user = permission.UnknownAllowance at
by_value (Some allowance) at from_user = under allowance (reason.Entry at) from_user

-- the decision by the entry that decides, or else by default
abbrev pub by_entry : List ℕ → Option ConfigEntry → Option (List ℕ) → Permission
by_entry name None from_user = under (default_allowance name) reason.Default from_user
by_entry name (Some e) from_user = by_value (allowance_of e.value) e.at from_user

-- the decision by the list alone
abbrev pub by_list : List ℕ → List ℕ → Permission
by_list list name = by_test reason.AllowList (Some (is_listed list name))

-- the decision by the list if there is one, otherwise by the entry that decides
abbrev pub DecidesBy : Option (List ℕ) → Policy → List ℕ → Permission → Type 0
DecidesBy (Some list) policy name r = r ≡ by_list list name
DecidesBy None policy name r = (chosen : Option ConfigEntry)
    × Counts policy.entries name chosen × (r ≡ by_entry name chosen policy.from_user)

-- Git's decision about the transport of this name
abbrev pub Decides : Policy → List ℕ → Permission → Type 0
Decides policy name r = DecidesBy policy.allow_list policy name r

-- the decision is that Git uses the transport
abbrev pub IsAllowed : Permission → Type 0
IsAllowed r = (by : Reason) × (r ≡ permission.Allowed by)

-- the policy with only the entries of the section `protocol`
abbrev pub of_protocol : Policy → Policy
of_protocol policy = record policy { entries = of_section (codes "protocol") policy.entries }

-- Git's decision about a transport is the same with the entries of the section `protocol` alone as with all entries
abbrev pub SectionDecides : Type 0
SectionDecides = (policy : Policy) (name : List ℕ) (r : Permission)
    → (Decides policy name r ↔ Decides (of_protocol policy) name r)

-- Git's decision about a transport is unique
abbrev pub OnePermission : Type 0
OnePermission = (policy : Policy) (name : List ℕ) (r s : Permission)
    → Decides policy name r → Decides policy name s → r ≡ s
