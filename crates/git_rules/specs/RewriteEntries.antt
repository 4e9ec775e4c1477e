-- The rules of a configuration.
use Rattle.std.specs.Prelude.{◌≡◌, ℕ, true, ◌⊎◌, if◌then◌else◌, List, [], ◌∷◌, ◌++◌, Option, Some, None, codes}
use Rattle.git_rules.specs.Config.{ConfigEntry, sets}
use Rattle.git_rules.specs.Rewrites.{Rule, Rules}

-- the name of rules for fetching
abbrev pub instead_of : List ℕ
instead_of = codes "insteadof"

-- the name of rules for pushing
abbrev pub push_instead_of : List ℕ
push_instead_of = codes "pushinsteadof"

-- the section of rules
abbrev pub url_section : List ℕ
url_section = codes "url"

-- the rule of a base and a front; none if one of them is missing
abbrev pub rule_between : Option (List ℕ) → Option (List ℕ) → List Rule
rule_between (Some base) (Some front) = record { base = base; front = front } ∷ []
rule_between (Some base) None = []
rule_between None front = []

-- the rule of an entry with this name: its subsection is the base, and its value the front
abbrev pub entry_rule : List ℕ → ConfigEntry → List Rule
entry_rule name e = if sets url_section name e then rule_between e.subsection e.value else []

-- the rules of entries with this name, in their order
abbrev pub rules_named : List ℕ → List ConfigEntry → List Rule
rules_named name [] = []
rules_named name (e ∷ entries) = entry_rule name e ++ rules_named name entries

-- the rules of a configuration
abbrev pub rules_of : List ConfigEntry → Rules
rules_of entries = record {
  fetching = rules_named instead_of entries;
  pushing = rules_named push_instead_of entries;
}

-- the rules, with those of an entry appended
abbrev pub with_entry : Rules → ConfigEntry → Rules
with_entry rules e = record {
  fetching = rules.fetching ++ entry_rule instead_of e;
  pushing = rules.pushing ++ entry_rule push_instead_of e;
}

-- the entry has a base and one of the two names, and no value: Git stops there
abbrev pub LacksValue : ConfigEntry → Type 0
LacksValue e = ((sets url_section instead_of e ≡ true) ⊎ (sets url_section push_instead_of e ≡ true))
    × ((base : List ℕ) × (e.subsection ≡ Some base)) × (e.value ≡ None)

-- the entry is a rule with a value: it has a base, one of the two names, and a front
abbrev pub HasRule : ConfigEntry → Type 0
HasRule e = ((sets url_section instead_of e ≡ true) ⊎ (sets url_section push_instead_of e ≡ true))
    × ((base : List ℕ) × (e.subsection ≡ Some base)) × ((front : List ℕ) × (e.value ≡ Some front))

-- no entry lacks a value
abbrev pub AllHaveValues : List ConfigEntry → Type 0
AllHaveValues [] = Unit {0}
AllHaveValues (e ∷ entries) = (¬ LacksValue e) × AllHaveValues entries

-- the first entry that lacks a value begins at this byte
abbrev pub FirstLacks : List ConfigEntry → ℕ → Type 0
FirstLacks entries at = (before : List ConfigEntry) × (e : ConfigEntry) × (others : List ConfigEntry)
    × (entries ≡ before ++ e ∷ others) × AllHaveValues before × LacksValue e × (at ≡ e.at)

-- an entry is a rule with a value, and no entry before it lacks one
abbrev pub ReachesRule : List ConfigEntry → Type 0
ReachesRule entries = (before : List ConfigEntry) × (e : ConfigEntry) × (others : List ConfigEntry)
    × (entries ≡ before ++ e ∷ others) × AllHaveValues before × HasRule e
