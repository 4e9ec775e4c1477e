-- Locations that a configuration rewrites: which rule wins, and the resulting text.
use Rattle.std.specs.Prelude.{◌≡◌, ℕ, ◌<◌, ◌⊎◌, Bool, true, false, List, [], ◌∷◌, ◌++◌, Option, Some, None, length, unwrap_or}

-- a rule: a text that begins with its front is rewritten to begin with its base
pub record Rule : Type 0 where
  pub base : List ℕ
  pub front : List ℕ

-- the rules for fetching and those for pushing, each in the order of the configuration
pub record Rules : Type 0 where
  pub fetching : List Rule
  pub pushing : List Rule

-- the outcome of rewriting a text: a base, if a rule wins, and the text after that rule's front
pub record Outcome : Type 0 where
  pub base : Option (List ℕ)
  pub rest : List ℕ

-- no rules
abbrev pub no_rules : Rules
no_rules = record { fetching = []; pushing = [] }

-- the rules with one more for fetching, appended
abbrev pub with_fetching : Rules → Rule → Rules
with_fetching rules r = record rules { fetching = rules.fetching ++ r ∷ [] }

-- the rules with one more for pushing, appended
abbrev pub with_pushing : Rules → Rule → Rules
with_pushing rules r = record rules { pushing = rules.pushing ++ r ∷ [] }

-- the text of an outcome
abbrev pub outcome_text : Outcome → List ℕ
outcome_text o = unwrap_or o.base [] ++ o.rest

-- the rule is one of these
abbrev pub IsAmong : Rule → List Rule → Type 0
IsAmong r [] = ⊥
IsAmong r (first ∷ others) = (r ≡ first) ⊎ IsAmong r others

-- no rule of these has the base
abbrev pub LacksBase : List ℕ → List Rule → Type 0
LacksBase base [] = Unit {0}
LacksBase base (first ∷ others) = (¬ (first.base ≡ base)) × LacksBase base others

-- the text begins with the rule's front
abbrev pub Applies : List ℕ → Rule → Type 0
Applies text r = (rest : List ℕ) × (text ≡ r.front ++ rest)

-- base `a` comes first no later than base `b`: no rule before the first with `a` has `b`
abbrev pub ComesNoLater : List Rule → List ℕ → List ℕ → Type 0
ComesNoLater rules a b = (before : List Rule) × (first : Rule) × (others : List Rule)
    × (rules ≡ before ++ first ∷ others) × (first.base ≡ a) × LacksBase b before

-- the rule is preferred to another: its front is longer, or equally long and its base comes no later
abbrev pub IsPreferred : List Rule → Rule → Rule → Type 0
IsPreferred rules r s = (length s.front < length r.front)
    ⊎ ((length s.front ≡ length r.front) × ComesNoLater rules r.base s.base)

-- the rule wins: it applies to the text, and is preferred to every rule that applies
abbrev pub Wins : List Rule → List ℕ → Rule → Type 0
Wins rules text r = IsAmong r rules × Applies text r
    × ((s : Rule) → IsAmong s rules → Applies text s → IsPreferred rules r s)

-- no rule applies to the text
abbrev pub NoneApplies : List Rule → List ℕ → Type 0
NoneApplies rules text = (r : Rule) → IsAmong r rules → ¬ Applies text r

-- the outcome for a text: the text itself if no rule applies, otherwise the base of the rule that wins instead of
-- its front
abbrev pub IsRewritten : List Rule → List ℕ → Outcome → Type 0
IsRewritten rules text o = ((o.base ≡ None) × (o.rest ≡ text) × NoneApplies rules text)
    ⊎ ((r : Rule) × Wins rules text r × (o.base ≡ Some r.base) × (text ≡ r.front ++ o.rest))

-- the outcome for a text that Git pushes to. A push URL is rewritten as for fetching; a URL is rewritten by the
-- rules for pushing if one applies, otherwise as for fetching
abbrev pub IsRewrittenToPush : Rules → Bool → List ℕ → Outcome → Type 0
IsRewrittenToPush rules true text o = IsRewritten rules.fetching text o
IsRewrittenToPush rules false text o = ((¬ NoneApplies rules.pushing text) × IsRewritten rules.pushing text o)
    ⊎ (NoneApplies rules.pushing text × IsRewritten rules.fetching text o)
