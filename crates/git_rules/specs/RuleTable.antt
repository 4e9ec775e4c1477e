-- The records of a `Table` about its rules: the ranks of bases, the first base of each front, and the lengths of
-- fronts.
use Rattle.std.specs.Prelude.{◌≡◌, ℕ, ◌≤◌, ◌⊎◌, true, List, ◌∷◌, ◌++◌, Option, Some, None, bytes_eq, length}
use Rattle.std.specs.BTreeMap.{BTreeMap, get_by}
use Rattle.std.specs.BTreeSet.{BTreeSet, contains}
use Rattle.std.specs.Cmp.Lexicographic.{slice_cmp}
use Rattle.std.specs.List.{slice_get}
use Rattle.std.specs.Map.{update}
use Rattle.std.specs.Ordering.{nat_cmp}
use denote.Ref.{Bor}
use Rattle.git_rules.specs.declared.rewrite.table.Kept.{Kept}
use Rattle.git_rules.specs.declared.rewrite.table.Ranked.{Ranked}
use Rattle.git_rules.specs.Rewrites.{Rule, ComesNoLater, IsAmong, LacksBase}

-- the rule that a stored one represents
abbrev pub rule_of : Kept → Rule
rule_of r = record { base = r.base.now; front = r.front.now }

-- the rule at this index has the base
abbrev pub HasBaseAt : List Kept → ℕ → List ℕ → Type 0
HasBaseAt kept at base = (r : Kept) × (slice_get kept at ≡ Some r) × (r.base.now ≡ base)

-- this many rules come before the first with the base
abbrev pub HasRank : List Rule → List ℕ → ℕ → Type 0
HasRank rules base rank = (before : List Rule) × (first : Rule) × (others : List Rule)
    × (rules ≡ before ++ first ∷ others) × (first.base ≡ base) × LacksBase base before
    × (length before ≡ rank)

-- the base has this rank among the rules and one more with it
abbrev pub HasNextRank : List Rule → List ℕ → ℕ → Type 0
HasNextRank rules base rank = HasRank rules base rank ⊎ (LacksBase base rules × (length rules ≡ rank))

-- the record for a text in a map, if any
abbrev pub noted : {X : Type 0} → BTreeMap (Bor (List ℕ)) X → List ℕ → Option X
noted notes text = get_by (λ key. slice_cmp nat_cmp text key.now) notes

-- `after` has this record for the text, and the previous record for every other text
abbrev pub NotesAlso : {X : Type 0} → BTreeMap (Bor (List ℕ)) X → List ℕ → X → BTreeMap (Bor (List ℕ)) X → Type 0
NotesAlso notes text entry after = (other : List ℕ)
    → noted after other ≡ update bytes_eq (noted notes) text (Some entry) other

-- the rank of a base among the rules, if a rule has the base
abbrev pub IsRankIn : List Rule → List ℕ → Option ℕ → Type 0
IsRankIn rules base None = LacksBase base rules
IsRankIn rules base (Some rank) = HasRank rules base rank

-- the record for a base is correct: its rank, unless no rule has the base
abbrev pub IsNoted : List Rule → List ℕ → Option ℕ → Type 0
IsNoted rules base entry = ((rank : ℕ) × (entry ≡ Some rank) × HasRank rules base rank) ⊎ LacksBase base rules

-- the record for each base is correct
abbrev pub NotesRanks : List Rule → BTreeMap (Bor (List ℕ)) ℕ → Type 0
NotesRanks rules ranks = (base : List ℕ) → IsNoted rules base (noted ranks base)

-- no rule of these has the front
abbrev pub LacksFront : List ℕ → List Rule → Type 0
LacksFront front rules = (s : Rule) → IsAmong s rules → ¬ (s.front ≡ front)

-- the rule of a base and a front
abbrev pub rule_with : Ranked → List ℕ → Rule
rule_with b front = record { base = b.base.now; front = front }

-- among the bases of the rules with the front this one comes first, and this is its rank
abbrev pub IsFirstOfFront : List Rule → List ℕ → Ranked → Type 0
IsFirstOfFront rules front b = IsAmong (rule_with b front) rules × HasRank rules b.base.now b.rank
    × ((s : Rule) → IsAmong s rules → s.front ≡ front → ComesNoLater rules b.base.now s.base)

-- the record for a front is correct: the base that comes first, and none if no rule has the front
abbrev pub IsFrontNoted : List Rule → List ℕ → Option Ranked → Type 0
IsFrontNoted rules front None = LacksFront front rules
IsFrontNoted rules front (Some b) = IsFirstOfFront rules front b

-- the record for each front is correct
abbrev pub NotesFronts : List Rule → BTreeMap (Bor (List ℕ)) Ranked → Type 0
NotesFronts rules fronts = (front : List ℕ) → IsFrontNoted rules front (noted fronts front)

-- the base, or the recorded one if its rank is no higher
abbrev pub IsLowerOf : Option Ranked → Ranked → Ranked → Type 0
IsLowerOf None b lower = lower ≡ b
IsLowerOf (Some a) b lower = ((lower ≡ a) × (a.rank ≤ b.rank)) ⊎ ((lower ≡ b) × (b.rank ≤ a.rank))

-- `after` records a base for the front, unless the recorded one has a rank that is no higher
abbrev pub NotesLower : BTreeMap (Bor (List ℕ)) Ranked → List ℕ → Ranked → BTreeMap (Bor (List ℕ)) Ranked → Type 0
NotesLower fronts front b after = (lower : Ranked) × IsLowerOf (noted fronts front) b lower
    × NotesAlso fronts front lower after

-- the length of each front is recorded
abbrev pub NotesLengths : List Rule → BTreeSet ℕ → Type 0
NotesLengths rules lengths = (s : Rule) → IsAmong s rules → contains nat_cmp lengths (length s.front) ≡ true
