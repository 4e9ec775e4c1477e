-- Patterns of places, and the best match.
use Rattle.std.specs.Prelude.{◌≡◌, ℕ, ◌+◌, ◌<◌, ◌==◌, ◌⊎◌, List, [], ◌∷◌, ◌++◌, length, All, Option, Some, None, is_some, if◌then◌else◌}
use Rattle.git_syntax.specs.Bytes.{dot, slash}
use Rattle.git_rules.specs.declared.pattern.Rank.{Rank}
use Rattle.git_rules.specs.Normal.{NormalPlace, asterisk}

-- ---- hosts

-- adds the byte to the front of the first label, or makes it the first label if there is none
abbrev pub in_first_label : ℕ → List (List ℕ) → List (List ℕ)
in_first_label b [] = (b ∷ []) ∷ []
in_first_label b (label ∷ labels) = (b ∷ label) ∷ labels

-- the labels of a host: each ends at a `.` or at the end of the host. So `a.b` and `a.b.` have the same two, and
-- `a..b` has an empty one in the middle
abbrev pub labels_of : List ℕ → List (List ℕ)
labels_of [] = []
labels_of (b ∷ bs) = if b == dot then [] ∷ labels_of bs else in_first_label b (labels_of bs)

-- a label of a pattern matches a label: `*` matches any, even an empty one, and each other only itself
abbrev pub MatchesLabel : List ℕ → List ℕ → Type 0
MatchesLabel wanted label = (wanted ≡ asterisk ∷ []) ⊎ (wanted ≡ label)

-- the labels match one by one, and there are equally many
abbrev pub MatchesLabels : List (List ℕ) → List (List ℕ) → Type 0
MatchesLabels [] [] = Unit {0}
MatchesLabels (wanted ∷ more) (label ∷ labels) = MatchesLabel wanted label
    × MatchesLabels more labels
MatchesLabels _ _ = ⊥

-- the host of a pattern matches the host, label by label
abbrev pub MatchesHost : List ℕ → List ℕ → Type 0
MatchesHost pattern host = MatchesLabels (labels_of pattern) (labels_of host)

-- ---- users and paths

-- a pattern without a user matches every user; otherwise the place has that user
abbrev pub MatchesUser : Option (List ℕ) → Option (List ℕ) → Type 0
MatchesUser None user = Unit {0}
MatchesUser (Some wanted) user = user ≡ Some wanted

-- the path without one trailing `/`
abbrev pub without_last_slash : List ℕ → List ℕ
without_last_slash [] = []
without_last_slash (b ∷ []) = if b == slash then [] else b ∷ []
without_last_slash (b ∷ c ∷ bs) = b ∷ without_last_slash (c ∷ bs)

-- the path equals `front`, or continues it with a `/`
abbrev pub IsBelow : List ℕ → List ℕ → Type 0
IsBelow front path = (path ≡ front) ⊎ ((rest : List ℕ) × (path ≡ front ++ slash ∷ rest))

-- the path of a pattern matches the path itself and the paths below it
abbrev pub MatchesPath : List ℕ → List ℕ → Type 0
MatchesPath pattern path = IsBelow (without_last_slash pattern) path

-- ---- patterns

-- the pattern matches the place
pub record Matches (pattern place : NormalPlace) : Type 0 where
  pub scheme : place.scheme ≡ pattern.scheme
  pub port : place.port ≡ pattern.port
  pub user : MatchesUser pattern.user place.user
  pub host : MatchesHost pattern.host place.host
  pub path : MatchesPath pattern.path place.path

-- ---- the best

-- a shorter host; with equal hosts a shorter path; if these are equal too, no user though the other has one
abbrev pub IsLower : Rank → Rank → Type 0
IsLower a b = (a.host < b.host)
    ⊎ ((a.host ≡ b.host) × ((a.path < b.path) ⊎ ((a.path ≡ b.path) × (a.user < b.user))))

-- the rank of a pattern
abbrev pub rank_of : NormalPlace → Rank
rank_of pattern = record {
  host = length pattern.host;
  path = length (without_last_slash pattern.path) + 1;
  user = if is_some pattern.user then 1 else 0;
}

-- an item has no rank
abbrev pub HasNoRank : {T : Type 0} → (T → Rank → Type 0) → T → Type 0
HasNoRank Ranks t = (k : Rank) → ¬ Ranks t k

-- the only rank of an item, or that it has none
abbrev pub HasRank : {T : Type 0} → (T → Rank → Type 0) → T → Option Rank → Type 0
HasRank Ranks t None = HasNoRank Ranks t
HasRank Ranks t (Some rank) = Ranks t rank × ((k : Rank) → Ranks t k → k ≡ rank)

-- an item has no higher rank than this
abbrev pub RanksNoHigher : {T : Type 0} → (T → Rank → Type 0) → Rank → T → Type 0
RanksNoHigher Ranks rank t = (k : Rank) → Ranks t k → ¬ IsLower rank k

-- an item has only lower ranks than this
abbrev pub RanksLower : {T : Type 0} → (T → Rank → Type 0) → Rank → T → Type 0
RanksLower Ranks rank t = (k : Rank) → Ranks t k → IsLower k rank

-- the item at this index is the best of those that have a rank: no earlier item has a higher one, and each later
-- item a lower one
pub record IsBestAt {T : Type 0} (Ranks : T → Rank → Type 0) (items : List T) (i : ℕ) : Type 0 where
  pub before : List T
  pub best : T
  pub suffix : List T
  pub rank : Rank
  pub joined : items ≡ before ++ best ∷ suffix
  pub index : length before ≡ i
  pub ranks : HasRank Ranks best (Some rank)
  pub not_higher : All (RanksNoHigher Ranks rank) before
  pub lower : All (RanksLower Ranks rank) suffix

-- the result is the index of the best item, or `None` if no item has a rank
abbrev pub IsBest : {T : Type 0} → (T → Rank → Type 0) → List T → Option ℕ → Type 0
IsBest Ranks items None = All (HasNoRank Ranks) items
IsBest Ranks items (Some i) = IsBestAt Ranks items i

-- the pattern matches the place and has this rank
abbrev pub RanksFor : NormalPlace → NormalPlace → Rank → Type 0
RanksFor place pattern rank = Matches pattern place × (rank ≡ rank_of pattern)

-- the better of the best so far and the next item: the next one if it has a rank that isn't lower
abbrev pub IsBetter : Option (ℕ × Rank) → ℕ → Option Rank → Option (ℕ × Rank) → Type 0
IsBetter best next None r = r ≡ best
IsBetter None next (Some rank) r = r ≡ Some (next, rank)
IsBetter (Some (i, highest)) next (Some rank) r = (IsLower rank highest × (r ≡ Some (i, highest)))
    ⊎ ((¬ IsLower rank highest) × (r ≡ Some (next, rank)))
