-- Paths as text: segments with a `/` between each two, the pieces among them, parents and joined paths.
use Rattle.std.specs.Prelude.{◌≡◌, ℕ, ◌<◌, ◌≤◌, Bool, true, false, not, ◌==◌, List, [], ◌∷◌, ◌++◌, length, flat_map, slice_index, Option, Some, None}
use Rattle.std.specs.List.{list_any, join_with_byte}
use Rattle.git_syntax.specs.Bytes.{dot, slash, FreeOf, begins_with}

-- ---- pieces

-- a segment counts if it is neither empty nor `.`
abbrev pub counts : List ℕ → Bool
counts [] = false
counts (b ∷ []) = not (b == dot)
counts (b ∷ c ∷ bs) = true

-- a piece: a segment that counts
abbrev pub IsPiece : List ℕ → Type 0
IsPiece piece = FreeOf slash piece × (counts piece ≡ true)

-- segments, each after a `/`
abbrev pub with_slashes : List (List ℕ) → List ℕ
with_slashes segments = flat_map (λ segment. slash ∷ segment) segments

-- segments that don't count, each after a `/`: the text between two pieces, and after the last
abbrev pub IsIdle : List ℕ → Type 0
IsIdle text = (segments : List (List ℕ)) × (list_any counts segments ≡ false)
    × (text ≡ with_slashes segments)

-- the text consists of these pieces in order, each after a `/`, and of segments that don't count
abbrev pub HoldsPieces : List (List ℕ) → List ℕ → Type 0
HoldsPieces [] text = IsIdle text
HoldsPieces (piece ∷ others) text =
    (gap : List ℕ) × (rest : List ℕ) × IsIdle gap × IsPiece piece × HoldsPieces others rest
    × (text ≡ gap ++ (slash ∷ (piece ++ rest)))

-- a text is its first segment, which is empty if the text begins with `/`, and the pieces after it
pub record HasPieces (text first : List ℕ) (pieces : List (List ℕ)) : Type 0 where
  pub suffix : List ℕ
  pub no_slash : FreeOf slash first
  pub each : HoldsPieces pieces suffix
  pub whole : text ≡ first ++ suffix

-- a text without its first component, which is the root or the first segment: the pieces after it, with a `/`
-- between each two
abbrev pub WithoutFirst : List ℕ → List ℕ → Type 0
WithoutFirst text rest = (first : List ℕ) × (pieces : List (List ℕ)) × HasPieces text first pieces
    × (rest ≡ join_with_byte slash pieces)

-- ---- joined paths

-- a folder, and the text to which its contents are appended: with a `/` at its end, unless it is empty
pub data Opens (folder ready : List ℕ) : Type 0 where
  empty_folder : folder ≡ [] → ready ≡ [] → Opens folder ready
  after_slash : (front : List ℕ) → folder ≡ front ++ slash ∷ [] → ready ≡ folder
      → Opens folder ready
  after_name : (front : List ℕ) (last : ℕ) → (last == slash) ≡ false → folder ≡ front ++ last ∷ []
      → ready ≡ folder ++ slash ∷ [] → Opens folder ready

-- a path joined to a folder
pub data Joins (folder path whole : List ℕ) : Type 0 where
  -- a path that begins with `/` replaces the folder
  alone : begins_with slash path ≡ true → whole ≡ path → Joins folder path whole
  -- any other path is in the folder
  within : begins_with slash path ≡ false → (ready : List ℕ) → Opens folder ready
      → whole ≡ ready ++ path → Joins folder path whole

-- the path below a folder: the path, without its first component, joined to the folder
abbrev pub LiesBelow : List ℕ → List ℕ → List ℕ → Type 0
LiesBelow folder path whole = (rest : List ℕ) × WithoutFirst path rest × Joins folder rest whole

-- ---- parents

-- the text ends in a piece, which follows a `/` or is the first segment
pub data EndsInPiece (text : List ℕ) : Type 0 where
  last_piece : (front piece : List ℕ) → IsPiece piece → text ≡ front ++ slash ∷ piece
      → EndsInPiece text
  lone_piece : FreeOf slash text → 0 < length text → EndsInPiece text

-- the parent of a text: the front that ends with the last piece but one, or its replacement
pub data IsParent (text : List ℕ) (parent : Option (List ℕ)) : Type 0 where
  -- another piece precedes the last
  above_last : (front gap piece tail : List ℕ) → EndsInPiece front → IsIdle gap → IsPiece piece
      → IsIdle tail
      → text ≡ front ++ (gap ++ (slash ∷ (piece ++ tail))) → parent ≡ Some front
      → IsParent text parent
  -- the only piece is in the root
  in_root : (gap piece tail : List ℕ) → IsIdle gap → IsPiece piece → IsIdle tail
      → text ≡ gap ++ (slash ∷ (piece ++ tail)) → parent ≡ Some (slash ∷ []) → IsParent text parent
  -- the only piece is the first segment
  above_first : (first tail : List ℕ) → FreeOf slash first → 0 < length first → IsIdle tail
      → text ≡ first ++ tail → parent ≡ Some [] → IsParent text parent
  -- there is no piece
  above_none : IsIdle text → parent ≡ None → IsParent text parent

-- ---- bytes

-- each byte from i up to j is ASCII
abbrev pub IsAsciiBetween : List ℕ → ℕ → ℕ → Type 0
IsAsciiBetween text i j = (k : ℕ) → i ≤ k → k < j → slice_index text k < 128
