-- Stored locations. A legacy record has the spelling of the path also in place of the path. It is migrated: its
-- path is decoded and spelled again.
use Rattle.std.specs.Prelude.{◌≡◌, ℕ, ◌+◌, ◌<◌, ◌≤◌, Bool, true, false, ◌&&◌, ◌||◌, ◌==◌, nat_lt, ◌↔◌, List, [], ◌∷◌, ◌++◌, bytes_eq, length, All, Option, Some, None, if◌then◌else◌}
use Rattle.percent_encoding.specs.Percent.{percent_encode_byte, percent_decode}
use Rattle.git_syntax.specs.Location.{Location}
use Rattle.git_syntax.specs.Bytes.{percent_sign, is_hexadecimal}
use Rattle.git_syntax.specs.Escapes.{begins_with_digits, is_path_escaped}

-- ---- the new spelling of a legacy path

-- a byte as it is written in a path: itself, or an escape if a path has it escaped or it is not ASCII
abbrev pub written_in_path : ℕ → List ℕ
written_in_path b = if is_path_escaped b || nat_lt 127 b then percent_encode_byte b else b ∷ []

-- the byte is a `%`, and two hexadecimal digits follow it
abbrev pub begins_escape : ℕ → List ℕ → Bool
begins_escape b suffix = b == percent_sign && begins_with_digits suffix

-- the path consists of escapes and other bytes, and the spelling has the same escapes, and those bytes as they
-- are written in a path
pub data Respells : List ℕ → List ℕ → Type 0 where
  nothing : Respells [] []
  escape : (high low : ℕ) (path spelling : List ℕ) → is_hexadecimal high ≡ true
      → is_hexadecimal low ≡ true → Respells path spelling
      → Respells (percent_sign ∷ high ∷ low ∷ path) (percent_sign ∷ high ∷ low ∷ spelling)
  other : (b : ℕ) (path spelling : List ℕ) → begins_escape b path ≡ false → Respells path spelling
      → Respells (b ∷ path) (written_in_path b ++ spelling)

-- the path with each `%` that begins an escape unchanged, and every other byte as it is written in a path
abbrev pub new_spelling : List ℕ → List ℕ
new_spelling [] = []
new_spelling (b ∷ path) = (if begins_escape b path then b ∷ [] else written_in_path b)
    ++ new_spelling path

-- ---- migration

-- the record is a legacy one: its spelling is its path
abbrev pub IsLegacy : Location → Type 0
IsLegacy v = v.spelling ≡ Some v.path

-- the location with its path read as an escaped one
abbrev pub from_legacy : Location → Location
from_legacy v = record v { path = percent_decode v.path; spelling = Some (new_spelling v.path) }

-- the location of a record with this spelling: it is a legacy record if the spelling is the path
abbrev pub migrated_by : Option (List ℕ) → Location → Location
migrated_by None v = v
migrated_by (Some spelling) v = if bytes_eq spelling v.path then from_legacy v else v

-- the location that a record represents
abbrev pub migrated : Location → Location
migrated v = migrated_by v.spelling v

-- ---- writing the new spelling, byte by byte

-- the front of the new spelling of a path, and the rest of the path, which the rest of the spelling spells
pub record SpellsFront (path front suffix : List ℕ) : Type 0 where
  pub spelled : new_spelling path ≡ front ++ new_spelling suffix
  pub shorter : length suffix + 1 ≡ length path
  pub short : length front ≤ 3

-- ---- laws

-- a path has exactly one new spelling
abbrev pub RespelledOnce : Type 0
RespelledOnce = (path spelling : List ℕ) → Respells path spelling ↔ (spelling ≡ new_spelling path)

-- a path and its new spelling decode to the same bytes
abbrev pub KeepsMeaning : Type 0
KeepsMeaning = (path spelling : List ℕ) → All (λ b. b < 256) path → Respells path spelling
    → percent_decode spelling ≡ percent_decode path

-- a legacy record represents the location with its path decoded and its new spelling, and any other record
-- represents itself
abbrev pub Migrates : Type 0
Migrates = (v : Location)
    → ((spelling : List ℕ) → IsLegacy v → Respells v.path spelling
    → migrated v ≡ record v { path = percent_decode v.path; spelling = Some spelling })
    × (¬ IsLegacy v → migrated v ≡ v)

-- migrating twice has the same result as migrating once
abbrev pub MigratedOnce : Type 0
MigratedOnce = (v : Location) → All (λ b. b < 256) v.path → migrated (migrated v) ≡ migrated v
