-- Facts that the tests of the class of HTTP decide.
use Rattle.std.specs.Prelude.{◌≡◌, ℕ, Bool, true, false, ◌||◌, ◌==◌, ◌⊎◌, List, [], ◌∷◌, ◌++◌, codes}
use Rattle.std.specs.Int.{is_in_range}
use Rattle.std.specs.List.{list_all}
use Rattle.std.specs.Char.{is_ascii_lowercase, is_ascii_uppercase}
use Rattle.git_syntax.specs.Bytes.{colon, slash, dot, number_sign, question_mark, Lacks, FreeOf, begins_with, is_one_of}
use Rattle.git_syntax.specs.Escapes.{has_percent, is_sound}
use Rattle.git_location.specs.Settled.{begins_with_slashes, first_byte}
use Rattle.git_class.specs.WebClass.{IsDecodedWhole, is_control, is_segment_end, is_uri_byte}

-- the path begins with exactly one `/`
abbrev pub IsRootedOnce : List ℕ → Type 0
IsRootedOnce path = (begins_with slash path ≡ true) × (begins_with_slashes path ≡ false)

-- the path doesn't end with `?`
abbrev pub LacksEmptyQuery : List ℕ → Type 0
LacksEmptyQuery path = (front : List ℕ) → ¬ (path ≡ front ++ question_mark ∷ [])

-- the path has neither a control character nor a fragment, and its written text has only bytes of a URI and is
-- decoded whole
pub record IsUriPath (path written : List ℕ) : Type 0 where
  pub no_control : Lacks is_control path
  pub no_fragment : FreeOf number_sign path
  pub bytes : list_all is_uri_byte written ≡ true
  pub whole : IsDecodedWhole written

-- the spelling, which decodes to the path, meets the conditions on spellings except for those on its bytes, and
-- the path has neither a control character nor a fragment
pub record SpellsUriPath (spelling path : List ℕ) : Type 0 where
  pub no_colon : FreeOf colon spelling
  pub escapes : (is_sound spelling ≡ true) × (has_percent spelling ≡ true)
  pub front : first_byte spelling ≡ first_byte path
  pub no_control : Lacks is_control path
  pub no_fragment : FreeOf number_sign path

-- a byte of most paths: a letter, a digit, `-`, `.`, `/` or `_`
abbrev pub is_common_path_byte : ℕ → Bool
is_common_path_byte b = is_in_range 45 57 b || is_ascii_lowercase b || is_ascii_uppercase b || b == 95

-- a byte that no path of the class has: a control, `#`, or one that is written unescaped and isn't one of a URI
abbrev pub is_stray : ℕ → Bool
is_stray b = is_control b || is_one_of (codes "#[\\]^|") b

-- a segment ends before the text
abbrev pub ends_segment : List ℕ → Bool
ends_segment [] = true
ends_segment (b ∷ bs) = is_segment_end b

-- the text begins with a `.` that ends a segment
abbrev pub EndsSecondDot : List ℕ → Type 0
EndsSecondDot text = (suffix : List ℕ) × (text ≡ dot ∷ suffix) × (ends_segment suffix ≡ true)

-- the `.` between the texts begins a segment `.` or `..` after a `/`
abbrev pub IsDotSegment : List ℕ → List ℕ → Type 0
IsDotSegment front suffix = (x : List ℕ) × (front ≡ x ++ slash ∷ [])
    × ((ends_segment suffix ≡ true) ⊎ EndsSecondDot suffix)
