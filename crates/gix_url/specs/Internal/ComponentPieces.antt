-- The contracts between the modules that return components: the piece that each result was cut out as.
use Rattle.std.specs.Prelude.{◌≡◌, ℕ, Bool, true, false, ◌==◌, ◌+◌, List, [], ◌∷◌, ◌++◌, Option, Some, None, MatchOption, option_map, length, filter}
use Rattle.std.specs.List.{slice_split}
use Rattle.bstr.specs.BStr.{bstr_bytes}
use Rattle.bstr.specs.Owned.{bstring_bytes}
use Rattle.gix_url.specs.declared.components.PathComponents.{PathComponents}
use Rattle.gix_url.specs.declared.components.QueryText.{QueryText}
use Rattle.gix_url.specs.declared.components.QueryText.TheVariants.{Borrowed, Owned}
use Rattle.gix_url.specs.declared.components.cuts.EscapedText.{EscapedText}
use Rattle.git_syntax.specs.Bytes.{plus_sign, FreeOf, ampersand}
use Rattle.git_syntax.specs.Location.{Location}
use Rattle.git_syntax.specs.Grammar.{or_root}
use Rattle.git_laws.specs.Components.{CutsPath, CutsFields, SplitsField, with_spaces}
use Rattle.git_syntax.specs.Escapes.{matches}
use Rattle.git_location.specs.Text.{original_path}
use Rattle.gix_url.specs.Internal.Meanings.{denoted_by}

-- the original path of a location, with its decoding
abbrev pub SpellsPath : Location → EscapedText → Type 0
SpellsPath v whole = (whole.text.now ≡ original_path v) × (whole.denoted.now ≡ v.path)
    × (whole.escaped ≡ matches v.spelling v.path)

-- the pieces of a text around the first c, escaped if the text is
pub record CutsAround (c : ℕ) (whole front suffix : EscapedText) : Type 0 where
  pub free : FreeOf c front.text.now
  pub joined : whole.text.now ≡ front.text.now ++ c ∷ suffix.text.now
  pub front_escaped : front.escaped ≡ whole.escaped
  pub after_escaped : suffix.escaped ≡ whole.escaped

-- the pieces around the first c, or `None` if the text lacks it
abbrev pub CutsSpelled : ℕ → EscapedText → Option (EscapedText × EscapedText) → Type 0
CutsSpelled c whole parts = MatchOption parts (FreeOf c whole.text.now)
    (λ p. CutsAround c whole p.0 p.1)

-- the piece before the first c, and the piece after it, if there is one
abbrev pub CutsOff : ℕ → EscapedText → EscapedText → Option EscapedText → Type 0
CutsOff c whole front None = FreeOf c whole.text.now × (front.text.now ≡ whole.text.now)
    × (front.escaped ≡ whole.escaped)
CutsOff c whole front (Some suffix) = CutsAround c whole front suffix

-- ---- the query

-- a name or a value is the decoding of its piece, borrowed if the piece has no raw `+`
abbrev pub BorrowsTerm : Bool → List ℕ → QueryText → Type 0
BorrowsTerm escaped piece (Borrowed text) = FreeOf plus_sign piece
    × (bstr_bytes text ≡ denoted_by escaped piece)
BorrowsTerm escaped piece (Owned text) = (¬ FreeOf plus_sign piece)
    × (bstring_bytes text ≡ denoted_by escaped (with_spaces piece))

-- a name and its value are the decodings of the two parts of a field
pub record BorrowsPair (escaped : Bool) (field : List ℕ) (pair : QueryText × QueryText) : Type 0 where
  pub name : List ℕ
  pub value : List ℕ
  pub split : SplitsField field name value
  pub name_borrowed : BorrowsTerm escaped name pair.0
  pub value_borrowed : BorrowsTerm escaped value pair.1

-- these names and values are the decodings of the fields, in order; empty fields are skipped
abbrev pub BorrowsPairs : Bool → List (List ℕ) → List (QueryText × QueryText) → Type 0
BorrowsPairs escaped [] pairs = pairs ≡ []
BorrowsPairs escaped ([] ∷ fields) pairs = BorrowsPairs escaped fields pairs
BorrowsPairs escaped ((b ∷ bs) ∷ fields) pairs =
    (pair : QueryText × QueryText) × (others : List (QueryText × QueryText))
    × BorrowsPair escaped (b ∷ bs) pair × BorrowsPairs escaped fields others × (pairs ≡ pair ∷ others)

-- these names and values are the decodings of the fields of a text, which has at least one
pub record BorrowsFields (escaped : Bool) (text : List ℕ)
    (pairs : List (QueryText × QueryText)) : Type 0 where
  pub field : List ℕ
  pub fields : List (List ℕ)
  pub cut : CutsFields text (field ∷ fields)
  pub borrowed : BorrowsPairs escaped (field ∷ fields) pairs

-- the field is not empty
abbrev pub is_field : List ℕ → Bool
is_field [] = false
is_field (b ∷ bs) = true

-- the number of nonempty fields in one field
abbrev pub one_field : List ℕ → ℕ
one_field [] = 0
one_field (b ∷ bs) = 1

-- the number of nonempty fields that begin with a byte, by whether the byte before it and the byte itself are
-- `&`
abbrev pub begun_by : Bool → Bool → ℕ
begun_by before true = 0
begun_by true false = 1
begun_by false false = 0

-- the number of nonempty fields that begin in the rest of a text, by whether the byte before it is `&`
abbrev pub begun_in : Bool → List ℕ → ℕ
begun_in before [] = 0
begun_in before (b ∷ bs) = begun_by before (b == ampersand) + begun_in (b == ampersand) bs

-- whether the last byte is `&`, of a text and the byte before it
abbrev pub ends_in : Bool → List ℕ → Bool
ends_in before [] = before
ends_in before (b ∷ bs) = ends_in (b == ampersand) bs

-- the number of nonempty fields of a text
abbrev pub field_count : List ℕ → ℕ
field_count text = length (filter is_field (slice_split (λ b. b == ampersand) text))

-- the name and the value of a field were appended
abbrev pub AddsBorrowed : Bool → List ℕ → List (QueryText × QueryText) → List (QueryText × QueryText)
    → Type 0
AddsBorrowed escaped field old new = (pair : QueryText × QueryText) × BorrowsPair escaped field pair
    × (new ≡ old ++ pair ∷ [])

-- the name and the value of a field were appended, unless the field is empty
abbrev pub AddsPair : Bool → List ℕ → List (QueryText × QueryText) → List (QueryText × QueryText)
    → Type 0
AddsPair escaped [] old new = new ≡ old
AddsPair escaped (b ∷ bs) old new = AddsBorrowed escaped (b ∷ bs) old new

-- ---- all components

-- these are the names and values of a query, if there is one
abbrev pub BorrowsQuery : Bool → Option (List ℕ) → Option (List (QueryText × QueryText)) → Type 0
BorrowsQuery escaped None pairs = pairs ≡ None
BorrowsQuery escaped (Some query) None = ⊥
BorrowsQuery escaped (Some query) (Some pairs) = BorrowsFields escaped query pairs

-- the components of a text of HTTP
pub record BorrowsParts (escaped : Bool) (text : List ℕ) (parts : PathComponents) : Type 0 where
  pub front : List ℕ
  pub query : Option (List ℕ)
  pub fragment : Option (List ℕ)
  pub cut : CutsPath text front query fragment
  pub path_denoted : bstr_bytes parts.path ≡ or_root (denoted_by escaped front)
  pub query_borrowed : BorrowsQuery escaped query (option_map (λ pairs. pairs.items) parts.query)
  pub fragment_denoted : option_map bstr_bytes parts.fragment ≡ option_map (denoted_by escaped) fragment

-- a text has a query
pub record HasQuery (text : List ℕ) : Type 0 where
  pub front : List ℕ
  pub query : List ℕ
  pub fragment : Option (List ℕ)
  pub cut : CutsPath text front (Some query) fragment
