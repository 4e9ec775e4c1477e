-- The text added to a page: escaped text begins no tag and ends no value of an attribute, and a text of JSON contains
-- no `<`.
use Rattle.std.specs.Prelude.{ℕ, Bool, true, false, not, ◌==◌, ◌&&◌, ◌||◌, List, [], ◌∷◌, codes, flat_map, nat_le, if◌then◌else◌}

-- `<`
abbrev pub less_than : ℕ
less_than = 60

-- `>`
abbrev pub greater_than : ℕ
greater_than = 62

-- `&`
abbrev pub ampersand : ℕ
ampersand = 38

-- `"`
abbrev pub double_quote : ℕ
double_quote = 34

-- `'`
abbrev pub single_quote : ℕ
single_quote = 39

-- a byte in a page: itself, or a reference to it
abbrev pub escaped_byte : ℕ → List ℕ
escaped_byte b =
    if b == less_than then codes "&lt;"
    else (if b == greater_than then codes "&gt;"
    else (if b == ampersand then codes "&amp;"
    else (if b == double_quote then codes "&quot;"
    else (if b == single_quote then codes "&#39;"
    else b ∷ []))))

-- a text in a page
abbrev pub escaped : List ℕ → List ℕ
escaped text = flat_map escaped_byte text

-- ---- properties of such a text

-- the byte begins or ends a tag, or the value of an attribute
abbrev pub is_mark : ℕ → Bool
is_mark b = b == less_than || (b == greater_than || (b == double_quote || b == single_quote))

-- the bytes begin with these
abbrev pub has_front : List ℕ → List ℕ → Bool
has_front [] bytes = true
has_front (f ∷ front) [] = false
has_front (f ∷ front) (b ∷ bytes) = f == b && has_front front bytes

-- the rest of a reference to one of the five bytes, after its `&`
abbrev pub ends_reference : List ℕ → Bool
ends_reference bytes =
    has_front (codes "lt;") bytes || (has_front (codes "gt;") bytes || (has_front (codes "amp;") bytes
    || (has_front (codes "quot;") bytes || has_front (codes "#39;") bytes)))

-- no byte is of markup, and each `&` begins a reference
abbrev pub has_no_markup : List ℕ → Bool
has_no_markup [] = true
has_no_markup (b ∷ bytes) = not (is_mark b) && ((if b == ampersand then ends_reference bytes else true) && has_no_markup bytes)

-- ---- a text that is shown unchanged

-- `\`
abbrev pub backslash : ℕ
backslash = 92

-- the byte is visible ASCII, and not `\`
abbrev pub is_plain : ℕ → Bool
is_plain b = nat_le 32 b && (nat_le b 126 && not (b == backslash))

-- ---- a text of JSON in a page

-- a byte: itself, or the escape of `<`
abbrev pub island_byte : ℕ → List ℕ
island_byte b = if b == less_than then backslash ∷ codes "u003c" else b ∷ []

-- the text
abbrev pub island : List ℕ → List ℕ
island text = flat_map island_byte text

-- no byte begins a tag
abbrev pub has_no_tag : List ℕ → Bool
has_no_tag [] = true
has_no_tag (b ∷ bytes) = not (b == less_than) && has_no_tag bytes
