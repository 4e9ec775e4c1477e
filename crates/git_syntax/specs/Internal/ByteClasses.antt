-- The facts that are known of a text once its bytes were classified.
use Rattle.std.specs.Prelude.{◌≡◌, ℕ, Bool, true, false, ◌&&◌, ◌||◌, ◌==◌, nat_le, List, [], ◌∷◌, ⊤}
use Rattle.git_syntax.specs.declared.byte_class.ByteClass.{ByteClass}
use Rattle.git_syntax.specs.declared.byte_class.ByteClass.TheVariants.{Plain, Ascii, Escaped, Other}
use Rattle.git_syntax.specs.Bytes.{percent_sign, begins_by}
use Rattle.git_syntax.specs.Escapes.{is_plain, is_printable, is_sound}

-- the text begins with `8` or a greater byte
abbrev pub begins_high : List ℕ → Bool
begins_high text = begins_by (λ b. nat_le 56 b) text

-- `8` or a greater byte follows some `%`
abbrev pub has_high_escape : List ℕ → Bool
has_high_escape [] = false
has_high_escape (b ∷ bs) = (b == percent_sign && begins_high bs) || has_high_escape bs

-- each byte is printable ASCII, and each `%` begins an escape
pub record HasEscapes (text : List ℕ) : Type 0 where
  pub printable : is_printable text ≡ true
  pub sound : is_sound text ≡ true

-- each byte is printable ASCII, and each `%` begins an escape that decodes to ASCII
pub record HasAsciiEscapes (text : List ℕ) : Type 0 where
  pub printable : is_printable text ≡ true
  pub sound : is_sound text ≡ true
  pub low : has_high_escape text ≡ false

-- the text is known to be printable ASCII in which each `%` begins an escape
abbrev pub knows_printable : ByteClass → Bool
knows_printable Plain = true
knows_printable Ascii = true
knows_printable Escaped = true
knows_printable Other = false

-- the text is known to decode to ASCII
abbrev pub knows_ascii : ByteClass → Bool
knows_ascii Plain = true
knows_ascii Ascii = true
knows_ascii Escaped = false
knows_ascii Other = false

-- the text is known to have no `%`
abbrev pub knows_plain : ByteClass → Bool
knows_plain Plain = true
knows_plain Ascii = false
knows_plain Escaped = false
knows_plain Other = false

-- the fact holds of the text
abbrev pub HasByteClass : ByteClass → List ℕ → Type 0
HasByteClass Plain text = is_plain text ≡ true
HasByteClass Ascii text = HasAsciiEscapes text
HasByteClass Escaped text = HasEscapes text
HasByteClass Other text = ⊤
