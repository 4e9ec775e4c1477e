-- The pieces of a text that are cut into parts.
use Rattle.std.specs.Prelude.{◌≡◌, ◌<◌, ℕ, List, ◌∷◌, ◌++◌, length, Option, None}
use Rattle.git_syntax.specs.Bytes.{colon, left_bracket, right_bracket, FreeOf}
use Rattle.git_syntax.specs.Hosts.{HostSyntax, IsPlainHost}
use Rattle.git_syntax.specs.Authority.{Authority}
use Rattle.git_refusals.specs.Internal.Readable.{NamesHost}
use Rattle.git_parts.specs.Parts.{HostSpans, span_unless_empty}

-- the piece spells a host and a port, or is empty
abbrev pub IsHostPiece : List ℕ → Type 0
IsHostPiece piece = (syntax : HostSyntax) × NamesHost syntax piece

-- the text is an authority
abbrev pub IsAuthority : List ℕ → Type 0
IsAuthority text = (syntax : HostSyntax) × (user : Option (List ℕ)) × (password : Option (List ℕ))
    × (host : Option (List ℕ)) × (port : Option ℕ) × Authority syntax text user password host port

-- a piece without a port: all of it is the host
abbrev pub IsHostAlone : List ℕ → Type 0
IsHostAlone piece = (start : ℕ) → HostSpans start piece (span_unless_empty start piece) None

-- in this piece, the digits of a port follow a host, in brackets or without them
pub data HasPort (piece digits : List ℕ) : Type 0 where
  bracketed : (x : List ℕ) → FreeOf right_bracket x → 0 < length digits
      → piece ≡ left_bracket ∷ (x ++ right_bracket ∷ (colon ∷ digits)) → HasPort piece digits
  plain : (text : List ℕ) → IsPlainHost text → FreeOf colon digits → 0 < length digits
      → piece ≡ text ++ colon ∷ digits → HasPort piece digits
