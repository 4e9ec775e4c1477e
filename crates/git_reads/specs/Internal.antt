-- Definitions for the proofs of this crate.
use Rattle.std.specs.Prelude.{◌≡◌, ℕ, true, false, List, ◌∷◌, ◌++◌, Option, Some, None, MatchOption}
use Rattle.std.specs.Borrow.{Bor}
use Rattle.git_syntax.specs.Bytes.{slash, colon, at_sign, left_bracket, FreeOf, Holds, begins_with}
use Rattle.git_reads.specs.Git.{host_mark, escaped_byte, is_git_escape, CutsPlace}
use Rattle.git_reads.specs.Credentials.{CredentialDecodes, are_slashes, CutsText}

-- the text doesn't begin with an escape, or begins with that of byte 0
abbrev pub LacksEscape : List ℕ → Type 0
LacksEscape t = (b high low : ℕ) (rest : List ℕ) → t ≡ b ∷ high ∷ low ∷ rest
    → is_git_escape b high low ≡ false

-- the text begins with an escape of `byte`, which isn't byte 0, and `suffix` follows it
abbrev pub HasEscape : List ℕ → ℕ → List ℕ → Type 0
HasEscape t byte suffix = (b : ℕ) × (high : ℕ) × (low : ℕ) × (is_git_escape b high low ≡ true)
    × (byte ≡ escaped_byte high low) × (t ≡ b ∷ high ∷ low ∷ suffix)

-- the byte of the escape that begins the text, and the text after it; `None` if no such escape does
abbrev pub ReadsEscape : List ℕ → Option (ℕ × Bor (List ℕ)) → Type 0
ReadsEscape t r = MatchOption r (LacksEscape t) (λ it. HasEscape t it.0 it.1.now)

-- the text is cut at the first c that isn't skipped, and the rest begins with that c
abbrev pub CutsPlaceAt : ℕ → List ℕ → List ℕ → List ℕ → Type 0
CutsPlaceAt c t place rest = (suffix : List ℕ) × (rest ≡ c ∷ suffix) × CutsPlace c t place suffix

-- no bracket opens a host
abbrev pub LacksOpened : List ℕ → Type 0
LacksOpened t = (¬ Holds host_mark t) × (begins_with left_bracket t ≡ false)

-- ---- credentials

-- the text has no such cut
abbrev pub LacksTextCut : List ℕ → Type 0
LacksTextCut t = (protocol authority suffix : List ℕ) → ¬ CutsText t protocol authority suffix

-- an authority is cut into a user, a password and the host with its port, none of them decoded
pub data CutsInformation (authority : List ℕ) (user password : Option (List ℕ))
    (named : List ℕ) : Type 0 where
  host_alone : FreeOf at_sign authority → named ≡ authority → user ≡ None → password ≡ None
      → CutsInformation authority user password named
  user_alone : (u : List ℕ) → FreeOf at_sign u → FreeOf colon u → authority ≡ u ++ at_sign ∷ named
      → user ≡ Some u → password ≡ None → CutsInformation authority user password named
  with_password : (u w : List ℕ) → FreeOf at_sign u → FreeOf at_sign w → FreeOf colon u
      → authority ≡ u ++ colon ∷ (w ++ at_sign ∷ named) → user ≡ Some u → password ≡ Some w
      → CutsInformation authority user password named

-- a piece and its decoding, or both are missing
pub data DecodesPart (piece part : Option (List ℕ)) : Type 0 where
  absent : piece ≡ None → part ≡ None → DecodesPart piece part
  present : (spelled decoded : List ℕ) → CredentialDecodes spelled decoded → piece ≡ Some spelled
      → part ≡ Some decoded → DecodesPart piece part

-- the rest of a text after the slashes at its front
pub record StripsSlashes (t rest : List ℕ) : Type 0 where
  pub slashes : List ℕ
  pub joined : t ≡ slashes ++ rest
  pub front : are_slashes slashes ≡ true
  pub begins : begins_with slash rest ≡ false
