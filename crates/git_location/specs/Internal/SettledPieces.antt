-- Hosts and texts that the tests of the settled class decide.
use Rattle.std.specs.Prelude.{◌≡◌, ℕ, ◌+◌, false, ◌⊎◌, List, [], ◌∷◌, ◌++◌, length, drop, Option, None, IfSome, MatchOption, Ok, true, ◌<◌, ◌≤◌}
use Rattle.std.specs.Borrow.{Bor}
use Rattle.git_syntax.specs.Location.{Location}
use Rattle.git_syntax.specs.Bytes.{begins_by, begins_with, slash, colon, left_bracket, right_bracket, FreeOf}
use Rattle.git_syntax.specs.Escapes.{has_percent}
use Rattle.git_syntax.specs.Addresses.{Literal}
use Rattle.git_syntax.specs.Schemes.{scheme_text}
use Rattle.git_syntax.specs.Internal.LengthChecks.{is_skipped}
use Rattle.git_location.specs.Text.{text, canonical_text}
use Rattle.git_syntax.specs.Authority.{Fits}
use Rattle.git_location.specs.Settled.{HasCredentials, HasFittingText, HasUrlPath, IsHosted, IsRawPath, IsWebName}

-- a literal that is read unchanged
abbrev pub IsNormalLiteral : List ℕ → Type 0
IsNormalLiteral text = Literal text text

-- a literal that is read unchanged, in brackets
abbrev pub IsBracketedLiteral : List ℕ → Type 0
IsBracketedLiteral host = (n : List ℕ) × Literal n n
    × (host ≡ left_bracket ∷ (n ++ right_bracket ∷ []))

-- the text in brackets, or `None` if the text isn't in brackets
abbrev pub StripsBrackets : List ℕ → Option (Bor (List ℕ)) → Type 0
StripsBrackets host r = MatchOption r
    ((inner : List ℕ) → ¬ (host ≡ left_bracket ∷ (inner ++ right_bracket ∷ [])))
    (λ inner. host ≡ left_bracket ∷ (inner.now ++ right_bracket ∷ []))

-- a host of HTTP that a colon may follow
abbrev pub IsClosedHost : List ℕ → Type 0
IsClosedHost host = IsBracketedLiteral host ⊎ (IsWebName host × (has_percent host ≡ false))

-- the host begins with a byte that the length test doesn't skip, and is short
abbrev pub IsShortHost : List ℕ → Type 0
IsShortHost host = (0 < length host) × (begins_by is_skipped host ≡ false) × (length host ≤ 300)

-- there is no user, and the path and its spelling, if there is one, begin with `/`
abbrev pub IsRootedWithoutUser : Location → Type 0
IsRootedWithoutUser v = (v.user ≡ None) × (begins_with slash v.path ≡ true)
    × IfSome v.spelling (λ s. begins_with slash s ≡ true)

-- a path of a settled URL, which is raw if no spelling matches it
abbrev pub HasRawPath : Location → Type 0
HasRawPath v = HasUrlPath v × IsRawPath v

-- the conditions that settled URLs have in common, except for those on paths
pub record IsSettledBesidePath (v : Location) : Type 0 where
  pub unflagged : v.flag ≡ false
  pub credentials : HasCredentials v
  pub hosted : IsHosted v
  pub fits : HasFittingText v

-- the scheme lacks `:`, and the text is the canonical one if the location has the fields of a URL
pub record IsWrittenAsUrl (v : Location) : Type 0 where
  pub no_colon : FreeOf colon (scheme_text v.scheme)
  pub canonical : v.flag ≡ false → IsHosted v → text v ≡ Ok (canonical_text v)

-- the scheme is short enough, and so is the text after it and its mark
abbrev pub IsPiecesShort : List ℕ → List ℕ → Type 0
IsPiecesShort scheme whole = Fits scheme (drop (length scheme + 3) whole)
