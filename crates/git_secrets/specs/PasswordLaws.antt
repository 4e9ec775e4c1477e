-- The law on passwords: each is in a piece that is hidden as one.
use Rattle.std.specs.Prelude.{◌≡◌, ◌<◌, ◌≤◌, ℕ, ◌+◌, List, ◌∷◌, ◌++◌, length, Some}
use Rattle.git_parts.specs.declared.parts.Span.{Span}
use Rattle.git_parts.specs.declared.parts.Parts.{Parts}
use Rattle.git_parts.specs.Parts.{HasParts}
use Rattle.git_secrets.specs.declared.Secret.TheVariants as secret
use Rattle.git_secrets.specs.Secrets.{Part, hidden, joined, parts_of}

-- the bytes of this span lie in a piece that is hidden as a password
abbrev pub LiesHidden : List ℕ → Span → Type 0
LiesHidden text s = (fronts : List Part) × (bytes : List ℕ) × (rest : List Part)
    × (parts_of text ≡ fronts ++ hidden secret.Password bytes ∷ rest)
    × (length (joined fronts) ≤ s.at) × (s.at + s.len ≤ length (joined fronts) + length bytes)

-- a password of a location lies in a piece that is hidden as a password, unless it is empty
abbrev pub HidesPasswords : Type 0
HidesPasswords = (b : List ℕ) (parts : Parts) (s : Span) → HasParts b parts → parts.password ≡ Some s
    → 0 < s.len → LiesHidden b s
