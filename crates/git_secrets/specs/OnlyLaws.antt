-- The law that nothing is hidden but what may be a secret.
use Rattle.std.specs.Prelude.{◌≡◌, ◌≤◌, ℕ, ◌⊎◌, true, List, [], ◌∷◌, ◌++◌, codes, length}
use Rattle.git_syntax.specs.Bytes.{colon, at_sign}
use Rattle.git_secrets.specs.Tokens.{begins_as_token, least_user}
use Rattle.git_secrets.specs.declared.Secret.TheVariants as secret
use Rattle.git_secrets.specs.Secrets.{Part, hidden, joined, part_bytes, parts_of, shown}

-- a `:`, or its escape
abbrev pub IsColon : List ℕ → Type 0
IsColon mark = (mark ≡ colon ∷ []) ⊎ ((mark ≡ codes "%3A") ⊎ (mark ≡ codes "%3a"))

-- an `@`, or its escape
abbrev pub IsAt : List ℕ → Type 0
IsAt mark = (mark ≡ at_sign ∷ []) ⊎ (mark ≡ codes "%40")

-- the text contains such a mark
abbrev pub Has : (List ℕ → Type 0) → List ℕ → Type 0
Has IsMark text = (front : List ℕ) × (mark : List ℕ) × (rest : List ℕ) × (text ≡ front ++ (mark ++ rest)) × IsMark mark

-- a word may be a token: it begins as one, or is as long as one
abbrev pub MayBeToken : List ℕ → Type 0
MayBeToken word = (begins_as_token word ≡ true) ⊎ (least_user ≤ length word)

-- a piece with these texts before and after it is shown; or is hidden as a token, and may be one; or is hidden as a
-- password, and is between a `:` and an `@`
abbrev pub MayBe : List ℕ → Part → List ℕ → Type 0
MayBe before (shown bytes) after = Unit {0}
MayBe before (hidden secret.Password bytes) after = Has IsColon before × Has IsAt after
MayBe before (hidden secret.Token bytes) after = MayBeToken bytes

-- each piece, with these texts before the first and after the last one
abbrev pub AreSecrets : List ℕ → List Part → List ℕ → Type 0
AreSecrets before [] after = Unit {0}
AreSecrets before (part ∷ parts) after = MayBe before part (joined parts ++ after) × AreSecrets (before ++ part_bytes part) parts after

-- nothing is hidden but a word that may be a token, and what is between a `:` and an `@`
abbrev pub OnlySecrets : Type 0
OnlySecrets = (text : List ℕ) → AreSecrets [] (parts_of text) []
