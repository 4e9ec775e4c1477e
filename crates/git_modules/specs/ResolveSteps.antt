-- The steps `./` and `../` at the front of a submodule's URL.
use Rattle.std.specs.Prelude.{ℕ, suc, Bool, ◌||◌, ◌==◌, if◌then◌else◌, List, [], ◌∷◌, Option, Some, None, option_and_then}
use Rattle.std.specs.Option.{is_some}
use Rattle.git_syntax.specs.Bytes.{dot, slash}

-- the text after its first byte, if that is `c`
abbrev pub past_byte : ℕ → List ℕ → Option (List ℕ)
past_byte c [] = None
past_byte c (b ∷ bs) = if b == c then Some bs else None

-- the text after a leading `./`, if it begins so
abbrev pub after_here : List ℕ → Option (List ℕ)
after_here text = option_and_then (past_byte slash) (past_byte dot text)

-- the text after a leading `../`, if it begins so
abbrev pub after_up : List ℕ → Option (List ℕ)
after_up text = option_and_then after_here (past_byte dot text)

-- Git resolves a URL that begins with a step
abbrev pub is_relative : List ℕ → Bool
is_relative url = is_some (after_here url) || is_some (after_up url)

-- the number of `../` among the leading steps of the text
abbrev pub ups : List ℕ → ℕ
ups [] = 0
ups (a ∷ []) = 0
ups (a ∷ b ∷ []) = 0
ups (a ∷ b ∷ c ∷ rest) =
    if is_some (after_up (a ∷ b ∷ c ∷ rest)) then suc (ups rest)
    else (if is_some (after_here (a ∷ b ∷ c ∷ rest)) then ups (c ∷ rest) else 0)

-- the text after its leading steps
abbrev pub after_steps : List ℕ → List ℕ
after_steps [] = []
after_steps (a ∷ []) = a ∷ []
after_steps (a ∷ b ∷ []) = if is_some (after_here (a ∷ b ∷ [])) then [] else a ∷ b ∷ []
after_steps (a ∷ b ∷ c ∷ rest) =
    if is_some (after_up (a ∷ b ∷ c ∷ rest)) then after_steps rest
    else (if is_some (after_here (a ∷ b ∷ c ∷ rest)) then after_steps (c ∷ rest) else a ∷ b ∷ c ∷ rest)
