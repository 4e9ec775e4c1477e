-- Words that Git compares ignoring letter case (ASCII).
use Rattle.std.specs.Prelude.{ℕ, Bool, bytes_eq, List}
use Rattle.git_syntax.specs.Bytes.{lowercase}

-- the text is the word, ignoring letter case (ASCII)
abbrev pub is_word : List ℕ → List ℕ → Bool
is_word text word = bytes_eq (lowercase text) (lowercase word)
