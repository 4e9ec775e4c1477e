-- White space, as Unicode defines it, in the bytes of a text.
use Rattle.std.specs.Prelude.{ℕ, Bool, false, ◌&&◌, ◌||◌, ◌==◌, List, [], ◌∷◌, get_or}
use Rattle.std.specs.Int.{is_in_range}
use Rattle.git_syntax.specs.Bytes.{is_c_space}

-- a byte with which white space may begin in UTF-8
abbrev pub may_begin_space : ℕ → Bool
may_begin_space b = is_c_space b || (b == 194 || is_in_range 225 227 b)

-- two bytes of white space that follow `0xE2`
abbrev pub is_wide_end : ℕ → ℕ → Bool
is_wide_end c d = (c == 128 && (is_in_range 128 138 d || is_in_range 168 169 d || d == 175)) || (c == 129 && d == 159)

-- three bytes that begin with white space; the last two are tested only if they are part of it
abbrev pub are_space : ℕ → ℕ → ℕ → Bool
are_space b c d = is_c_space b || (b == 194 && (c == 133 || c == 160)) || (b == 225 && (c == 154 && d == 128)) || (b == 226 && is_wide_end c d) || (b == 227 && (c == 128 && d == 128))

-- some byte of the text begins white space
abbrev pub holds_space : List ℕ → Bool
holds_space [] = false
holds_space (b ∷ bs) = are_space b (get_or bs 0 0) (get_or bs 1 0) || holds_space bs
