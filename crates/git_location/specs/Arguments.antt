-- Arguments of a command: fields of a location that the command can't read as options.
use Rattle.std.specs.Prelude.{◌≡◌, ℕ, Bool, false, not, ◌&&◌, ◌==◌, List, [], ◌∷◌, Option, Some, None, if◌then◌else◌}
use Rattle.git_syntax.specs.Bytes.{slash, is_option_like}

-- whether a field can be an argument: it is missing, it is usable, or it may be read as an option
pub data Judgement : Type 0 where
  absent : Judgement
  usable : List ℕ → Judgement
  dangerous : List ℕ → Judgement

-- the judgement of a text
abbrev pub judgement_of_text : List ℕ → Judgement
judgement_of_text text = if is_option_like text then dangerous text else usable text

-- the judgement of a field: absent, dangerous if it begins with `-`, and else usable
abbrev pub judgement_of : Option (List ℕ) → Judgement
judgement_of None = absent
judgement_of (Some text) = judgement_of_text text

-- the text of a usable argument, and `None` for any other judgement
abbrev pub usable_text : Judgement → Option (List ℕ)
usable_text absent = None
usable_text (usable text) = Some text
usable_text (dangerous text) = None

-- a path that may be passed: `/`, followed by nothing or by another byte than `-`
abbrev pub is_path_argument : List ℕ → Bool
is_path_argument [] = false
is_path_argument (b ∷ bs) = (b == slash) && not (is_option_like bs)

-- the whole path, if it begins with `/` and the next byte isn't `-`
abbrev pub path_argument : List ℕ → Option (List ℕ)
path_argument path = if is_path_argument path then Some path else None

-- the text of a usable argument doesn't begin with `-`
abbrev pub IsNoOption : Judgement → Type 0
IsNoOption absent = Unit {0}
IsNoOption (usable text) = is_option_like text ≡ false
IsNoOption (dangerous text) = Unit {0}
