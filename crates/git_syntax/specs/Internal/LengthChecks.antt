-- The length test as a check over the text after the `://` of a URL: whether a path starts before too many
-- bytes count.
use Rattle.std.specs.Prelude.{ℕ, ◌+◌, length, take, drop, nat_le, ◌||◌, Bool, List, [], ◌∷◌, if◌then◌else◌}
use Rattle.std.specs.Char.{is_ascii_whitespace}
use Rattle.std.specs.List.{list_any}
use Rattle.git_syntax.specs.declared.length.Stage.{Stage}
use Rattle.git_syntax.specs.declared.length.Stage.TheVariants.{Slashes, Front, Fixed}
use Rattle.git_syntax.specs.declared.length.LengthCheck.{LengthCheck}
use Rattle.git_syntax.specs.Authority.{without_white_space}
use Rattle.git_syntax.specs.Bytes.{is_path_start, is_any_slash}
use Rattle.git_syntax.specs.Schemes.{is_web_scheme}

-- slashes at the front, and white space
abbrev pub is_skipped : ℕ → Bool
is_skipped b = is_any_slash b || is_ascii_whitespace b

-- the text after the slashes at its front
abbrev pub without_slashes : List ℕ → List ℕ
without_slashes [] = []
without_slashes (b ∷ bs) = if is_any_slash b then without_slashes bs else b ∷ bs

-- a path starts in the first n bytes
abbrev pub starts_within : Bool → ℕ → List ℕ → Bool
starts_within web n bs = list_any (is_path_start web) (take n bs)

-- at this stage, a path starts in time if these bytes follow
abbrev pub is_in_time : Bool → Stage → List ℕ → Bool
is_in_time web Slashes bs = starts_within web 1025 (without_slashes (without_white_space bs))
is_in_time web (Front within) bs = starts_within web within (without_white_space bs)
is_in_time web (Fixed in_time) bs = in_time

-- the text after `://` is short enough: as a whole, or because a path starts in time
abbrev pub is_rest_short : Bool → List ℕ → Bool
is_rest_short web rest = nat_le (length rest) 1024 || is_in_time web Slashes rest

-- at this state of a check over a text, a path starts in time; the remaining bytes of the scheme and its `://` don't
-- count
abbrev pub is_text_in_time : LengthCheck → List ℕ → Bool
is_text_in_time text bs = is_in_time text.web text.stage (drop text.left bs)

-- a check over the text of a URL with this scheme, before its first byte
abbrev pub length_check_for : List ℕ → LengthCheck
length_check_for scheme = record {
  left = length scheme + 3;
  web = is_web_scheme scheme;
  stage = Slashes;
}
