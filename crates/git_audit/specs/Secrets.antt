-- The parts of a text that are hidden when it is shown: possible passwords, and words that are tokens.
use Rattle.std.specs.Prelude.{◌≡◌, ℕ, ◌+◌, Bool, if◌then◌else◌, true, false, ◌&&◌, ◌||◌, ◌==◌, List, [], ◌∷◌, ◌++◌, codes, length, take, drop, map, Option, Some, None, option_map}
use Rattle.std.specs.List.{list_all, list_any}
use Rattle.std.specs.Option.{is_some, option_and_then, unwrap_or}
use Rattle.std.specs.Char.{is_ascii_digit}
use Rattle.git_syntax.specs.Bytes.{colon, at_sign, left_bracket, right_bracket, begins_by, begins_with, is_helper_name, is_path_start}
use Rattle.git_audit.specs.Dangers.{has_front, is_gap, is_token_word}
use Rattle.git_audit.specs.declared.secret.Piece.{Piece}
use Rattle.git_audit.specs.declared.secret.Piece.TheVariants as piece
use Rattle.git_audit.specs.declared.secret.mark.Class.{Class}
use Rattle.git_audit.specs.declared.secret.mark.Class.TheVariants as class
use Rattle.git_audit.specs.declared.secret.mark.Mark.{Mark}
use Rattle.git_audit.specs.declared.secret.mark.Mark.TheVariants as mark
use Rattle.git_audit.specs.declared.secret.place.Secret.{Secret}

-- a piece of a text, shown or hidden
pub data Part : Type 0 where
  shown : List ℕ → Part
  hidden : List ℕ → Part

-- the bytes of a piece
abbrev pub part_bytes : Part → List ℕ
part_bytes (shown bytes) = bytes
part_bytes (hidden bytes) = bytes

-- the pieces joined
abbrev pub joined : List Part → List ℕ
joined [] = []
joined (part ∷ parts) = part_bytes part ++ joined parts

-- a hidden piece, unless it is empty
abbrev pub hidden_part : List ℕ → List Part
hidden_part [] = []
hidden_part (b ∷ bytes) = hidden (b ∷ bytes) ∷ []

-- ---- marks

-- the text begins with the mark; an escape of `:` or of `@` counts as the byte
abbrev pub begins_as : Mark → List ℕ → Bool
begins_as mark.Colon text = begins_with colon text || has_front text (codes "%3A") || has_front text (codes "%3a")
begins_as mark.At text = begins_with at_sign text || has_front text (codes "%40")
begins_as mark.Authority text = has_front text (codes "://")
begins_as mark.Helper text = has_front text (codes "::")

-- the length of the mark at the front of a text
abbrev pub mark_width : Mark → List ℕ → ℕ
mark_width mark.Colon text = if begins_with colon text then 1 else 3
mark_width mark.At text = if begins_with at_sign text then 1 else 3
mark_width mark.Authority text = 3
mark_width mark.Helper text = 2

-- the index of the first place at which the mark begins
abbrev pub first_mark : Mark → List ℕ → Option ℕ
first_mark m [] = None
first_mark m (b ∷ bs) = if begins_as m (b ∷ bs) then Some 0 else option_map (λ n. n + 1) (first_mark m bs)

-- the index after the mark that begins at index `n`
abbrev pub mark_end : Mark → List ℕ → ℕ → ℕ
mark_end m text n = n + mark_width m (drop n text)

-- the index one later, or 0 if there is none and a mark begins at the front
abbrev pub later_mark : Option ℕ → Bool → Option ℕ
later_mark (Some n) begins = Some (n + 1)
later_mark None true = Some 0
later_mark None false = None

-- the index of the last place at which the mark begins
abbrev pub last_mark : Mark → List ℕ → Option ℕ
last_mark m [] = None
last_mark m (b ∷ bs) = later_mark (last_mark m bs) (begins_as m (b ∷ bs))

-- ---- runs

-- the byte is of the class: no token contains it, or a path may start at it
abbrev pub is_of : Class → ℕ → Bool
is_of class.Gap b = is_gap b
is_of (class.Path web) b = is_path_start web b

-- the index of the first byte of the class
abbrev pub first_of : Class → List ℕ → Option ℕ
first_of c [] = None
first_of c (b ∷ bs) = if is_of c b then Some 0 else option_map (λ n. n + 1) (first_of c bs)

-- adds a byte that is not of the class to the front of the runs of a text
abbrev pub onto_run : Class → ℕ → List (List ℕ) → List (List ℕ)
onto_run c b [] = (b ∷ []) ∷ []
onto_run c b (run ∷ runs) = if begins_by (is_of c) run then (b ∷ []) ∷ run ∷ runs else (b ∷ run) ∷ runs

-- the runs of a text: each byte of the class is a run, and so are the bytes between two of them
abbrev pub runs : Class → List ℕ → List (List ℕ)
runs c [] = []
runs c (b ∷ bs) = if is_of c b then (b ∷ []) ∷ runs c bs else onto_run c b (runs c bs)

-- ---- tokens

-- a word is hidden if it is a token
abbrev pub word_part : List ℕ → Part
word_part word = if is_token_word word then hidden word else shown word

-- a text with its tokens hidden
abbrev pub tokens : List ℕ → List Part
tokens text = map word_part (runs class.Gap text)

-- ---- passwords

-- the bytes from an index to the last `@`, if there is one after it
abbrev pub up_to_at : List ℕ → ℕ → Option Secret
up_to_at text at = option_map (λ len. record { at = at; len = len }) (last_mark mark.At (drop at text))

-- a possible password in a text in which no path starts: everything between its first `:` and its last `@`
abbrev pub password : List ℕ → Option Secret
password text = option_and_then (λ n. up_to_at text (mark_end mark.Colon text n)) (first_mark mark.Colon text)

-- a text with this secret hidden, and the tokens around it
abbrev pub around : Secret → List ℕ → List Part
around s text = tokens (take s.at text)
    ++ (hidden_part (take s.len (drop s.at text)) ++ tokens (drop s.len (drop s.at text)))

-- a run with its possible password hidden, if there is one
abbrev pub run_parts : Option Secret → List ℕ → List Part
run_parts None text = tokens text
run_parts (Some s) text = around s text

-- runs with their possible passwords hidden
abbrev pub parts_of_runs : List (List ℕ) → List Part
parts_of_runs [] = []
parts_of_runs (run ∷ runs) = run_parts (password run) run ++ parts_of_runs runs

-- a text with a possible password hidden in each run between bytes at which a path may start
abbrev pub plain_parts : Bool → List ℕ → List Part
plain_parts web text = parts_of_runs (runs (class.Path web) text)

-- ---- passwords with a `/`

-- the text begins with `[` and has a `]`
abbrev pub has_brackets : List ℕ → Bool
has_brackets text = begins_with left_bracket text && list_any (λ b. b == right_bracket) text

-- an authority, whose first `:` ends at this index, has a password to its own last `@`, a port, or brackets
abbrev pub is_whole : List ℕ → ℕ → Bool
is_whole authority at = has_brackets authority || list_all is_ascii_digit (drop at authority)
    || is_some (last_mark mark.At (drop at authority))

-- a possible password with a `/` in it, after `://`: if the authority isn't whole, everything between its first `:`
-- and the last `@` of the text
abbrev pub wide_in : List ℕ → List ℕ → Option Secret
wide_in authority text = option_and_then (λ n. if is_whole authority (mark_end mark.Colon authority n) then None
    else up_to_at text (mark_end mark.Colon authority n)) (first_mark mark.Colon authority)

-- the text before the first byte at which a path may start, or all of it
abbrev pub before_path : Bool → List ℕ → List ℕ
before_path web text = take (unwrap_or (first_of (class.Path web) text) (length text)) text

-- the secret, moved by this many bytes
abbrev pub moved : ℕ → Secret → Secret
moved n s = record { at = n + s.at; len = s.len }

-- a possible password with a `/` in it, after this many bytes
abbrev pub wide_after : Bool → List ℕ → ℕ → Option Secret
wide_after web text n = option_map (moved n) (wide_in (before_path web (drop n text)) (drop n text))

-- a possible password with a `/` in it, after the first `://`
abbrev pub wide_password : Bool → List ℕ → Option Secret
wide_password web text = option_and_then (λ n. wide_after web text (mark_end mark.Authority text n)) (first_mark mark.Authority text)

-- a run of a password with a `/` in it: a byte at which a path may start is shown
abbrev pub wide_part : Bool → List ℕ → Part
wide_part web run = if begins_by (is_path_start web) run then shown run else hidden run

-- the pieces of a password with a `/` in it
abbrev pub wide_parts : Bool → List ℕ → List Part
wide_parts web text = map (wide_part web) (runs (class.Path web) text)

-- a text with a password with a `/` in it hidden, if there is one, and with the possible passwords before that
-- hidden
abbrev pub authority_parts : Bool → Option Secret → List ℕ → List Part
authority_parts web None text = plain_parts web text
authority_parts web (Some s) text = plain_parts web (take s.at text)
    ++ (wide_parts web (take s.len (drop s.at text)) ++ tokens (drop s.len (drop s.at text)))

-- ---- texts

-- the text begins as an HTTP URL, whose path may start with `?` or `#`
abbrev pub is_web : List ℕ → Bool
is_web text = has_front text (codes "http://") || has_front text (codes "https://")

-- the pieces of a text without the name of a helper
abbrev pub url_parts : List ℕ → List Part
url_parts text = authority_parts (is_web text) (wide_password (is_web text) text) text

-- the length of the name of a remote helper with its `::`, which is at index `n`; 0 if the text before it is no
-- such name
abbrev pub helper_end : List ℕ → ℕ → ℕ
helper_end text n = if is_helper_name (take n text) then mark_end mark.Helper text n else 0

-- the length of the name of a remote helper with its `::` at the front of a text, or 0
abbrev pub helper_len : List ℕ → ℕ
helper_len text = unwrap_or (option_map (helper_end text) (first_mark mark.Helper text)) 0

-- the pieces of a text: the name of a helper, and those of the text after it
abbrev pub parts_of : List ℕ → List Part
parts_of text = tokens (take (helper_len text) text) ++ url_parts (drop (helper_len text) text)

-- ---- pieces

-- the view of a piece
abbrev pub piece_part : Piece → Part
piece_part (piece.Shown bytes) = shown bytes.now
piece_part (piece.Hidden bytes) = hidden bytes.now

-- one step of the iterator: the next piece, or nothing at the end
abbrev pub GivesPart : List Part → Option Piece → List Part → Type 0
GivesPart from None next = (from ≡ []) × (next ≡ from)
GivesPart from (Some piece) next = from ≡ piece_part piece ∷ next
