-- The parts of a text that are hidden when it is shown: possible passwords, and possible tokens.
use Rattle.std.specs.Prelude.{◌≡◌, ℕ, ◌+◌, Bool, if◌then◌else◌, true, false, ◌&&◌, ◌||◌, ◌==◌, nat_le, nat_lt, bytes_eq, List, [], ◌∷◌, ◌++◌, codes, length, take, drop, map, Option, Some, None, option_map}
use Rattle.std.specs.List.{list_all, list_any, ends_with}
use Rattle.std.specs.Option.{is_some, option_and_then, unwrap_or}
use Rattle.std.specs.Char.{is_ascii_digit}
use Rattle.git_syntax.specs.Bytes.{colon, at_sign, left_bracket, right_bracket, begins_by, begins_with, is_helper_name, is_path_start}
use Rattle.git_secrets.specs.Tokens.{begins_as_token, has_front, is_gap, is_token_word, least_user}
use Rattle.git_secrets.specs.declared.Kinds.{Kinds}
use Rattle.git_secrets.specs.declared.Piece.{Piece}
use Rattle.git_secrets.specs.declared.Piece.TheVariants as piece
use Rattle.git_secrets.specs.declared.Secret.{Secret}
use Rattle.git_secrets.specs.declared.Secret.TheVariants as secret
use Rattle.git_secrets.specs.declared.mark.Class.{Class}
use Rattle.git_secrets.specs.declared.mark.Class.TheVariants as class
use Rattle.git_secrets.specs.declared.mark.Mark.{Mark}
use Rattle.git_secrets.specs.declared.mark.Mark.TheVariants as mark
use Rattle.git_secrets.specs.declared.place.Place.{Place}

-- a piece of a text: shown, or hidden as a secret of this kind
pub data Part : Type 0 where
  shown : List ℕ → Part
  hidden : Secret → List ℕ → Part

-- the bytes of a piece
abbrev pub part_bytes : Part → List ℕ
part_bytes (shown bytes) = bytes
part_bytes (hidden kind bytes) = bytes

-- the pieces joined
abbrev pub joined : List Part → List ℕ
joined [] = []
joined (part ∷ parts) = part_bytes part ++ joined parts

-- a hidden piece, unless it is empty
abbrev pub hidden_part : Secret → List ℕ → List Part
hidden_part kind [] = []
hidden_part kind (b ∷ bytes) = hidden kind (b ∷ bytes) ∷ []

-- ---- marks

-- the text begins with `:`, or with its escape
abbrev pub begins_as_colon : List ℕ → Bool
begins_as_colon text = begins_with colon text || has_front text (codes "%3A") || has_front text (codes "%3a")

-- the text begins with `@`, or with its escape
abbrev pub begins_as_at : List ℕ → Bool
begins_as_at text = begins_with at_sign text || has_front text (codes "%40")

-- the text begins with the mark
abbrev pub begins_as : Mark → List ℕ → Bool
begins_as mark.Colon text = begins_as_colon text
begins_as mark.At text = begins_as_at text
begins_as mark.Authority text = has_front text (codes "://")
begins_as mark.Helper text = has_front text (codes "::")
begins_as mark.UserEnd text = begins_as_colon text || begins_as_at text

-- the length of the mark at the front of a text
abbrev pub mark_width : Mark → List ℕ → ℕ
mark_width mark.Colon text = if begins_with colon text then 1 else 3
mark_width mark.At text = if begins_with at_sign text then 1 else 3
mark_width mark.Authority text = 3
mark_width mark.Helper text = 2
mark_width mark.UserEnd text = if begins_with colon text || begins_with at_sign text then 1 else 3

-- the index of the first place at which the mark begins
abbrev pub first_mark : Mark → List ℕ → Option ℕ
first_mark m [] = None
first_mark m (b ∷ bs) = if begins_as m (b ∷ bs) then Some 0 else option_map (λ n. n + 1) (first_mark m bs)

-- the index after the mark that begins at index `n`
abbrev pub mark_end : Mark → List ℕ → ℕ → ℕ
mark_end m text n = n + mark_width m (drop n text)

-- the index one later, or 0 if there is none and a mark begins at the front
abbrev pub later_mark : Option ℕ → Bool → Option ℕ
later_mark (Some n) begins = Some (n + 1)
later_mark None true = Some 0
later_mark None false = None

-- the index of the last place at which the mark begins
abbrev pub last_mark : Mark → List ℕ → Option ℕ
last_mark m [] = None
last_mark m (b ∷ bs) = later_mark (last_mark m bs) (begins_as m (b ∷ bs))

-- ---- runs

-- the byte is of the class: no token contains it, a path may start at it, or it is a `]`
abbrev pub is_of : Class → ℕ → Bool
is_of class.Gap b = is_gap b
is_of (class.Path web) b = is_path_start web b
is_of class.Bracket b = b == right_bracket

-- the index of the first byte of the class
abbrev pub first_of : Class → List ℕ → Option ℕ
first_of c [] = None
first_of c (b ∷ bs) = if is_of c b then Some 0 else option_map (λ n. n + 1) (first_of c bs)

-- adds a byte that is not of the class to the front of the runs of a text
abbrev pub onto_run : Class → ℕ → List (List ℕ) → List (List ℕ)
onto_run c b [] = (b ∷ []) ∷ []
onto_run c b (run ∷ runs) = if begins_by (is_of c) run then (b ∷ []) ∷ run ∷ runs else (b ∷ run) ∷ runs

-- the runs of a text: each byte of the class is a run, and so are the bytes between two of them
abbrev pub runs : Class → List ℕ → List (List ℕ)
runs c [] = []
runs c (b ∷ bs) = if is_of c b then (b ∷ []) ∷ runs c bs else onto_run c b (runs c bs)

-- ---- tokens

-- a word is hidden if it is a token
abbrev pub word_part : List ℕ → Part
word_part word = if is_token_word word then hidden secret.Token word else shown word

-- a text with its tokens hidden
abbrev pub tokens : List ℕ → List Part
tokens text = map word_part (runs class.Gap text)

-- ---- passwords

-- the bytes from an index to the last `@`, if there is one after it
abbrev pub up_to_at : List ℕ → ℕ → Option Place
up_to_at text at = option_map (λ len. record { at = at; len = len }) (last_mark mark.At (drop at text))

-- a possible password in a text in which no path starts: everything between its first `:` and its last `@`
abbrev pub password : List ℕ → Option Place
password text = option_and_then (λ n. up_to_at text (mark_end mark.Colon text n)) (first_mark mark.Colon text)

-- a text with this secret hidden, and the tokens around it
abbrev pub around : Place → List ℕ → List Part
around s text = tokens (take s.at text)
    ++ (hidden_part secret.Password (take s.len (drop s.at text)) ++ tokens (drop s.len (drop s.at text)))

-- a run with its possible password hidden, if there is one
abbrev pub run_parts : Option Place → List ℕ → List Part
run_parts None text = tokens text
run_parts (Some s) text = around s text

-- runs with their possible passwords hidden
abbrev pub parts_of_runs : List (List ℕ) → List Part
parts_of_runs [] = []
parts_of_runs (run ∷ runs) = run_parts (password run) run ++ parts_of_runs runs

-- a text with a possible password hidden in each run between bytes at which a path may start
abbrev pub plain_parts : Bool → List ℕ → List Part
plain_parts web text = parts_of_runs (runs (class.Path web) text)

-- ---- passwords with a `/`

-- the authority without its user information
abbrev pub host_part : List ℕ → List ℕ
host_part authority = drop (unwrap_or (option_map (mark_end mark.At authority) (last_mark mark.At authority)) 0) authority

-- the text begins with `[` and has a `]`
abbrev pub has_brackets : List ℕ → Bool
has_brackets text = begins_with left_bracket text && list_any (λ b. b == right_bracket) text

-- an authority, whose first `:` ends at this index, has a password to its own last `@`, a port, or brackets
abbrev pub is_whole : List ℕ → ℕ → Bool
is_whole authority at = has_brackets (host_part authority) || list_all is_ascii_digit (drop at authority)
    || is_some (last_mark mark.At (drop at authority))

-- a possible password with a `/` in it, after `://`: if the authority isn't whole, everything between its first `:`
-- and the last `@` of the text
abbrev pub wide_in : List ℕ → List ℕ → Option Place
wide_in authority text = option_and_then (λ n. if is_whole authority (mark_end mark.Colon authority n) then None
    else up_to_at text (mark_end mark.Colon authority n)) (first_mark mark.Colon authority)

-- the text before the first byte at which a path may start, or all of it
abbrev pub before_path : Bool → List ℕ → List ℕ
before_path web text = take (unwrap_or (first_of (class.Path web) text) (length text)) text

-- a run of a password with a `/` in it: a byte at which a path may start is shown
abbrev pub wide_part : Bool → List ℕ → Part
wide_part web run = if begins_by (is_path_start web) run then shown run else hidden secret.Password run

-- the pieces of a password with a `/` in it
abbrev pub wide_parts : Bool → List ℕ → List Part
wide_parts web text = map (wide_part web) (runs (class.Path web) text)

-- a text with a password with a `/` in it hidden, if there is one, and with the possible passwords before that
-- hidden
abbrev pub wide_around : Bool → Option Place → List ℕ → List Part
wide_around web None text = plain_parts web text
wide_around web (Some s) text = plain_parts web (take s.at text)
    ++ (wide_parts web (take s.len (drop s.at text)) ++ tokens (drop s.len (drop s.at text)))

-- ---- tokens in place of a user

-- the length of a user at the front of a text: the bytes before the first `:` or `@`, or all of them
abbrev pub user_len : List ℕ → ℕ
user_len text = unwrap_or (first_mark mark.UserEnd text) (length text)

-- there is no password, or only what is written beside a token: nothing, or the word `x-oauth-basic`
abbrev pub is_beside_token : Option Place → List ℕ → Bool
is_beside_token None text = true
is_beside_token (Some s) text = s.len == 0 || bytes_eq (take s.len (drop s.at text)) (codes "x-oauth-basic")

-- the user of an HTTP authority without a password of its own is as long as a token
abbrev pub is_long_user : List ℕ → Bool
is_long_user authority = nat_le least_user (user_len authority) && is_beside_token (password authority) authority

-- the text begins with a user, and that may be a token; `web` is whether the text is an HTTP authority
abbrev pub begins_with_token : Bool → List ℕ → Bool
begins_with_token web text = is_some (last_mark mark.At text)
    && (begins_as_token (take (user_len text) text) || (web && is_long_user text))

-- the length of a token in place of a user at the front of a text, or 0
abbrev pub token_len : Bool → List ℕ → ℕ
token_len web text = if begins_with_token web text then user_len text else 0

-- there is no password, or only what is written beside a token
abbrev pub is_password_beside_token : Option (List ℕ) → Bool
is_password_beside_token None = true
is_password_beside_token (Some []) = true
is_password_beside_token (Some (b ∷ bytes)) = bytes_eq (b ∷ bytes) (codes "x-oauth-basic")

-- the user of a location, whose scheme may be one of HTTP and that may have a password, may be or contain a secret:
-- it begins as a token, contains a `:`, or is as long as a token
abbrev pub is_secret_user : Bool → List ℕ → Option (List ℕ) → Bool
is_secret_user web user own = begins_as_token user || is_some (first_mark mark.Colon user)
    || (web && nat_le least_user (length user) && is_password_beside_token own)

-- ---- the scp form

-- the first `@` is before the first `:`, if there is one; the index after that `@`
abbrev pub after_user : List ℕ → ℕ → Option ℕ
after_user text n = if nat_lt n (unwrap_or (first_mark mark.Colon text) (length text)) then Some (mark_end mark.At text n) else None

-- the index at which a host of the scp form begins: at a `[`, or after a user
abbrev pub host_start : List ℕ → Option ℕ
host_start text = if begins_with left_bracket text then Some 0 else option_and_then (after_user text) (first_mark mark.At text)

-- the length of an address in brackets at the front of a text, or 0
abbrev pub brackets_len : List ℕ → ℕ
brackets_len text = if begins_with left_bracket text then unwrap_or (option_map (λ n. n + 1) (first_of class.Bracket text)) 0 else 0

-- the index after the first `:` after this index
abbrev pub after_colon : List ℕ → ℕ → Option ℕ
after_colon text at = option_map (λ n. at + mark_end mark.Colon (drop at text) n) (first_mark mark.Colon (drop at text))

-- the length of a user and a host of the scp form, with the colon after them, at the front of a text. The host begins
-- at this index
abbrev pub scp_end : List ℕ → ℕ → Option ℕ
scp_end text at = after_colon text (at + brackets_len (drop at text))

-- the length of a user and a host of the scp form, with the colon after them, at the front of a text; or 0
abbrev pub scp_len : List ℕ → ℕ
scp_len text = unwrap_or (option_and_then (scp_end text) (host_start text)) 0

-- ---- texts

-- the text begins as an HTTP URL, whose path may start with `?` or `#`
abbrev pub is_web : List ℕ → Bool
is_web text = has_front text (codes "http://") || has_front text (codes "https://")

-- the text between the first `://` and the first byte after it at which a path may start, if there is a `://`
abbrev pub authority : List ℕ → Option (List ℕ)
authority text = option_map (λ n. before_path (is_web text) (drop (mark_end mark.Authority text n) text)) (first_mark mark.Authority text)

-- the text ends in the scheme of HTTP and `://`
abbrev pub ends_as_web : List ℕ → Bool
ends_as_web text = ends_with (λ a b. a == b) text (codes "http://") || ends_with (λ a b. a == b) text (codes "https://")

-- the length of a scheme with a colon, but without `//`, at the front of a text; or 0
abbrev pub bare_scheme_len : List ℕ → ℕ
bare_scheme_len text = if has_front text (codes "ssh:") then 4 else (if has_front text (codes "http:") then 5
    else (if has_front text (codes "https:") then 6 else 0))

-- the length of the name of a remote helper with its `::`, which is at index `n`; 0 if the text before it is no
-- such name
abbrev pub helper_end : List ℕ → ℕ → ℕ
helper_end text n = if is_helper_name (take n text) then mark_end mark.Helper text n else 0

-- the length of the name of a remote helper with its `::` at the front of a text, or 0
abbrev pub helper_len : List ℕ → ℕ
helper_len text = unwrap_or (option_map (helper_end text) (first_mark mark.Helper text)) 0

-- a text after a token, and after the front of an authority (`is_url`) or of another text
abbrev pub named_parts : Bool → Bool → List ℕ → List Part
named_parts web true text = wide_around web (wide_in (before_path web text) text) text
named_parts web false text = tokens (take (scp_len (before_path web text)) text)
    ++ plain_parts web (drop (scp_len (before_path web text)) text)

-- a text that may begin with a token in place of a user
abbrev pub user_parts : Bool → Bool → ℕ → List ℕ → List Part
user_parts web is_url len text = hidden_part secret.Token (take len text) ++ named_parts web is_url (drop len text)

-- a text whose authority, or whose user or path if it has no `://`, begins at index `at`
abbrev pub parts_at : Bool → Bool → ℕ → List ℕ → List Part
parts_at web is_url at text = plain_parts web (take at text)
    ++ user_parts web is_url (token_len (ends_as_web (take at text)) (before_path web (drop at text))) (drop at text)

-- a text without the name of a helper, which has this length; its first `://` is at this index, if it has one
abbrev pub parts_after : ℕ → Option ℕ → List ℕ → List Part
parts_after helper None text = parts_at (is_web (drop helper text)) false (helper + bare_scheme_len (drop helper text)) text
parts_after helper (Some n) text = parts_at (is_web (drop helper text)) true (helper + mark_end mark.Authority (drop helper text) n) text

-- the pieces of a text
abbrev pub parts_of : List ℕ → List Part
parts_of text = parts_after (helper_len text) (first_mark mark.Authority (drop (helper_len text) text)) text

-- the piece is hidden as a secret of this kind
abbrev pub is_hidden_as : Secret → Part → Bool
is_hidden_as kind (shown bytes) = false
is_hidden_as secret.Password (hidden secret.Password bytes) = true
is_hidden_as secret.Token (hidden secret.Token bytes) = true
is_hidden_as _ _ = false

-- a part of the text may be a secret of this kind
abbrev pub has_secret : Secret → List ℕ → Bool
has_secret kind text = list_any (is_hidden_as kind) (parts_of text)

-- the kinds of the secrets in a text
abbrev pub kinds_of : List ℕ → Kinds
kinds_of text = record { password = has_secret secret.Password text; token = has_secret secret.Token text }

-- ---- pieces

-- the view of a piece
abbrev pub piece_part : Piece → Part
piece_part (piece.Shown bytes) = shown bytes.now
piece_part (piece.Hidden kind bytes) = hidden kind bytes.now

-- one step of the iterator: the next piece, or nothing at the end
abbrev pub GivesPart : List Part → Option Piece → List Part → Type 0
GivesPart from None next = (from ≡ []) × (next ≡ from)
GivesPart from (Some piece) next = from ≡ piece_part piece ∷ next
