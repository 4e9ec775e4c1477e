-- Conditions of hints about likely mistakes in the bytes of a line.
use Rattle.std.specs.Prelude.{ℕ, Bool, false, not, ◌&&◌, ◌||◌, ◌==◌, nat_le, if◌then◌else◌, bytes_eq, List, [], ◌∷◌, length, codes, Option, Some, None, option_map}
use Rattle.std.specs.List.{list_all, list_any}
use Rattle.std.specs.Option.{option_and_then}
use Rattle.std.specs.Char.{is_ascii, is_ascii_alphabetic, is_ascii_alphanumeric, is_ascii_digit, is_ascii_uppercase}
use Rattle.git_syntax.specs.Bytes.{backslash, begins_by, begins_with, colon, left_bracket, right_bracket, slash, tilde}
use Rattle.explain_report.specs.Hints.{is_user}
use Rattle.explain_report.specs.Marks.{before, begins_with_some, suffix, halves, has_end, holds, is_among, is_among_in_any_case, is_empty, is_word, last_halves, passes, some_passes}

-- the names of transports that Git has or had
abbrev pub transports : List (List ℕ)
transports = codes "ssh" ∷ codes "git" ∷ codes "http" ∷ codes "https" ∷ codes "file" ∷ codes "ftp" ∷ codes "ftps"
    ∷ codes "git+ssh" ∷ codes "ssh+git" ∷ []

-- the schemes of URLs that name a host and a port
abbrev pub schemes_of_hosts : List (List ℕ)
schemes_of_hosts = codes "ssh" ∷ codes "git" ∷ codes "http" ∷ codes "https" ∷ []

-- the schemes that people mistype
abbrev pub mistyped : List (List ℕ)
mistyped = codes "ssh" ∷ codes "git" ∷ codes "http" ∷ codes "https" ∷ codes "file" ∷ []

-- the fronts that package managers write before a location
abbrev pub packages : List (List ℕ)
packages = codes "git+http://" ∷ codes "git+https://" ∷ codes "git+file://" ∷ codes "git+git://" ∷ codes "git::" ∷ []

-- the word is the name of a transport
abbrev pub is_transport : List ℕ → Bool
is_transport word = is_among transports word

-- the word is the name of a transport, ignoring letter case
abbrev pub is_transport_in_any_case : List ℕ → Bool
is_transport_in_any_case word = is_among_in_any_case transports word

-- the first element of a relative path, if something follows it
abbrev pub first_element : List ℕ → Option (List ℕ)
first_element path = option_and_then (λ p. if is_empty p.1 then None else Some p.0) (halves (codes "/") path)

-- ---- schemes

-- before its first `://` the line has the name of a transport in any letter case, with at least one capital letter
abbrev pub has_capital_scheme : List ℕ → Bool
has_capital_scheme line = passes (λ scheme rest. list_any is_ascii_uppercase scheme && is_transport_in_any_case scheme)
    (halves (codes "://") line)

-- before its first `:/` the line has the name of a transport other than `git`, and no `/` follows
abbrev pub has_one_slash : List ℕ → Bool
has_one_slash line = passes (λ scheme rest. is_transport scheme && (not (is_word scheme (codes "git")) && not (begins_with slash rest)))
    (halves (codes ":/") line)

-- the line begins with a front of package managers
abbrev pub begins_with_package_scheme : List ℕ → Bool
begins_with_package_scheme line = begins_with_some packages line

-- before its first `://` the line has a plain user, `@` and the name of a transport
abbrev pub has_scheme_after_user : List ℕ → Bool
has_scheme_after_user line = passes (λ front rest. passes (λ user scheme. is_user user && is_transport scheme) (halves (codes "@") front))
    (halves (codes "://") line)

-- the path has the name of a transport before its first `//`
abbrev pub lacks_colon : List ℕ → Bool
lacks_colon path = passes (λ scheme rest. is_transport scheme) (halves (codes "//") path)

-- before its first `:://` the line has the name of a transport
abbrev pub has_two_colons : List ℕ → Bool
has_two_colons line = passes (λ scheme rest. is_transport scheme) (halves (codes ":://") line)

-- before its first `://`, and between that and the next one, the line has the name of a transport
abbrev pub has_scheme_twice : List ℕ → Bool
has_scheme_twice line = passes (λ first rest. passes (λ second more. is_transport first && is_transport second) (halves (codes "://") rest))
    (halves (codes "://") line)

-- only the first bytes of the texts differ
abbrev pub is_replaced : List ℕ → List ℕ → Bool
is_replaced [] other = false
is_replaced (a ∷ rest) [] = false
is_replaced (a ∷ rest) (b ∷ others) = bytes_eq rest others

-- the text is one byte followed by the other text
abbrev pub is_longer : List ℕ → List ℕ → Bool
is_longer [] other = false
is_longer (a ∷ rest) other = bytes_eq rest other

-- the texts begin with the same two bytes in opposite orders, and are otherwise equal
abbrev pub is_swapped : List ℕ → List ℕ → Bool
is_swapped (a ∷ b ∷ rest) (c ∷ d ∷ others) = a == d && (b == c && bytes_eq rest others)
is_swapped text other = false

-- one edit at the front turns a text into the other: a byte is added, removed or replaced, or two neighbours are
-- swapped
abbrev pub is_edited : List ℕ → List ℕ → Bool
is_edited text other = is_replaced text other || (is_longer text other || (is_longer other text || is_swapped text other))

-- one such edit, after the front that both texts share, turns a text into the other
abbrev pub is_one_edit : List ℕ → List ℕ → Bool
is_one_edit [] other = is_edited [] other
is_one_edit (a ∷ rest) [] = is_edited (a ∷ rest) []
is_one_edit (a ∷ rest) (b ∷ others) = if a == b then is_one_edit rest others else is_edited (a ∷ rest) (b ∷ others)

-- before its first `://` the line has letters and digits that aren't a transport, but are one edit away from a scheme
abbrev pub has_near_scheme : List ℕ → Bool
has_near_scheme line = passes (λ scheme rest. list_all is_ascii_alphanumeric scheme
    && (not (is_transport_in_any_case scheme) && list_any (is_one_edit scheme) mistyped))
    (halves (codes "://") line)

-- ---- hosts and ports

-- the text after the first `://`, if the scheme before it is that of a URL with a host
abbrev pub rest_of_url : List ℕ → Option (List ℕ)
rest_of_url line = option_and_then (λ p. if is_among schemes_of_hosts p.0 then Some p.1 else None) (halves (codes "://") line)

-- `[` or `]`
abbrev pub is_bracket : ℕ → Bool
is_bracket b = b == left_bracket || b == right_bracket

-- a letter or `~`
abbrev pub begins_word : ℕ → Bool
begins_word b = is_ascii_alphabetic b || b == tilde

-- a host without brackets, one `:`, and a letter or `~` after it
abbrev pub is_host_and_word : List ℕ → Bool
is_host_and_word bytes = passes (λ host word. begins_by begins_word word
    && (not (list_any is_bracket host) && (not (is_empty host) && not (holds (codes ":") word))))
    (halves (codes ":") bytes)

-- the text of a URL in the place of its host and port: before the first `/` and after the last `@`
abbrev pub place_of : List ℕ → List ℕ
place_of rest = suffix (codes "@") (before (codes "/") rest)

-- a URL with a host has a word in place of its port
abbrev pub has_colon_for_slash : List ℕ → Bool
has_colon_for_slash line = some_passes (λ rest. is_host_and_word (place_of rest)) (rest_of_url line)

-- the text contains `%40`, at least one byte after the last one, and no `@`
abbrev pub is_escaped_user : List ℕ → Bool
is_escaped_user front = passes (λ user host. not (is_empty host) && not (holds (codes "@") front)) (last_halves (codes "%40") front)

-- a URL with a host has an escaped `@`, and no other one, before the first `/`, `?` or `#`
abbrev pub has_escaped_at : List ℕ → Bool
has_escaped_at line = some_passes (λ rest. is_escaped_user (before (codes "#") (before (codes "?") (before (codes "/") rest))))
    (rest_of_url line)

-- at least one byte precedes the first `/`
abbrev pub has_host : List ℕ → Bool
has_host place = passes (λ host path. not (is_empty host)) (halves (codes "/") place)

-- at least one byte and then a `/` follow the last `@`
abbrev pub has_place_after_user : List ℕ → Bool
has_place_after_user bytes = passes (λ user place. has_host place) (last_halves (codes "@") bytes)

-- the text has a `:` and no `@` before its first `/`, and after it an `@`, which a byte and a `/` follow
abbrev pub is_cut_in_password : List ℕ → Bool
is_cut_in_password rest = passes (λ front below. holds (codes ":") front && (not (holds (codes "@") front) && has_place_after_user below))
    (halves (codes "/") rest)

-- a `/` cuts the password of a URL with a host
abbrev pub has_slash_in_password : List ℕ → Bool
has_slash_in_password line = some_passes is_cut_in_password (rest_of_url line)

-- the text of a refused URL in the place of a host without brackets
abbrev pub host_of_refused : List ℕ → Option (List ℕ)
host_of_refused line = option_map (λ p. before (codes ":") (place_of p.1)) (halves (codes "://") line)

-- the text has a byte beyond ASCII
abbrev pub is_wide : List ℕ → Bool
is_wide text = not (list_all is_ascii text)

-- a URL of HTTP has a byte beyond ASCII in the place of its host
abbrev pub has_wide_host_of_web : List ℕ → Bool
has_wide_host_of_web line = begins_with_some (codes "http://" ∷ codes "https://" ∷ []) line
    && some_passes is_wide (host_of_refused line)

-- the empty text, or a text that ends with `@` and doesn't contain `://`
abbrev pub is_before_brackets : List ℕ → Bool
is_before_brackets front = (is_empty front || has_end front (codes "@")) && not (holds (codes "://") front)

-- a host, `:` and digits
abbrev pub is_host_and_port : List ℕ → Bool
is_host_and_port bytes = passes (λ host port. not (is_empty host) && (not (is_empty port) && list_all is_ascii_digit port))
    (halves (codes ":") bytes)

-- before its first `]:` the line has brackets around a host and digits, at the front or after an `@`, and isn't a URL
abbrev pub has_port_in_brackets : List ℕ → Bool
has_port_in_brackets line = passes (λ front rest. passes (λ user inside. is_before_brackets user && is_host_and_port inside) (halves (codes "[") front))
    (halves (codes "]:") line)

-- one to five digits
abbrev pub may_be_port : List ℕ → Bool
may_be_port port = not (is_empty port) && (nat_le (length port) 5 && list_all is_ascii_digit port)

-- the path begins with one to five digits and `/`
abbrev pub begins_with_port : List ℕ → Bool
begins_with_port path = passes (λ port rest. may_be_port port) (halves (codes "/") path)

-- the text begins with `\`, or with a `/` that no `~` follows
abbrev pub begins_on_drive : List ℕ → Bool
begins_on_drive [] = false
begins_on_drive (b ∷ rest) = b == backslash || (b == slash && not (begins_with tilde rest))

-- the line begins with a letter, `:`, and either `\` or a `/` that no `~` follows
abbrev pub begins_with_drive : List ℕ → Bool
begins_with_drive [] = false
begins_with_drive (letter ∷ []) = false
begins_with_drive (letter ∷ mark ∷ rest) = is_ascii_alphabetic letter && (mark == colon && begins_on_drive rest)

-- the text is a letter and `:`
abbrev pub is_drive : List ℕ → Bool
is_drive [] = false
is_drive (letter ∷ rest) = is_ascii_alphabetic letter && is_word rest (codes ":")
