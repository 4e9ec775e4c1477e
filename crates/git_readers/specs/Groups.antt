-- Groups of readers that cut remotes differently from Git, and the host that each finds in a text.
use Rattle.std.specs.Prelude.{ℕ, ◌+◌, ◌-◌, Bool, true, not, ◌&&◌, ◌||◌, ◌==◌, nat_le, List, [], ◌∷◌, ◌++◌, length, take, codes, Option, Some, None, if◌then◌else◌}
use Rattle.std.specs.List.{list_all}
use Rattle.std.specs.Char.{is_ascii_digit}
use Rattle.git_syntax.specs.Bytes.{dot, slash, colon, at_sign, backslash, left_bracket, right_bracket, begins_by, begins_with, is_path_start, is_scheme_text, is_any_slash}
use Rattle.git_syntax.specs.Authority.{unless_empty}
use Rattle.git_syntax.specs.Schemes.{is_web_scheme}
use Rattle.git_readers.specs.Readers.{begins_port, cut_first, cut_last, from, front_or, is_no_digit, rest_or, until}
use Rattle.git_readers.specs.declared.groups.Group.{Group}
use Rattle.git_readers.specs.declared.groups.Group.TheVariants as group

-- ---- hosts

-- the host with its port, in an authority
abbrev pub named_in : List ℕ → List ℕ
named_in authority = rest_or authority (cut_last at_sign authority)

-- the text before the first `]`
abbrev pub before_bracket : List ℕ → List ℕ
before_bracket t = front_or t (cut_first right_bracket t)

-- the host without its port: the text in brackets, or the text before the last colon
abbrev pub host_of : List ℕ → List ℕ
host_of [] = []
host_of (b ∷ rest) = if b == left_bracket then before_bracket rest else front_or (b ∷ rest) (cut_last colon (b ∷ rest))

-- the host in an authority
abbrev pub host_in : List ℕ → List ℕ
host_in authority = host_of (named_in authority)

-- the authority at the front of a text: by RFC 3986 it ends at `/`, `?` or `#`
abbrev pub authority : List ℕ → List ℕ
authority t = until (is_path_start true) t

-- the authority of the URL Standard ends at `\` too
abbrev pub standard_authority : List ℕ → List ℕ
standard_authority t = front_or (authority t) (cut_first backslash (authority t))

-- ---- URLs

-- the text that follows two slashes
abbrev pub after_slashes : List ℕ → Option (List ℕ)
after_slashes [] = None
after_slashes (a ∷ []) = None
after_slashes (a ∷ b ∷ rest) = if a == slash && b == slash then Some rest else None

-- the text that follows a scheme and two slashes
abbrev pub after_scheme : Option (List ℕ × List ℕ) → Option (List ℕ)
after_scheme None = None
after_scheme (Some (scheme, rest)) = if is_scheme_text scheme then after_slashes rest else None

-- the text from the authority of a URL, or of a relative URL, on
abbrev pub url_rest : List ℕ → Option (List ℕ)
url_rest t = if begins_with slash t then after_slashes t else after_scheme (cut_first colon t)

-- neither `/` nor `\`
abbrev pub is_no_slash : ℕ → Bool
is_no_slash b = not (is_any_slash b)

-- the text after a scheme of HTTP, its colon and any slashes
abbrev pub after_web_scheme : Option (List ℕ × List ℕ) → Option (List ℕ)
after_web_scheme None = None
after_web_scheme (Some (scheme, rest)) = if is_web_scheme scheme then Some (from is_no_slash rest) else None

-- the text from the authority of a URL of HTTP on, by the URL Standard
abbrev pub standard_rest : List ℕ → Option (List ℕ)
standard_rest t = after_web_scheme (cut_first colon t)

-- the host in an authority, if it isn't empty
abbrev pub some_host : List ℕ → Option (List ℕ)
some_host t = unless_empty (host_in t)

-- the host of a URL, by RFC 3986
abbrev pub url_host : Option (List ℕ) → Option (List ℕ)
url_host None = None
url_host (Some rest) = some_host (authority rest)

-- the host of a URL, by the URL Standard
abbrev pub standard_host : Option (List ℕ) → Option (List ℕ)
standard_host None = None
standard_host (Some rest) = some_host (standard_authority rest)

-- ---- four numbers

-- a number of an IPv4 address: one to three digits
abbrev pub is_number : List ℕ → Bool
is_number label = begins_by is_ascii_digit label && list_all is_ascii_digit label && nat_le (length label) 3

-- the text that follows the cut, if a number is before it
abbrev pub after_number_cut : Option (List ℕ × List ℕ) → Option (List ℕ)
after_number_cut None = None
after_number_cut (Some (label, rest)) = if is_number label then Some rest else None

-- the text that follows a number and a dot
abbrev pub after_number : Option (List ℕ) → Option (List ℕ)
after_number None = None
after_number (Some t) = after_number_cut (cut_first dot t)

-- the text that follows four numbers, each with a dot
abbrev pub after_numbers : List ℕ → Option (List ℕ)
after_numbers t = after_number (after_number (after_number (after_number (Some t))))

-- the text before the dot that precedes `rest`
abbrev pub before_rest : List ℕ → Option (List ℕ) → Option (List ℕ)
before_rest t None = None
before_rest t (Some rest) = Some (take (length t - (length rest + 1)) t)

-- the four numbers that begin a host, if a name follows them
abbrev pub numbers_of : Option (List ℕ) → Option (List ℕ)
numbers_of None = None
numbers_of (Some host) = before_rest host (after_numbers host)

-- ---- the scp form

-- a text that is cut at its first colon, unless the cut is that of a remote helper or of a URL
abbrev pub unless_other : List ℕ × List ℕ → Option (List ℕ × List ℕ)
unless_other (front, []) = Some (front, [])
unless_other (front, b ∷ rest) = if b == colon || (b == slash && begins_with slash rest) then None
    else Some (front, b ∷ rest)

-- the cut at the first colon, if there is one and it isn't that of a remote helper or of a URL
abbrev pub scp_cut_at : Option (List ℕ × List ℕ) → Option (List ℕ × List ℕ)
scp_cut_at None = None
scp_cut_at (Some pair) = unless_other pair

-- the text cut at its first colon, if that may end the host of an scp form
abbrev pub scp_cut : List ℕ → Option (List ℕ × List ℕ)
scp_cut t = scp_cut_at (cut_first colon t)

-- the host before the first colon, and after the last `@` before it
abbrev pub colon_host : Option (List ℕ × List ℕ) → Option (List ℕ)
colon_host None = None
colon_host (Some (front, rest)) = unless_empty (named_in front)

-- the host of the URL as which an scp form is rewritten
abbrev pub made_host : Option (List ℕ × List ℕ) → Option (List ℕ)
made_host None = None
made_host (Some (front, rest)) = some_host (authority front)

-- the host with its port, if the path begins with digits that may be one
abbrev pub port_host : Option (List ℕ × List ℕ) → Option (List ℕ)
port_host None = None
port_host (Some (front, rest)) = if begins_port rest then Some (named_in (front ++ colon ∷ until is_no_digit rest)) else None

-- the host between a cut and the next colon
abbrev pub next_host : Option (List ℕ × List ℕ) → Option (List ℕ)
next_host None = None
next_host (Some (host, rest)) = unless_empty host

-- the host between the first `@` and the next colon
abbrev pub after_user : Option (List ℕ × List ℕ) → Option (List ℕ)
after_user None = None
after_user (Some (user, rest)) = next_host (cut_first colon rest)

-- the host after the first `@` of an scp form
abbrev pub user_host : List ℕ → Option (List ℕ × List ℕ) → Option (List ℕ)
user_host t None = None
user_host t (Some pair) = after_user (cut_first at_sign t)

-- ---- groups

-- the host that the readers of the group find in a text, if they find one
abbrev pub host_by : Group → List ℕ → Option (List ℕ)
host_by group.Urls t = url_host (url_rest t)
host_by group.UrlStandard t = standard_host (standard_rest t)
host_by group.MadeUrls t = made_host (scp_cut t)
host_by group.FirstColon t = colon_host (scp_cut t)
host_by group.FirstAt t = user_host t (scp_cut t)
host_by group.DigitsArePort t = port_host (scp_cut t)
host_by group.FourNumbers t = numbers_of (url_host (url_rest t))

-- the name of a group
abbrev pub group_name : Group → List ℕ
group_name group.Urls = codes "urls"
group_name group.UrlStandard = codes "url_standard"
group_name group.MadeUrls = codes "made_urls"
group_name group.FirstColon = codes "first_colon"
group_name group.FirstAt = codes "first_at"
group_name group.DigitsArePort = codes "digits_are_port"
group_name group.FourNumbers = codes "four_numbers"

-- the readers of a group in a few words
abbrev pub group_words : Group → List ℕ
group_words group.Urls = codes "readers of URLs (RFC 3986), as Go and Python"
group_words group.UrlStandard = codes "readers of the URL Standard (WHATWG), as Node and Rust"
group_words group.MadeUrls = codes "readers that make a URL of the scp form, as gh and pip"
group_words group.FirstColon = codes "readers that cut at the first colon, as dulwich"
group_words group.FirstAt = codes "readers that cut at the first @, as go-git"
group_words group.DigitsArePort = codes "readers that take digits after the colon for a port, as go-git"
group_words group.FourNumbers = codes "readers that end a host after four numbers, as Boost.URL"
