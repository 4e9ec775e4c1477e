-- A family of readers of remotes. A reader is a set of choices: at which bytes it cuts a text, and how it
-- transforms each piece. The readers that were tested differ in such choices.
use Rattle.std.specs.Prelude.{◌≡◌, ℕ, Bool, true, false, not, ◌&&◌, ◌||◌, ◌==◌, List, [], ◌∷◌, codes, bytes_eq, decimal, drop, take, Option, Some, None, option_map, if◌then◌else◌}
use Rattle.std.specs.List.{list_all, list_any}
use Rattle.std.specs.Char.{is_ascii_digit}
use Rattle.git_syntax.specs.Location.{Location}
use Rattle.git_syntax.specs.Bytes.{slash, colon, at_sign, tilde, begins_by, begins_with, is_scheme_text}
use Rattle.git_syntax.specs.Authority.{unless_empty}
use Rattle.git_syntax.specs.Schemes.{scheme_text}
use Rattle.git_readers.specs.Unambiguous.{HasDots, IsCommonHost, is_path_byte, is_unreserved}

-- ---- cuts

-- the text before the first byte that passes the test, or all of it
abbrev pub until : (ℕ → Bool) → List ℕ → List ℕ
until test [] = []
until test (b ∷ bs) = if test b then [] else b ∷ until test bs

-- the text from that byte on
abbrev pub from : (ℕ → Bool) → List ℕ → List ℕ
from test [] = []
from test (b ∷ bs) = if test b then b ∷ bs else from test bs

-- the first or the last of the bytes that may cut a text
pub data Which : Type 0 where
  first : Which
  last : Which

-- the texts before and after a cut, with another byte at the front
abbrev pub with_front : ℕ → Option (List ℕ × List ℕ) → Option (List ℕ × List ℕ)
with_front b None = None
with_front b (Some (front, rest)) = Some (b ∷ front, rest)

-- the text cut at the first c, if there is one
abbrev pub cut_first : ℕ → List ℕ → Option (List ℕ × List ℕ)
cut_first c [] = None
cut_first c (b ∷ bs) = if b == c then Some ([], bs) else with_front b (cut_first c bs)

-- the later cut if there is one, and else a cut at this byte if it is c
abbrev pub later_or : ℕ → ℕ → List ℕ → Option (List ℕ × List ℕ) → Option (List ℕ × List ℕ)
later_or c b bs None = if b == c then Some ([], bs) else None
later_or c b bs (Some later) = with_front b (Some later)

-- the text cut at the last c, if there is one
abbrev pub cut_last : ℕ → List ℕ → Option (List ℕ × List ℕ)
cut_last c [] = None
cut_last c (b ∷ bs) = later_or c b bs (cut_last c bs)

-- the text cut at the first or the last c
abbrev pub cut : Which → ℕ → List ℕ → Option (List ℕ × List ℕ)
cut first c t = cut_first c t
cut last c t = cut_last c t

-- the text before the cut, or the whole text
abbrev pub front_or : List ℕ → Option (List ℕ × List ℕ) → List ℕ
front_or whole None = whole
front_or whole (Some (front, rest)) = front

-- the text after the cut, or the whole text
abbrev pub rest_or : List ℕ → Option (List ℕ × List ℕ) → List ℕ
rest_or whole None = whole
rest_or whole (Some (front, rest)) = rest

-- the text before the cut, if there is one
abbrev pub front_of : Option (List ℕ × List ℕ) → Option (List ℕ)
front_of None = None
front_of (Some (front, rest)) = Some front

-- the text after the cut, if there is one
abbrev pub rest_of : Option (List ℕ × List ℕ) → Option (List ℕ)
rest_of None = None
rest_of (Some (front, rest)) = Some rest

-- ---- the result of a reader

-- the fields that a reader finds, the port by its digits
pub record Parts : Type 0 where
  pub scheme : List ℕ
  pub user : Option (List ℕ)
  pub password : Option (List ℕ)
  pub host : Option (List ℕ)
  pub port : Option (List ℕ)
  pub path : List ℕ

-- the path as it is in the text: in a URL, a `/` precedes the `~` of a home folder
abbrev pub path_in_text : Bool → List ℕ → List ℕ
path_in_text true path = path
path_in_text false path = if begins_with tilde path then slash ∷ path else path

-- the location's own fields
abbrev pub own_parts : Location → Parts
own_parts v = record {
  scheme = scheme_text v.scheme;
  user = v.user;
  password = v.password;
  host = v.host;
  port = option_map decimal v.port;
  path = path_in_text v.flag v.path;
}

-- ---- URLs

-- the choices of a reader of URLs
pub record UrlReader : Type 0 where
  -- how it transforms the text before it cuts: it may trim it, decode it, or write `/` for `\`
  pub prepares : List ℕ → List ℕ
  -- the bytes besides `/` at which an authority ends, like `?`, `#` or `;`
  pub ends_authority : ℕ → Bool
  -- the bytes at which a path ends, like `?`, `#` or `;`
  pub ends_path : ℕ → Bool
  -- which `@` ends user information
  pub user_cut : Which
  -- which `:` begins a password
  pub password_cut : Which
  -- which `:` begins a port
  pub port_cut : Which
  -- how it transforms a user or a password: it may decode it
  pub word : List ℕ → List ℕ
  -- how it transforms a host: it may change its case, or read numbers in it
  pub host : List ℕ → List ℕ
  -- how it transforms a path: it may decode it, or remove segments of dots
  pub path : List ℕ → List ℕ

-- the reader doesn't change a text that needs no change: a text of plain bytes, a word of unreserved ones, a
-- plain host and a path of plain bytes without segments of dots; and the only plain bytes at which it cuts are
-- `/`, `:` and `@`
pub record LeavesPlain (r : UrlReader) : Type 0 where
  pub text : (t : List ℕ) → list_all is_path_byte t ≡ true → r.prepares t ≡ t
  pub authority : (b : ℕ) → is_path_byte b ≡ true → r.ends_authority b ≡ false
  pub path_end : (b : ℕ) → is_path_byte b ≡ true → r.ends_path b ≡ false
  pub word : (t : List ℕ) → list_all is_unreserved t ≡ true → r.word t ≡ t
  pub host : (t : List ℕ) → IsCommonHost t → r.host t ≡ t
  pub path : (t : List ℕ) → list_all is_path_byte t ≡ true → ¬ HasDots t → r.path t ≡ t

-- the byte is a colon
abbrev pub is_colon : ℕ → Bool
is_colon b = b == colon

-- the text after `://`, which the first colon begins
abbrev pub after_mark : List ℕ → List ℕ
after_mark t = drop 3 (from is_colon t)

-- the byte ends an authority
abbrev pub ends_authority : UrlReader → ℕ → Bool
ends_authority r b = b == slash || r.ends_authority b

-- the user information before an authority's `@`
abbrev pub information : UrlReader → List ℕ → Option (List ℕ)
information r authority = front_of (cut r.user_cut at_sign authority)

-- the host with its port
abbrev pub named : UrlReader → List ℕ → List ℕ
named r authority = rest_or authority (cut r.user_cut at_sign authority)

-- the user in user information
abbrev pub user_in : UrlReader → List ℕ → List ℕ
user_in r t = r.word (front_or t (cut r.password_cut colon t))

-- the password in it
abbrev pub password_in : UrlReader → Option (List ℕ) → Option (List ℕ)
password_in r None = None
password_in r (Some t) = option_map r.word (rest_of (cut r.password_cut colon t))

-- the fields of an authority and of the path after it
abbrev pub parts_of : UrlReader → List ℕ → List ℕ → List ℕ → Parts
parts_of r scheme authority path = record {
  scheme = scheme;
  user = option_map (user_in r) (information r authority);
  password = password_in r (information r authority);
  host = option_map r.host (unless_empty (front_or (named r authority) (cut r.port_cut colon (named r authority))));
  port = rest_of (cut r.port_cut colon (named r authority));
  path = r.path (until r.ends_path path);
}

-- the fields that the reader finds in a prepared text
abbrev pub reads_prepared : UrlReader → List ℕ → Parts
reads_prepared r t = parts_of r (until is_colon t) (until (ends_authority r) (after_mark t))
    (from (ends_authority r) (after_mark t))

-- the fields that the reader finds in a URL
abbrev pub reads_url : UrlReader → List ℕ → Parts
reads_url r t = reads_prepared r (r.prepares t)

-- ---- remotes

-- the text begins with `://`
abbrev pub begins_mark : List ℕ → Bool
begins_mark t = bytes_eq (take 3 t) (codes "://")

-- the text has a `://`
abbrev pub holds_mark : List ℕ → Bool
holds_mark [] = false
holds_mark (b ∷ bs) = begins_mark (b ∷ bs) || holds_mark bs

-- the texts that a reader regards as URLs: those with `://` anywhere, or after a scheme
pub data UrlTest : Type 0 where
  anywhere : UrlTest
  past_scheme : UrlTest

-- the text is a URL to a reader with this test
abbrev pub is_url : UrlTest → List ℕ → Bool
is_url anywhere t = holds_mark t
is_url past_scheme t = is_scheme_text (until is_colon t) && begins_mark (from is_colon t)

-- the text has a slash
abbrev pub has_slash : List ℕ → Bool
has_slash t = list_any (λ b. b == slash) t

-- the other texts that a reader regards as the scp form: those with a colon, with one before any slash, or with
-- one that a slash follows
pub data ScpTest : Type 0 where
  any_colon : ScpTest
  before_slash : ScpTest
  slash_after : ScpTest

-- the cut is one of the scp form to a reader with this test
abbrev pub is_scp_cut : ScpTest → Option (List ℕ × List ℕ) → Bool
is_scp_cut test None = false
is_scp_cut any_colon (Some (front, rest)) = true
is_scp_cut before_slash (Some (front, rest)) = not (has_slash front)
is_scp_cut slash_after (Some (front, rest)) = has_slash rest

-- the choices of a reader of remotes
pub record Reader : Type 0 where
  pub url : UrlReader
  pub url_test : UrlTest
  pub scp_test : ScpTest
  -- which colon ends the host
  pub host_cut : Which
  -- whether it searches the whole text for the user's `@`, and only then for the colon
  pub user_first : Bool
  -- whether digits after the colon, followed by `/` or `:`, are a port
  pub digits_are_port : Bool

-- ---- the scp form

-- the byte isn't a digit
abbrev pub is_no_digit : ℕ → Bool
is_no_digit b = not (is_ascii_digit b)

-- the text begins with digits, followed by `/` or `:`
abbrev pub begins_port : List ℕ → Bool
begins_port t = begins_by is_ascii_digit t
    && (begins_with slash (from is_no_digit t) || begins_with colon (from is_no_digit t))

-- the text is cut at the colon that ends a host
abbrev pub at_colon : Reader → List ℕ → Option (List ℕ × List ℕ)
at_colon r t = cut r.host_cut colon t

-- the text is cut at the `@` that ends a user
abbrev pub at_user : Reader → List ℕ → Option (List ℕ × List ℕ)
at_user r t = cut r.url.user_cut at_sign t

-- the text before the colon; the user may have been cut off already
abbrev pub scp_front : Reader → List ℕ → List ℕ
scp_front r t = front_or t (at_colon r t)

-- the user
abbrev pub scp_user : Reader → List ℕ → Option (List ℕ)
scp_user r t = front_of (at_user r (if r.user_first then t else scp_front r t))

-- the host
abbrev pub scp_host : Reader → List ℕ → List ℕ
scp_host r t = if r.user_first then scp_front r (rest_or t (at_user r t))
    else rest_or (scp_front r t) (at_user r (scp_front r t))

-- the text after the colon
abbrev pub scp_rest : Reader → List ℕ → List ℕ
scp_rest r t = if r.user_first
    then rest_or (rest_or t (at_user r t)) (at_colon r (rest_or t (at_user r t)))
    else rest_or t (at_colon r t)

-- digits after the colon are a port
abbrev pub has_port : Reader → List ℕ → Bool
has_port r rest = r.digits_are_port && begins_port rest

-- the fields that the reader finds in a text of the scp form
abbrev pub reads_scp : Reader → List ℕ → Parts
reads_scp r t = record {
  scheme = codes "ssh";
  user = option_map r.url.word (scp_user r t);
  password = None;
  host = Some (r.url.host (scp_host r t));
  port = if has_port r (scp_rest r t) then Some (until is_no_digit (scp_rest r t)) else None;
  path = r.url.path (if has_port r (scp_rest r t) then drop 1 (from is_no_digit (scp_rest r t)) else scp_rest r t);
}

-- ---- any text

-- a path of this machine
abbrev pub local_parts : List ℕ → Parts
local_parts t = record {
  scheme = codes "file";
  user = None;
  password = None;
  host = None;
  port = None;
  path = t;
}

-- the fields that the reader finds in a text
abbrev pub reads : Reader → List ℕ → Parts
reads r t = if is_url r.url_test t then reads_url r.url t
    else (if is_scp_cut r.scp_test (cut_first colon t) then reads_scp r t else local_parts t)
