-- The reading of a text that names a remote by Git's own transports, on Linux. A text has no reading here if
-- Git passes it to a remote helper, reads it as an option or refuses it, or if Secure Shell refuses its user.
-- This is a model of Git, not proved of it: `tests/witnesses/test_git.py` compares
-- `transport::reading`, which is proved of the model, with Git.
use Rattle.std.specs.Prelude.{◌≡◌, ℕ, zero, suc, ◌+◌, ◌*◌, ◌<◌, Bool, false, not, ◌&&◌, ◌==◌, nat_le, ◌⊎◌, List, [], ◌∷◌, ◌++◌, length, codes, Option, Some, None, if◌then◌else◌}
use Rattle.std.specs.List.{list_all}
use Rattle.std.specs.Char.{digit_value, is_ascii_digit}
use Rattle.std.specs.Str.Parse.{digits_value}
use Rattle.percent_encoding.specs.Percent.{is_escape}
use Rattle.git_syntax.specs.Location.{Scheme}
use Rattle.git_syntax.specs.Location.Scheme.{file, git, ssh}
use Rattle.git_syntax.specs.Bytes.{newline, plus_sign, hyphen, slash, colon, at_sign, left_bracket, right_bracket, tilde, FreeOf, begins_with, Holds, is_option_like, is_c_space}
use Rattle.git_syntax.specs.Schemes.{scheme_of}
use Rattle.git_syntax.specs.Authority.{unless_empty}
use Rattle.git_syntax.specs.Grammar.{HasHelperForm}

-- the place that Git reads: a file has a path only
pub record GitReading : Type 0 where
  pub protocol : Scheme
  pub user : Option (List ℕ)
  pub host : Option (List ℕ)
  pub port : Option ℕ
  pub path : List ℕ

-- a place on this machine
abbrev pub on_this_machine : List ℕ → GitReading
on_this_machine whole = record {
  protocol = file;
  user = None;
  host = None;
  port = None;
  path = whole;
}

-- ---- escapes

-- the byte of an escape with these two hexadecimal digits
abbrev pub escaped_byte : ℕ → ℕ → ℕ
escaped_byte high low = 16 * digit_value high + digit_value low

-- the three bytes are an escape, and not that of byte 0
abbrev pub is_git_escape : ℕ → ℕ → ℕ → Bool
is_git_escape b high low = is_escape b high low && not (escaped_byte high low == 0)

-- the text with each escape replaced by its byte, except for the escape of byte 0
abbrev pub git_decode : List ℕ → List ℕ
git_decode [] = []
git_decode (b ∷ []) = b ∷ []
git_decode (b ∷ c ∷ []) = b ∷ c ∷ []
git_decode (b ∷ high ∷ low ∷ rest) =
    if is_git_escape b high low then escaped_byte high low ∷ git_decode rest
    else b ∷ git_decode (high ∷ low ∷ rest)

-- ---- brackets

-- the mark before a bracket that opens a host
abbrev pub host_mark : List ℕ
host_mark = codes "@["

-- a bracket opens a host: the first one that follows an `@`, or else one at the front
pub data OpensHost (t front rest : List ℕ) : Type 0 where
  after_at : (user : List ℕ) → ¬ Holds host_mark user → front ≡ user ++ at_sign ∷ []
      → t ≡ user ++ (host_mark ++ rest) → OpensHost t front rest
  at_front : ¬ Holds host_mark t → front ≡ [] → t ≡ left_bracket ∷ rest → OpensHost t front rest

-- a bracket opens a host, and the next `]` closes it
pub record BracketCut (t front inside suffix : List ℕ) : Type 0 where
  pub opened : OpensHost t front (inside ++ right_bracket ∷ suffix)
  pub next : FreeOf right_bracket inside

-- no bracket opens a host, or none closes it
pub data LacksHostBrackets (t : List ℕ) : Type 0 where
  unopened : ¬ Holds host_mark t → begins_with left_bracket t ≡ false → LacksHostBrackets t
  unclosed : (front rest : List ℕ) → OpensHost t front rest → FreeOf right_bracket rest
      → LacksHostBrackets t

-- `passed` is the text before the closing `]`, which Git skips to find the host's end
pub data HostEnd (t passed rest : List ℕ) : Type 0 where
  brackets : (front inside suffix : List ℕ) → BracketCut t front inside suffix
      → passed ≡ front ++ left_bracket ∷ inside → rest ≡ right_bracket ∷ suffix
      → HostEnd t passed rest
  none : LacksHostBrackets t → passed ≡ [] → rest ≡ t → HostEnd t passed rest

-- the text is cut at the first c that isn't skipped
pub record CutsPlace (c : ℕ) (t place rest : List ℕ) : Type 0 where
  pub passed : List ℕ
  pub between : List ℕ
  pub end : HostEnd t passed (between ++ c ∷ rest)
  pub first : FreeOf c between
  pub joined : place ≡ passed ++ between

-- ---- ports

-- the port that the digits spell, if it is at most 65,535
abbrev pub digits_port : List ℕ → Option ℕ
digits_port [] = None
digits_port (b ∷ bs) =
    if list_all is_ascii_digit (b ∷ bs) && nat_le (digits_value 10 (b ∷ bs)) 65535
    then Some (digits_value 10 (b ∷ bs)) else None

-- the only number that is a port after a minus sign is 0
abbrev pub negative_port : Option ℕ → Option ℕ
negative_port None = None
negative_port (Some zero) = Some 0
negative_port (Some (suc n)) = None

-- the port that digits spell, after a sign or without one
abbrev pub signed_port : List ℕ → Option ℕ
signed_port [] = None
signed_port (b ∷ bs) =
    if b == plus_sign then digits_port bs
    else (if b == hyphen then negative_port (digits_port bs) else digits_port (b ∷ bs))

-- the port that C's `strtol` reads in a text, if there is one
abbrev pub git_port : List ℕ → Option ℕ
git_port [] = None
git_port (b ∷ bs) = if is_c_space b then git_port bs else signed_port (b ∷ bs)

-- the text before a port, and the port: only the first colon can begin one
pub data BeforePort (t front : List ℕ) (port : Option ℕ) : Type 0 where
  marked : (digits : List ℕ) (number : ℕ) → FreeOf colon front → t ≡ front ++ colon ∷ digits
      → git_port digits ≡ Some number → port ≡ Some number → BeforePort t front port
  colon_alone : FreeOf colon front → t ≡ front ++ colon ∷ [] → port ≡ None → BeforePort t front port
  unmarked : (host other : List ℕ) → FreeOf colon host → t ≡ host ++ colon ∷ other
      → 0 < length other → git_port other ≡ None → front ≡ t → port ≡ None → BeforePort t front port
  no_colon : FreeOf colon t → front ≡ t → port ≡ None → BeforePort t front port

-- the place's host without its brackets, and the port after it; any other text after a `]` is dropped
pub data HostAndPort (place host : List ℕ) (port : Option ℕ) : Type 0 where
  brackets : (front inside suffix dropped : List ℕ) → BracketCut place front inside suffix
      → host ≡ front ++ inside → BeforePort suffix dropped port → HostAndPort place host port
  none : LacksHostBrackets place → BeforePort place host port → HostAndPort place host port

-- ---- transports

-- the path from a `~` that is its second byte
abbrev pub from_tilde : List ℕ → List ℕ
from_tilde [] = []
from_tilde (a ∷ []) = a ∷ []
from_tilde (a ∷ b ∷ rest) = if b == tilde then b ∷ rest else a ∷ b ∷ rest

-- if no port follows the host, one may be in the text in its brackets
pub data SecurePort (named : List ℕ) (found : Option ℕ) (word : List ℕ)
    (port : Option ℕ) : Type 0 where
  outside : (number : ℕ) → found ≡ Some number → word ≡ named → port ≡ found
      → SecurePort named found word port
  inside : (digits : List ℕ) (number : ℕ) → found ≡ None → FreeOf colon word
      → named ≡ word ++ colon ∷ digits
      → git_port digits ≡ Some number → port ≡ Some number → SecurePort named found word port
  unmarked : (host other : List ℕ) → found ≡ None → FreeOf colon host
      → named ≡ host ++ colon ∷ other → git_port other ≡ None
      → word ≡ named → port ≡ None → SecurePort named found word port
  no_colon : found ≡ None → FreeOf colon named → word ≡ named → port ≡ None
      → SecurePort named found word port

-- Secure Shell cuts its word at the last `@`, and refuses a word in which nothing precedes that
pub data UserCut (word : List ℕ) (user : Option (List ℕ)) (host : List ℕ) : Type 0 where
  host_alone : FreeOf at_sign word → user ≡ None → host ≡ word → UserCut word user host
  with_user : (name : List ℕ) → 0 < length name → FreeOf at_sign host → word ≡ name ++ at_sign ∷ host
      → user ≡ Some name → UserCut word user host

-- the place that Secure Shell connects to, with a word, a port and a path from Git. Neither word nor path may
-- be an option, and OpenSSH reads a word that begins with `ssh://` as a URL
pub record ReachesSecure (place path : List ℕ) (reading : GitReading) : Type 0 where
  pub named : List ℕ
  pub found : Option ℕ
  pub word : List ℕ
  pub host : List ℕ
  pub user : Option (List ℕ)
  pub port : Option ℕ
  pub cut : HostAndPort place named found
  pub secure : SecurePort named found word port
  pub word_safe : is_option_like word ≡ false
  pub path_safe : is_option_like path ≡ false
  pub no_url : (rest : List ℕ) → ¬ (word ≡ codes "ssh://" ++ rest)
  pub split : UserCut word user host
  pub value : reading ≡ record {
    protocol = ssh;
    user = user;
    host = unless_empty host;
    port = port;
    path = path;
  }

-- the place that Git's own protocol connects to: it has no user, and neither its place nor its path has the end
-- of a line
pub record ReachesGit (place path : List ℕ) (reading : GitReading) : Type 0 where
  pub host : List ℕ
  pub port : Option ℕ
  pub cut : HostAndPort place host port
  pub place_line : FreeOf newline place
  pub path_line : FreeOf newline path
  pub value : reading ≡ record {
    protocol = git;
    user = None;
    host = unless_empty host;
    port = port;
    path = path;
  }

-- ---- texts

-- the text is a URL of a transport, and `rest` is the text after its `://`, decoded
pub record OwnUrl (known : Scheme) (t rest : List ℕ) : Type 0 where
  pub scheme : List ℕ
  pub spelled : List ℕ
  pub own : scheme_of scheme ≡ known
  pub joined : t ≡ scheme ++ (codes "://" ++ spelled)
  pub decoded : rest ≡ git_decode spelled

-- the text is not a URL, and not for a remote helper or `rsync`
pub record IsNoUrl (t : List ℕ) : Type 0 where
  pub no_mark : ¬ Holds (codes "://") t
  pub no_helper : ¬ HasHelperForm t
  pub no_empty_helper : (rest : List ℕ) → ¬ (t ≡ codes "::" ++ rest)
  pub no_rsync : (rest : List ℕ) → ¬ (t ≡ codes "rsync:" ++ rest)

-- the text has a colon before any `/`
pub record IsRemote (t : List ℕ) : Type 0 where
  pub front : List ℕ
  pub rest : List ℕ
  pub joined : t ≡ front ++ colon ∷ rest
  pub no_slash : FreeOf slash front

-- the text has no colon, or a `/` before it
abbrev pub IsLocal : List ℕ → Type 0
IsLocal t = FreeOf colon t
    ⊎ ((front : List ℕ) × (rest : List ℕ) × FreeOf colon front × (t ≡ front ++ slash ∷ rest))

-- the reading of a text that Git receives whole and doesn't read as an option. A local path that begins with
-- `~` has no reading: `git clone` uses it unchanged, while `git fetch`, `git push` and `git ls-remote` look
-- below a home folder
pub data ReadsInput (t : List ℕ) (reading : GitReading) : Type 0 where
  secure_url : (rest place path : List ℕ) → OwnUrl ssh t rest → CutsPlace slash rest place path
      → ReachesSecure place (from_tilde (slash ∷ path)) reading → ReadsInput t reading
  git_url : (rest place path : List ℕ) → OwnUrl git t rest → CutsPlace slash rest place path
      → ReachesGit place (from_tilde (slash ∷ path)) reading → ReadsInput t reading
  file_url : (rest place path : List ℕ) → OwnUrl file t rest → CutsPlace slash rest place path
      → reading ≡ on_this_machine (slash ∷ path) → ReadsInput t reading
  scp_form : (place path : List ℕ) → IsNoUrl t → IsRemote t → CutsPlace colon t place path
      → ReachesSecure place (from_tilde path) reading → ReadsInput t reading
  local_path : (passed path : List ℕ) → IsNoUrl t → IsLocal t → HostEnd t passed path
      → 0 < length path → is_option_like path ≡ false → begins_with tilde path ≡ false
      → reading ≡ on_this_machine path
      → ReadsInput t reading

-- Git reads this place in the text, which has no byte 0 and doesn't begin with `-`
pub record GitReads (t : List ℕ) (reading : GitReading) : Type 0 where
  pub whole : FreeOf 0 t
  pub no_option : is_option_like t ≡ false
  pub reads : ReadsInput t reading

-- a text has at most one reading by Git
abbrev pub OneGitReading : Type 0
OneGitReading = (t : List ℕ) (reading other : GitReading) → GitReads t reading → GitReads t other
    → reading ≡ other
