-- The normal form of a URL, by which Git compares the places of `http.<url>.*` and `credential.<url>.*`
-- (git-config(1)).
use Rattle.std.specs.Prelude.{◌≡◌, ℕ, Bool, true, false, ◌&&◌, ◌||◌, ◌==◌, nat_le, ◌⊎◌, List, [], ◌∷◌, ◌++◌, map, codes, bytes_eq, Option, Some, None, option_and_then, if◌then◌else◌}
use Rattle.std.specs.List.{list_all, slice_split}
use Rattle.std.specs.Char.{is_ascii_alphanumeric}
use Rattle.percent_encoding.specs.Percent.{percent_encode_byte}
use Rattle.git_syntax.specs.Bytes.{space, slash, colon, at_sign, percent_sign, right_bracket, delete, Lacks, FreeOf, begins_by, lowercase, is_scheme_text, is_path_start, StartsPath, is_one_of, is_query_start, unrooted}
use Rattle.git_syntax.specs.Escapes.{is_sound}
use Rattle.git_syntax.specs.Grammar.{or_root}
use Rattle.git_syntax.specs.Hosts.{Number}
use Rattle.git_syntax.specs.Hosts.HostSyntax.{http_hosts}
use Rattle.git_reads.specs.Git.{escaped_byte}

-- a URL in its normal form, as far as Git compares it: a missing port means the scheme's default port, and the path
-- includes the query and the fragment
pub record NormalPlace : Type 0 where
  pub scheme : List ℕ
  pub user : Option (List ℕ)
  pub host : List ℕ
  pub port : Option ℕ
  pub path : List ℕ

-- ---- escapes

-- a printable byte that is always escaped
abbrev pub is_unsafe_mark : ℕ → Bool
is_unsafe_mark b = is_one_of (codes "<>\"%{}|\\^`") b

-- a byte that is always escaped: a control, the space, a byte outside ASCII, or one of the marks
abbrev pub is_unsafe : ℕ → Bool
is_unsafe b = nat_le b space || (nat_le delete b || is_unsafe_mark b)

-- a sub-delimiter (RFC 3986, `sub-delims`)
abbrev pub is_sub_delimiter : ℕ → Bool
is_sub_delimiter b = is_one_of (codes "!$&'()*+,;=") b

-- a delimiter (RFC 3986, `reserved`), which stays escaped if it was escaped
abbrev pub is_reserved : ℕ → Bool
is_reserved b = is_one_of (codes ":/?#[]@") b || is_sub_delimiter b

-- the normal form of a byte, which may have been escaped: an escape if it is unsafe, or if it is an escaped
-- delimiter
abbrev pub normal_byte : Bool → ℕ → List ℕ
normal_byte escaped b = if is_unsafe b || (escaped && is_reserved b) then percent_encode_byte b else b ∷ []

-- the normal form of a text with well-formed escapes: that of each byte and each escape
unfoldable pub normal_text : List ℕ → List ℕ
normal_text [] = []
normal_text (b ∷ []) = normal_byte false b
normal_text (b ∷ c ∷ []) = normal_byte false b ++ normal_byte false c
normal_text (b ∷ high ∷ low ∷ rest) =
    if b == percent_sign then normal_byte true (escaped_byte high low) ++ normal_text rest
    else normal_byte false b ++ normal_text (high ∷ low ∷ rest)

-- ---- user information

-- the user in the user information: the text before its first `:`, or all of it
abbrev pub IsUserOf : List ℕ → List ℕ → Type 0
IsUserOf info user = (FreeOf colon info × (user ≡ info))
    ⊎ ((password : List ℕ) × FreeOf colon user × (info ≡ user ++ colon ∷ password))

-- ---- hosts and ports

-- `*`
abbrev pub asterisk : ℕ
asterisk = 42

-- a byte of a host that is neither a letter nor a digit
abbrev pub is_host_mark : ℕ → Bool
is_host_mark b = is_one_of (codes ".-_[:]") b

-- a byte of a host; `globs` allows `*`
abbrev pub is_host_byte : Bool → ℕ → Bool
is_host_byte globs b = is_ascii_alphanumeric b || (is_host_mark b || (globs && b == asterisk))

-- the text is split into a name and the text of a port at its last `:`, if no `]` follows that
pub data CutsPort (text : List ℕ) (name : List ℕ) (port : List ℕ) : Type 0 where
  no_colon : FreeOf colon text → name ≡ text → port ≡ [] → CutsPort text name port
  in_brackets : (front : List ℕ) (back : List ℕ) → text ≡ front ++ colon ∷ back → FreeOf colon back
      → ¬ FreeOf right_bracket back → name ≡ text → port ≡ [] → CutsPort text name port
  at_colon : text ≡ name ++ colon ∷ port → FreeOf colon port → FreeOf right_bracket port
      → CutsPort text name port

-- the text begins without a host: it is empty or begins with `:`
abbrev pub lacks_host : List ℕ → Bool
lacks_host [] = true
lacks_host (b ∷ bs) = b == colon

-- the host in lower case. Only a `file` URL without a port may omit it; the text before a last colon is then
-- ignored
pub data HostFor (scheme : List ℕ) (text : List ℕ) (name : List ℕ) (port : List ℕ) (host : List ℕ) : Type 0 where
  named : lacks_host text ≡ false → host ≡ lowercase name → HostFor scheme text name port host
  missing : lacks_host text ≡ true → scheme ≡ codes "file" → port ≡ [] → host ≡ []
      → HostFor scheme text name port host

-- the port is the scheme's default port
abbrev pub is_own_port : List ℕ → ℕ → Bool
is_own_port scheme port = (bytes_eq scheme (codes "http") && port == 80)
    || (bytes_eq scheme (codes "https") && port == 443)

-- the text of a port: empty, or the digits of a number from 1 to 65,535
abbrev pub PortFor : List ℕ → List ℕ → Option ℕ → Type 0
PortFor scheme text port = ((text ≡ []) × (port ≡ None))
    ⊎ ((p : ℕ) × Number http_hosts text p × (port ≡ (if is_own_port scheme p then None else Some p)))

-- the text is a host and an optional port
pub record HostPort (globs : Bool) (scheme text host : List ℕ) (port : Option ℕ) : Type 0 where
  pub name : List ℕ
  pub digits : List ℕ
  pub cut : CutsPort text name digits
  pub bytes : list_all (is_host_byte globs) name ≡ true
  pub host_form : HostFor scheme text name digits host
  pub port_form : PortFor scheme digits port

-- the text is an authority: optional user information that ends at the first `@`, then a host and an optional port
pub data NormalAuthority (globs : Bool) (scheme : List ℕ) (text : List ℕ) (user : Option (List ℕ)) (host : List ℕ)
    (port : Option ℕ) : Type 0 where
  alone : FreeOf at_sign text → user ≡ None → HostPort globs scheme text host port
      → NormalAuthority globs scheme text user host port
  with_user : (info : List ℕ) (rest : List ℕ) (name : List ℕ) → FreeOf at_sign info
      → text ≡ info ++ at_sign ∷ rest → is_sound info ≡ true → IsUserOf info name
      → user ≡ Some (normal_text name) → HostPort globs scheme rest host port
      → NormalAuthority globs scheme text user host port

-- ---- paths

-- a stack of segments, the last on top, as a path: each after a `/`
abbrev pub stacked_path : List (List ℕ) → List ℕ
stacked_path [] = []
stacked_path (top ∷ below) = stacked_path below ++ slash ∷ top

-- a stack without its top, if it has one
abbrev pub without_top : List (List ℕ) → Option (List (List ℕ))
without_top [] = None
without_top (top ∷ below) = Some below

-- the stack after a segment: `.` leaves it unchanged, `..` pops it, any other segment is pushed
abbrev pub write_segment : List (List ℕ) → List ℕ → Option (List (List ℕ))
write_segment stack segment = if bytes_eq segment (codes ".") then Some stack
    else if bytes_eq segment (codes "..") then without_top stack
    else Some (segment ∷ stack)

-- the stack after several segments, in their order; none if a `..` has no segment before it
abbrev pub write_segments : List (List ℕ) → List (List ℕ) → Option (List (List ℕ))
write_segments [] stack = Some stack
write_segments (segment ∷ rest) stack = option_and_then (λ left. write_segments rest left) (write_segment stack segment)

-- the segments of a text, each in its normal form
abbrev pub normal_segments : List ℕ → List (List ℕ)
normal_segments text = map normal_text (slice_split (λ b. b == slash) text)

-- the path for the text after the authority: its segments without `.` and `..`, each after a `/`, then the query
-- and the fragment
pub record NormalPath (suffix path : List ℕ) : Type 0 where
  pub segments : List ℕ
  pub rest : List ℕ
  pub stack : List (List ℕ)
  pub joined : unrooted suffix ≡ segments ++ rest
  pub before_rest : Lacks is_query_start segments
  pub rest_starts : (rest ≡ []) ⊎ (begins_by is_query_start rest ≡ true)
  pub sound : is_sound suffix ≡ true
  pub put : write_segments (normal_segments segments) [] ≡ Some stack
  pub form : path ≡ or_root (stacked_path stack) ++ normal_text rest

-- ---- URLs

-- the text is a URL: a scheme, `://`, an authority, and the text from the first `/`, `?` or `#` on
pub record UrlCut (text scheme authority suffix : List ℕ) : Type 0 where
  pub joined : text ≡ scheme ++ (codes "://" ++ (authority ++ suffix))
  pub scheme_text : is_scheme_text scheme ≡ true
  pub before_path : Lacks (is_path_start true) authority
  pub path_starts : StartsPath true suffix

-- the text has the normal form; `globs` allows `*` in the host, as in a pattern
pub record IsNormalOf (globs : Bool) (text : List ℕ) (n : NormalPlace) : Type 0 where
  pub scheme : List ℕ
  pub authority : List ℕ
  pub suffix : List ℕ
  pub cut : UrlCut text scheme authority suffix
  pub scheme_form : n.scheme ≡ lowercase scheme
  pub authority_form : NormalAuthority globs (lowercase scheme) authority n.user n.host n.port
  pub path_form : NormalPath suffix n.path
