-- The authority of a URL (RFC 3986, section 3.2), and its length limit.
use Rattle.std.specs.Prelude.{◌≡◌, ℕ, ◌≤◌, true, false, not, List, [], ◌∷◌, ◌++◌, length, filter, codes, Option, Some, None, IsSome, IsUtf8}
use Rattle.std.specs.List.{list_all}
use Rattle.std.specs.Char.{is_ascii_whitespace}
use Rattle.percent_encoding.specs.Percent.{percent_decode}
use Rattle.git_syntax.specs.Bytes.{colon, at_sign, Lacks, FreeOf, begins_by, is_path_start, StartsPath, is_any_slash}
use Rattle.git_syntax.specs.Hosts.{HostSyntax, SpellsHostPort}
use Rattle.git_syntax.specs.Schemes.{is_web_scheme}

-- the text, or `None` if it is empty
abbrev pub unless_empty : List ℕ → Option (List ℕ)
unless_empty [] = None
unless_empty (b ∷ bs) = Some (b ∷ bs)

-- the user of a password, or without one: an empty user counts as `None` unless there is a password
abbrev pub user_beside : Option (List ℕ) → List ℕ → Option (List ℕ)
user_beside None user = unless_empty user
user_beside (Some password) user = Some user

-- the user information consists of a user and, after its first `:`, a password
pub data Credentials (text : List ℕ) (user password : Option (List ℕ)) : Type 0 where
  -- `user`
  user_alone : FreeOf colon text → IsUtf8 (percent_decode text)
      → password ≡ None → user ≡ unless_empty (percent_decode text) → Credentials text user password
  -- `user:password`
  with_password : (u w : List ℕ) → FreeOf colon u → text ≡ u ++ colon ∷ w
      → IsUtf8 (percent_decode u) → IsUtf8 (percent_decode w)
      → password ≡ unless_empty (percent_decode w) → user ≡ user_beside password (percent_decode u)
      → Credentials text user password

-- an authority consists of a user, a password, a host and a port
pub data Authority (syntax : HostSyntax) (text : List ℕ) (user password host : Option (List ℕ))
    (port : Option ℕ) : Type 0 where
  -- without user information
  host_alone : FreeOf at_sign text → SpellsHostPort syntax text host port → user ≡ None → password ≡ None
      → Authority syntax text user password host port
  -- user information, which ends at the last `@` and needs a host
  with_user : (information piece : List ℕ) → FreeOf at_sign piece
      → text ≡ information ++ at_sign ∷ piece
      → Credentials information user password → SpellsHostPort syntax piece host port → IsSome host
      → Authority syntax text user password host port

-- the text without the white space of ASCII
abbrev pub without_white_space : List ℕ → List ℕ
without_white_space text = filter (λ b. not (is_ascii_whitespace b)) text

-- the front is short enough; if nothing follows it, the whole text is
abbrev pub IsWithinLimit : List ℕ → List ℕ → List ℕ → Type 0
IsWithinLimit front [] whole = length whole ≤ 1024
IsWithinLimit front (b ∷ back) whole = length front ≤ 1024

-- a scheme and the text after its `://` are short enough: without white space and the slashes at the front, the
-- bytes before the first path start count
pub record Fits (scheme rest : List ℕ) : Type 0 where
  pub slashes : List ℕ
  pub front : List ℕ
  pub back : List ℕ
  pub scheme_length : length scheme ≤ 1024
  pub joined : without_white_space rest ≡ slashes ++ (front ++ back)
  pub skipped : list_all is_any_slash slashes ≡ true
  pub reached : begins_by is_any_slash (front ++ back) ≡ false
  pub before_path : Lacks (is_path_start (is_web_scheme scheme)) front
  pub path : StartsPath (is_web_scheme scheme) back
  pub short : IsWithinLimit front back rest

-- a text with a scheme is short enough
pub record FitsText (text : List ℕ) : Type 0 where
  pub scheme : List ℕ
  pub rest : List ℕ
  pub no_colon : FreeOf colon scheme
  pub joined : text ≡ scheme ++ (codes "://" ++ rest)
  pub fits : Fits scheme rest
