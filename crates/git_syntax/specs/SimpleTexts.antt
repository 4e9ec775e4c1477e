-- Simple texts, which most remotes are: the text of the location that such a text spells is the text itself.
use Rattle.std.specs.Prelude.{◌≡◌, ℕ, ◌<◌, ◌≤◌, true, false, List, ◌∷◌, ◌++◌, length, codes, Option, Some, IfSome, IsUtf8}
use Rattle.git_syntax.specs.Location.{Scheme, Location, path_alone}
use Rattle.git_syntax.specs.Location.Scheme.{file, git, ssh, http, https, helper_url}
use Rattle.git_syntax.specs.Bytes.{slash, colon, FreeOf, begins_with, is_scheme_text}
use Rattle.git_syntax.specs.Schemes.{is_known_scheme, scheme_text}
use Rattle.git_syntax.specs.Hosts.{port_part, raw_user}
use Rattle.git_syntax.specs.Grammar.{SpellsHelper, SpellsLocal, begins_at_home}
use Rattle.git_syntax.specs.Internal.HostPieces.{IsSimpleHost}
use Rattle.git_syntax.specs.Internal.Masks.{is_common}

-- a scheme of HTTP, Secure Shell or Git's own protocol, or another one, whose URLs are for a remote helper
pub data IsRemoteScheme : Scheme → Type 0 where
  of_git : IsRemoteScheme git
  of_ssh : IsRemoteScheme ssh
  of_http : IsRemoteScheme http
  of_https : IsRemoteScheme https
  of_helper : (name : List ℕ) → is_scheme_text name ≡ true → is_known_scheme name ≡ false
      → IsRemoteScheme (helper_url name)

-- each byte of the text is common, the user and the host consist of lower-case letters, digits, `-` and `.`, and
-- neither they nor the path are empty; the path doesn't begin at a home folder
pub record HasSimpleParts (b : List ℕ) (user : Option (List ℕ)) (host path : List ℕ) : Type 0 where
  pub common : is_common b ≡ true
  pub simple_user : IfSome user IsSimpleHost
  pub simple_host : IsSimpleHost host
  pub pathed : 0 < length path
  pub not_home : begins_at_home path ≡ false

-- a port that is written as it was read
abbrev pub IsSimplePort : ℕ → Type 0
IsSimplePort port = (0 < port) × (port ≤ 65535)

-- the text is a simple one, and spells this location
pub data IsSimpleText (b : List ℕ) (v : Location) : Type 0 where
  -- a remote helper
  helper_text : SpellsHelper b v → IsSimpleText b v
  -- a local path
  local_text : SpellsLocal b v → IsSimpleText b v
  -- a file URL without a host
  file_text : (path : List ℕ) → IsUtf8 b → begins_with slash path ≡ true → b ≡ codes "file://" ++ path
      → v ≡ path_alone file false path → IsSimpleText b v
  -- the scp form; its path has neither a colon nor two slashes at the front
  scp_text : (user : Option (List ℕ)) (host path : List ℕ) → HasSimpleParts b user host path → FreeOf colon path
      → ((rest : List ℕ) → ¬ (path ≡ slash ∷ (slash ∷ rest))) → b ≡ raw_user user ++ (host ++ colon ∷ path)
      → v ≡ record (path_alone ssh true path) { user = user; host = Some host } → IsSimpleText b v
  -- a URL
  url_text : (scheme : Scheme) (user : Option (List ℕ)) (host path : List ℕ) (port : Option ℕ)
      → IsRemoteScheme scheme → HasSimpleParts b user host path → IfSome port IsSimplePort
      → begins_with slash path ≡ true → length b ≤ 64
      → b ≡ scheme_text scheme ++ (codes "://" ++ (raw_user user ++ (host ++ (port_part port ++ path))))
      → v ≡ record (path_alone scheme false path) { user = user; host = Some host; port = port }
      → IsSimpleText b v
