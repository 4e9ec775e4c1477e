-- Tokens: words that are secrets, by the first bytes that their issuers give them.
use Rattle.std.specs.Prelude.{ℕ, Bool, not, ◌&&◌, ◌||◌, ◌==◌, nat_le, List, [], ◌∷◌, codes, length}
use Rattle.std.specs.List.{list_any, starts_with}
use Rattle.std.specs.Char.{is_ascii_alphanumeric}
use Rattle.git_syntax.specs.Bytes.{hyphen}

-- `_`
abbrev pub underscore : ℕ
underscore = 95

-- the prefixes of the tokens of GitHub, GitLab and Bitbucket
abbrev pub token_fronts : List (List ℕ)
token_fronts = codes "ghp_" ∷ codes "gho_" ∷ codes "ghu_" ∷ codes "ghs_" ∷ codes "ghr_" ∷ codes "github_pat_"
    ∷ codes "glpat-" ∷ codes "gldt-" ∷ codes "glrt-" ∷ codes "glcbt-" ∷ codes "glptt-" ∷ codes "glft-"
    ∷ codes "glimt-" ∷ codes "glagent-" ∷ codes "gloas-" ∷ codes "glsoat-" ∷ codes "ATBB" ∷ codes "ATCTT3" ∷ []

-- the text begins with this prefix
abbrev pub has_front : List ℕ → List ℕ → Bool
has_front text front = starts_with (λ a b. a == b) text front

-- the text begins with the prefix of a token
abbrev pub begins_as_token : List ℕ → Bool
begins_as_token text = list_any (has_front text) token_fronts

-- a byte of a token
abbrev pub is_token_byte : ℕ → Bool
is_token_byte b = is_ascii_alphanumeric b || b == underscore || b == hyphen

-- a byte that no token contains
abbrev pub is_gap : ℕ → Bool
is_gap b = not (is_token_byte b)

-- the least length of a token that no `@` follows: a shorter word may be the name of a repository
abbrev pub least_token : ℕ
least_token = 24

-- the word begins as a token, and is as long as one
unfoldable pub is_token_word : List ℕ → Bool
is_token_word word = nat_le least_token (length word) && begins_as_token word

-- the least length of a user that may be a token whatever its prefix
abbrev pub least_user : ℕ
least_user = 20
