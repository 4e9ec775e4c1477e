-- The dangers in a text that is used as a remote, and in the location that is parsed from it.
use Rattle.std.specs.Prelude.{◌≡◌, ◌↔◌, ℕ, Bool, true, false, not, ◌&&◌, ◌||◌, ◌==◌, nat_le, IsTrue, ◌⊎◌, List, [], ◌∷◌, ◌++◌, codes, length, Option, Some, None, option_map}
use Rattle.std.specs.List.{filter, list_any, list_all, slice_split, starts_with}
use Rattle.std.specs.Option.{is_some}
use Rattle.std.specs.Char.{is_ascii_alphanumeric, is_ascii_digit}
use Rattle.git_syntax.specs.Bytes.{newline, carriage_return, space, hyphen, slash, colon, delete, is_option_like}
use Rattle.git_syntax.specs.Location.{Scheme, Location}
use Rattle.git_syntax.specs.Location.Scheme.{http, https, ext}
use Rattle.git_reads.specs.Git.{GitReading, GitReads}
use Rattle.git_reads.specs.Credentials.{CredentialReading, CredentialReads}
use Rattle.git_rules.specs.SameHost.{host_name}
use Rattle.git_audit.specs.Misreadings.{is_misread}
use Rattle.git_audit.specs.declared.danger.Danger.{Danger}
use Rattle.git_audit.specs.declared.danger.Danger.TheVariants as danger

-- ---- tokens

-- `_`
abbrev pub underscore : ℕ
underscore = 95

-- the prefixes of the tokens of GitHub, GitLab and Bitbucket
abbrev pub token_fronts : List (List ℕ)
token_fronts = codes "ghp_" ∷ codes "gho_" ∷ codes "ghu_" ∷ codes "ghs_" ∷ codes "ghr_" ∷ codes "github_pat_"
    ∷ codes "glpat-" ∷ codes "gldt-" ∷ codes "glrt-" ∷ codes "glcbt-" ∷ codes "glptt-" ∷ codes "glft-"
    ∷ codes "glimt-" ∷ codes "glagent-" ∷ codes "gloas-" ∷ codes "glsoat-" ∷ codes "ATBB" ∷ codes "ATCTT3" ∷ []

-- the text begins with this prefix
abbrev pub has_front : List ℕ → List ℕ → Bool
has_front text front = starts_with (λ a b. a == b) text front

-- the text begins with the prefix of a token
abbrev pub begins_as_token : List ℕ → Bool
begins_as_token text = list_any (has_front text) token_fronts

-- a byte of a token
abbrev pub is_token_byte : ℕ → Bool
is_token_byte b = is_ascii_alphanumeric b || b == underscore || b == hyphen

-- the least length of a token in a path: a shorter word may be the name of a repository
abbrev pub least_token : ℕ
least_token = 24

-- the word begins as a token, and is as long as one
unfoldable pub is_token_word : List ℕ → Bool
is_token_word word = nat_le least_token (length word) && begins_as_token word

-- a byte that no token contains
abbrev pub is_gap : ℕ → Bool
is_gap b = not (is_token_byte b)

-- a word of the text, between bytes that no token contains, is a token
abbrev pub holds_token : List ℕ → Bool
holds_token text = list_any is_token_word (slice_split is_gap text)

-- the scheme is `ext`
abbrev pub is_ext : Scheme → Bool
is_ext ext = true
is_ext _ = false

-- the scheme is `http` or `https`
abbrev pub is_of_http : Scheme → Bool
is_of_http http = true
is_of_http https = true
is_of_http _ = false

-- the least length of a user that may be a token whatever its prefix
abbrev pub least_user : ℕ
least_user = 20

-- the user of an HTTP location without a password is long
abbrev pub is_long_user : Scheme → List ℕ → Bool → Bool
is_long_user s user has_password = is_of_http s && not has_password && nat_le least_user (length user)

-- the user may be a token: it begins as one, or it is long
abbrev pub is_token_user : Scheme → List ℕ → Bool → Bool
is_token_user s user has_password = begins_as_token user || is_long_user s user has_password

-- there is a user, and it may be a token
abbrev pub has_token_user : Scheme → Option (List ℕ) → Option (List ℕ) → Bool
has_token_user s None password = false
has_token_user s (Some user) password = is_token_user s user (is_some password)

-- ---- parts

-- the part is present, and passes the test
abbrev pub is_some_with : (List ℕ → Bool) → Option (List ℕ) → Bool
is_some_with test None = false
is_some_with test (Some part) = test part

-- the path begins with `-`, or with `/-`
abbrev pub is_option_path : List ℕ → Bool
is_option_path [] = false
is_option_path (b ∷ bs) = is_option_like (b ∷ bs) || (b == slash && is_option_like bs)

-- a control character, or a space
abbrev pub is_control_or_space : ℕ → Bool
is_control_or_space b = nat_le b space || b == delete

-- a byte that ends a line, or a C string
abbrev pub is_end : ℕ → Bool
is_end b = b == newline || b == carriage_return || b == 0

-- the text contains a byte that ends a line, or a C string
abbrev pub holds_end : List ℕ → Bool
holds_end text = list_any is_end text

-- the user, the password, the host or the path contains a byte that ends a line, or a C string
abbrev pub has_end : Location → Bool
has_end v = is_some_with holds_end v.user || is_some_with holds_end v.password || is_some_with holds_end v.host
    || holds_end v.path

-- ---- hosts

-- the location has a host, and the text names it
abbrev pub NamesHost : Location → List ℕ → Type 0
NamesHost v named = option_map host_name v.host ≡ Some (host_name named)

-- the text names the location's host with a colon and digits after it
abbrev pub NamesOwnPort : Location → List ℕ → Type 0
NamesOwnPort v named = (host : List ℕ) × (digits : List ℕ) × (named ≡ host ++ colon ∷ digits)
    × (list_all is_ascii_digit digits ≡ true) × NamesHost v host

-- the text names the location's host, alone or with a port
abbrev pub NamesOwnHost : Location → List ℕ → Type 0
NamesOwnHost v named = NamesHost v named ⊎ NamesOwnPort v named

-- there is a host, and it is not the location's
abbrev pub IsOtherHost : Location → Option (List ℕ) → Type 0
IsOtherHost v None = ⊥
IsOtherHost v (Some host) = ¬ NamesHost v host

-- one of Git's transports reads a host in the text that is not the location's
abbrev pub ReachesOtherHost : List ℕ → Location → Type 0
ReachesOtherHost t v = (reading : GitReading) × GitReads t reading × IsOtherHost v reading.host

-- Git's credential code asks for a host that is not the location's
abbrev pub AsksForOtherHost : List ℕ → Location → Type 0
AsksForOtherHost t v = (reading : CredentialReading) × CredentialReads t reading
    × ¬ NamesOwnHost v reading.host

-- Git reads another host in the text than the location's: its credential code for an HTTP location, one of its
-- transports for any other
abbrev pub ReadsOtherHost : Bool → List ℕ → Location → Type 0
ReadsOtherHost true t v = AsksForOtherHost t v
ReadsOtherHost false t v = ReachesOtherHost t v

-- ---- dangers

-- the location has the danger; `other` is whether Git reads another host in the text, `misread` whether other
-- programs do
abbrev pub has_danger : Bool → Bool → Location → Danger → Bool
has_danger other misread v danger.Command = is_ext v.scheme
has_danger other misread v danger.OptionLikeUser = is_some_with is_option_like v.user
has_danger other misread v danger.OptionLikeHost = is_some_with is_option_like v.host
has_danger other misread v danger.OptionLikePath = is_option_path v.path
has_danger other misread v danger.Password = is_some v.password
has_danger other misread v danger.Token = has_token_user v.scheme v.user v.password || holds_token v.path
has_danger other misread v danger.HostCharacter = is_some_with (list_any is_control_or_space) v.host
has_danger other misread v danger.LineEnd = is_some v.host && has_end v
has_danger other misread v danger.OtherHost = other
has_danger other misread v danger.MisreadHost = misread

-- every danger, in the order of the result
abbrev pub every_danger : List Danger
every_danger = danger.Command ∷ danger.OptionLikeUser ∷ danger.OptionLikeHost ∷ danger.OptionLikePath
    ∷ danger.Password ∷ danger.Token ∷ danger.HostCharacter ∷ danger.LineEnd ∷ danger.OtherHost
    ∷ danger.MisreadHost ∷ []

-- these are the dangers of the text, and of the location that is parsed from it
abbrev pub AreDangers : List ℕ → Location → List Danger → Type 0
AreDangers t v found = (other : Bool) × (IsTrue other ↔ ReadsOtherHost (is_of_http v.scheme) t v)
    × (found ≡ filter (has_danger other (is_misread t v) v) every_danger)

-- the name of a danger
abbrev pub danger_name : Danger → List ℕ
danger_name danger.Command = codes "command"
danger_name danger.OptionLikeUser = codes "option_like_user"
danger_name danger.OptionLikeHost = codes "option_like_host"
danger_name danger.OptionLikePath = codes "option_like_path"
danger_name danger.Password = codes "password"
danger_name danger.Token = codes "token"
danger_name danger.HostCharacter = codes "host_character"
danger_name danger.LineEnd = codes "line_end"
danger_name danger.OtherHost = codes "other_host"
danger_name danger.MisreadHost = codes "misread_host"

-- a danger in a few words
abbrev pub danger_words : Danger → List ℕ
danger_words danger.Command = codes "it runs a command"
danger_words danger.OptionLikeUser = codes "the user begins with -"
danger_words danger.OptionLikeHost = codes "the host begins with -"
danger_words danger.OptionLikePath = codes "the path begins with - or /-"
danger_words danger.Password = codes "it holds a password"
danger_words danger.Token = codes "it may hold a token"
danger_words danger.HostCharacter = codes "the host holds a control character or a space"
danger_words danger.LineEnd = codes "a part holds the end of a line"
danger_words danger.OtherHost = codes "Git takes another host from it"
danger_words danger.MisreadHost = codes "other programs take another host or port from it"
