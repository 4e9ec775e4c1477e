-- The text of a location: the choice of its form, then one concatenation for each form.
use Rattle.std.specs.Prelude.{ℕ, Bool, true, false, not, ◌&&◌, ◌||◌, ◌==◌, List, [], ◌∷◌, ◌++◌, codes, Option, Some, None, is_some, is_none, Result, Ok, Err, if◌then◌else◌}
use Rattle.std.specs.List.{list_any}
use Rattle.percent_encoding.specs.Percent.{percent_encode}
use Rattle.git_location.specs.declared.write_error.WriteFault.{WriteFault}
use Rattle.git_location.specs.declared.write_error.WriteFault.TheVariants.{HelperName, HelperParts, RelativeSsh, UserWithoutHost}
use Rattle.git_syntax.specs.Location.{Scheme, Location}
use Rattle.git_syntax.specs.Location.Scheme.{file, ssh, http, https, ext, helper}
use Rattle.git_syntax.specs.Bytes.{slash, colon, at_sign, left_bracket, right_bracket, tilde, begins_with, is_helper_name}
use Rattle.git_syntax.specs.Escapes.{matches, has_percent, path_set, password_set, user_set, escaped_percents}
use Rattle.git_syntax.specs.AddressTest.{is_ipv6_text}
use Rattle.git_syntax.specs.Schemes.{scheme_text, requires_path}
use Rattle.git_syntax.specs.Hosts.{port_part, raw_user}

-- the forms of a text
pub data Form : Type 0 where
  helper_form : Form
  path_form : Form
  scp_form : Form
  canonical_form : Form

-- a form in which a user needs a host
abbrev pub with_host : Location → Form → Result Form WriteFault
with_host v form = if is_some v.user && is_none v.host then Err UserWithoutHost else Ok form

-- the location has a user, a password, a host or a port
abbrev pub has_authority : Location → Bool
has_authority v = is_some v.user || (is_some v.password || (is_some v.host || is_some v.port))

-- the form of a remote helper of this name
abbrev pub helper_choice : List ℕ → Location → Result Form WriteFault
helper_choice name v = if is_helper_name name
    then (if has_authority v then Err HelperParts else Ok helper_form) else Err HelperName

-- the location requests the alternative form, which is not a URL, and can have it
abbrev pub is_alternative : Location → Bool
is_alternative v = v.flag && (is_none v.password && is_none v.port)

-- the path is not empty, not rooted and not below a home folder
abbrev pub is_relative : List ℕ → Bool
is_relative [] = false
is_relative (b ∷ bs) = not (b == slash) && not (b == tilde)

-- the form of a location of Secure Shell
abbrev pub ssh_choice : Location → Result Form WriteFault
ssh_choice v =
    if is_relative v.path
    then (if is_some v.host && (is_none v.password && is_none v.port) then Ok scp_form
    else Err RelativeSsh)
    else (if is_alternative v then with_host v scp_form else with_host v canonical_form)

-- the form of a location, by its scheme
abbrev pub choice_by : Scheme → Location → Result Form WriteFault
choice_by ext v = helper_choice (codes "ext") v
choice_by (helper name) v = helper_choice name v
choice_by ssh v = ssh_choice v
choice_by file v = if is_alternative v then with_host v path_form else with_host v canonical_form
choice_by _ v = with_host v canonical_form

-- the form of a location, or the fault if it has none
abbrev pub choice : Location → Result Form WriteFault
choice v = choice_by v.scheme v

-- ---- the helper form

-- the name of the helper, `::` and the path
abbrev pub helper_text : Location → List ℕ
helper_text v = scheme_text v.scheme ++ (colon ∷ (colon ∷ v.path))

-- ---- path and scp form

-- the text has a colon
abbrev pub has_colon : List ℕ → Bool
has_colon text = list_any (λ b. b == colon) text

-- the host has a colon and doesn't begin with a bracket
abbrev pub wants_brackets : List ℕ → Bool
wants_brackets host = has_colon host && not (begins_with left_bracket host)

-- the host, unescaped, in brackets if it needs them
abbrev pub raw_host : Option (List ℕ) → List ℕ
raw_host None = []
raw_host (Some host) = if wants_brackets host then left_bracket ∷ (host ++ right_bracket ∷ [])
    else host

-- the user, the host and the path, unescaped
abbrev pub path_form_text : Location → List ℕ
path_form_text v = raw_user v.user ++ (raw_host v.host ++ v.path)

-- the user, the host, a colon and the path, unescaped
abbrev pub scp_text : Location → List ℕ
scp_text v = raw_user v.user ++ (raw_host v.host ++ colon ∷ v.path)

-- ---- the canonical form

-- the password after its colon, escaped
abbrev pub escaped_password : Option (List ℕ) → List ℕ
escaped_password None = []
escaped_password (Some password) = colon ∷ percent_encode password_set password

-- the user information and `@`, escaped: a password without a user is left out
abbrev pub user_information : Option (List ℕ) → Option (List ℕ) → List ℕ
user_information None password = []
user_information (Some user) password = percent_encode user_set user
    ++ (escaped_password password ++ at_sign ∷ [])

-- the scheme's hosts are written unescaped outside brackets
abbrev pub keeps_host : Scheme → Bool
keeps_host file = true
keeps_host http = true
keeps_host https = true
keeps_host _ = false

-- a host outside brackets: unescaped, or escaped except for the colons of an address
abbrev pub open_host : Scheme → List ℕ → List ℕ
open_host scheme host = if keeps_host scheme then host
    else (if is_ipv6_text host then percent_encode password_set host
    else percent_encode user_set host)

-- the host is written in brackets: it needs them, and there is a port or the host has a `%`
abbrev pub needs_brackets : Option ℕ → List ℕ → Bool
needs_brackets port host = wants_brackets host && (is_some port || has_percent host)

-- the host of a URL
abbrev pub canonical_host : Location → List ℕ → List ℕ
canonical_host v host = if needs_brackets v.port host
    then left_bracket ∷ (escaped_percents host ++ right_bracket ∷ []) else open_host v.scheme host

-- the host of a URL, if there is one
abbrev pub host_part : Location → Option (List ℕ) → List ℕ
host_part v None = []
host_part v (Some host) = canonical_host v host

-- the `/` before a path that lacks it, if one is needed
abbrev pub root_part : Location → List ℕ
root_part v = if requires_path v.scheme && not (begins_with slash v.path) then slash ∷ [] else []

-- the path as it is written without a spelling: escaped for HTTP, unescaped for any other scheme
abbrev pub plain_path : Scheme → List ℕ → List ℕ
plain_path http path = percent_encode path_set path
plain_path https path = percent_encode path_set path
plain_path _ path = path

-- the spelling if it decodes to the path, and else `other`
abbrev pub matching_or : Option (List ℕ) → List ℕ → List ℕ → List ℕ
matching_or None path other = other
matching_or (Some spelling) path other = if matches (Some spelling) path then spelling else other

-- the spelling of the path if it decodes to the path, and else the path
abbrev pub original_path : Location → List ℕ
original_path v = matching_or v.spelling v.path v.path

-- the path of a URL
abbrev pub canonical_path : Location → List ℕ
canonical_path v = root_part v ++ matching_or v.spelling v.path (plain_path v.scheme v.path)

-- the text of a URL: the scheme, `://`, the user information, the host, the port and the path
abbrev pub canonical_text : Location → List ℕ
canonical_text v = scheme_text v.scheme
    ++ (codes "://" ++ (user_information v.user v.password
    ++ (host_part v v.host ++ (port_part v.port ++ canonical_path v))))

-- ---- the text

-- the text of a location in this form
abbrev pub text_in : Form → Location → List ℕ
text_in helper_form v = helper_text v
text_in path_form v = path_form_text v
text_in scp_form v = scp_text v
text_in canonical_form v = canonical_text v

-- the text in the form that was chosen, or the fault
abbrev pub in_form : Result Form WriteFault → Location → Result (List ℕ) WriteFault
in_form (Ok form) v = Ok (text_in form v)
in_form (Err fault) v = Err fault

-- the text of a location, or the fault if it has none
abbrev pub text : Location → Result (List ℕ) WriteFault
text v = in_form (choice v) v
