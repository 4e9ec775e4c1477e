-- How long the text of a URL is at most, by the lengths of the parts of its location.
use Rattle.std.proofs.Common.{ℕ, ◌+◌, ◌*◌, ◌==◌, ◌≤◌, ◌<◌, List, [], ◌∷◌, ◌++◌, length, Option, Some, None, IfSome, codes, arith, length-append}
use Rattle.std.specs.Prelude.{not, ◌&&◌}
use Rattle.std.proofs.lemmas.Bool.{cond_both}
use Rattle.std.proofs.lemmas.Fmt.{length-decimal-le}
use Rattle.std.proofs.lemmas.List.Sums.{count_by-le-length}
use Rattle.percent_encoding.specs.declared.ascii_set.AsciiSet.{AsciiSet}
use Rattle.percent_encoding.specs.AsciiSet.{should_percent_encode}
use Rattle.percent_encoding.specs.Percent.{percent_encode}
use Rattle.git_syntax.specs.Location.{Scheme, Location}
use Rattle.git_syntax.specs.Location.Scheme.{file, git, ssh, http, https, ext, helper, helper_url}
use Rattle.git_syntax.specs.Bytes.{slash, at_sign, left_bracket, right_bracket, percent_sign, begins_with}
use Rattle.git_syntax.specs.Escapes.{matches, path_set, password_set, user_set, escaped_percents}
use Rattle.git_syntax.specs.AddressTest.{is_ipv6_text}
use Rattle.git_syntax.specs.Schemes.{scheme_text, requires_path}
use Rattle.git_syntax.specs.Internal.FoundPieces.{optional_length}
use Rattle.git_syntax.specs.Hosts.{port_part}
use Rattle.git_location.specs.Text.{escaped_password, user_information, keeps_host, open_host, needs_brackets, host_part, root_part, plain_path, matching_or, canonical_path, canonical_text}
use Rattle.git_location.proofs.Writing.PieceLemmas.{length_escapes, length_percents}

-- an escaped text is at most three times as long as the text
escapes_longest : (set : AsciiSet) (t : List ℕ) → length (percent_encode set t) ≤ 3 * length t
escapes_longest set t =
    let exact = length_escapes set t in
    let few = count_by-le-length (should_percent_encode set) t in
    omega (arith, exact, few)

-- and so is one of which each `%` is escaped
percents_longest : (t : List ℕ) → length (escaped_percents t) ≤ 3 * length t
percents_longest t =
    let exact = length_percents t in
    let few = count_by-le-length (λ b. b == percent_sign) t in
    omega (arith, exact, few)

-- the user information has at most two marks
password_longest : (password : Option (List ℕ)) → length (escaped_password password) ≤ 3 * optional_length password + 1
password_longest None = omega arith
password_longest (Some p) = let few = escapes_longest password_set p in omega (arith, few)

information_longest : (user password : Option (List ℕ)) → length (user_information user password) ≤ 3 * optional_length user + 3 * optional_length password + 2
information_longest None password = omega arith
information_longest (Some u) password =
    let name = escapes_longest user_set u in
    let word = password_longest password in
    let whole = length-append (percent_encode user_set u) (escaped_password password ++ at_sign ∷ []) in
    let end = length-append (escaped_password password) (at_sign ∷ []) in
    omega (arith, name, word, whole, end)

-- a host has at most two brackets
open_longest : (scheme : Scheme) (host : List ℕ) → length (open_host scheme host) ≤ 3 * length host
open_longest scheme host =
    cond_both (keeps_host scheme) _ _ (λ t. length t ≤ 3 * length host) (λ kept. omega arith)
    (λ other. cond_both (is_ipv6_text host) _ _ (λ t. length t ≤ 3 * length host) (λ address. escapes_longest password_set host) (λ name. escapes_longest user_set host))

bracketed_longest : (host : List ℕ) → length (left_bracket ∷ (escaped_percents host ++ right_bracket ∷ [])) ≤ 3 * length host + 2
bracketed_longest host =
    let few = percents_longest host in
    let whole = length-append (escaped_percents host) (right_bracket ∷ []) in
    omega (arith, few, whole)

pub host_longest : (v : Location) (host : Option (List ℕ)) → length (host_part v host) ≤ 3 * optional_length host + 2
host_longest v None = omega arith
host_longest v (Some host) =
    cond_both (needs_brackets v.port host) _ _ (λ t. length t ≤ 3 * length host + 2) (λ needed. bracketed_longest host)
    (λ unneeded. let few = open_longest v.scheme host in omega (arith, few))

-- a port has at most five digits
pub port_longest : (port : Option ℕ) → IfSome port (λ p. p < 65536) → length (port_part port) ≤ 6
port_longest None small = omega arith
port_longest (Some p) small =
    let digits = length-decimal-le 5 p (omega arith) (omega (arith, small)) (omega (arith, small)) in
    omega (arith, digits)

-- a path has at most one mark before it
root_longest : (v : Location) → length (root_part v) ≤ 1
root_longest v = cond_both (requires_path v.scheme && not (begins_with slash v.path)) (slash ∷ []) [] (λ t. length t ≤ 1) (λ needed. omega arith) (λ other. omega arith)

plain_longest : (scheme : Scheme) (path : List ℕ) → length (plain_path scheme path) ≤ 3 * length path
plain_longest http path = escapes_longest path_set path
plain_longest https path = escapes_longest path_set path
plain_longest file path = omega arith
plain_longest git path = omega arith
plain_longest ssh path = omega arith
plain_longest ext path = omega arith
plain_longest (helper name) path = omega arith
plain_longest (helper_url name) path = omega arith

-- the longer of the spelling and the path bounds both
matching_longest : (spelling : Option (List ℕ)) (path other : List ℕ) (n : ℕ) → optional_length spelling ≤ n → length other ≤ n → length (matching_or spelling path other) ≤ n
matching_longest None path other n spelled escaped = escaped
matching_longest (Some spelling) path other n spelled escaped =
    cond_both (matches (Some spelling) path) spelling other (λ t. length t ≤ n) (λ match. spelled) (λ none. escaped)

path_longest : (v : Location) (n : ℕ) → optional_length v.spelling ≤ n → 3 * length v.path ≤ n → length (canonical_path v) ≤ n + 1
path_longest v n spelled escaped =
    let written = plain_path v.scheme v.path in
    let root = root_longest v in
    let plain = plain_longest v.scheme v.path in
    let matching = matching_longest v.spelling v.path written n spelled (omega (arith, plain, escaped)) in
    let whole = length-append (root_part v) (matching_or v.spelling v.path written) in
    omega (arith, root, matching, whole)

-- the text of a URL is at most as long as its scheme, a bound on its spelling and on three times its path, three
-- times its other parts, and 14 bytes
pub text_longest : (v : Location) (n : ℕ) → IfSome v.port (λ p. p < 65536) → optional_length v.spelling ≤ n → 3 * length v.path ≤ n
    → length (canonical_text v) ≤ length (scheme_text v.scheme) + n + 3 * (optional_length v.user + optional_length v.password + optional_length v.host) + 14
text_longest v n small spelled escaped =
    let path = canonical_path v in
    let port = port_part v.port in
    let host = host_part v v.host in
    let information = user_information v.user v.password in
    let scheme_whole = length-append (scheme_text v.scheme) (codes "://" ++ (information ++ (host ++ (port ++ path)))) in
    let information_whole = length-append information (host ++ (port ++ path)) in
    let host_whole = length-append host (port ++ path) in
    let port_whole = length-append port path in
    omega (arith, scheme_whole, information_whole, host_whole, port_whole, information_longest v.user v.password, host_longest v v.host, port_longest v.port small, path_longest v n spelled escaped)
