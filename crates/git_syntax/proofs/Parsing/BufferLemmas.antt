-- The length of the slices that are found: no part of a location is longer
-- than the piece of the text that it was read of.
use Rattle.std.proofs.Common.{◌≡◌, ℕ, suc, ◌+◌, ◌<◌, ◌≤◌, true, ◌==◌, List, [], ◌∷◌, ◌++◌, length, take, Option, refl, ap, ◌∙◌, arith, length-append}
use Rattle.std.proofs.lemmas.Bool.Decides.{nat_tests}
use Rattle.std.specs.Prelude.{codes}
use Rattle.std.specs.List.{list_all}
use Rattle.std.specs.Char.{to_ascii_lowercase}
use Rattle.std.proofs.lemmas.Bool.{cond_both}
use Rattle.std.proofs.lemmas.List.{length-map, take_more_set}
use Rattle.std.proofs.Math.ListN.{set}
use Rattle.percent_encoding.specs.Percent.{percent_decode}
use Rattle.percent_encoding.proofs.PercentLemmas.{length-percent_decode}
use Rattle.git_syntax.specs.Bytes.{colon, at_sign, left_bracket, right_bracket, percent_sign, lowercase, IsLowercase}
use Rattle.git_syntax.specs.Addresses as addresses
use Rattle.git_syntax.specs.Hosts as spec
use Rattle.git_syntax.specs.Hosts.{HostSyntax, HostText, Inner, SpellsHostPort, is_dns_byte, normal_host}
use Rattle.git_syntax.specs.Hosts.HostSyntax.{http_hosts, git_hosts, other_hosts}
use Rattle.git_syntax.specs.declared.host.HostPort.{HostPort}
use Rattle.git_syntax.specs.declared.host.HostPiece.{HostPiece}
use Rattle.git_syntax.specs.declared.host.HostPiece.TheVariants.{Simple, Address, Kept, Decoded, Literal, DecodedLiteral, Bracketed}
use Rattle.git_syntax.specs.Internal.HostPieces.{in_brackets, is_bracketed, lowercase_address, denoted_host, named_text, normal_case, slice_text, unescaped_host}
use Rattle.git_syntax.specs.Authority.{Authority, Credentials, user_beside}
use Rattle.git_syntax.specs.Grammar.{AddressedCut, HasUrlSyntax, UrlSyntax}
use Rattle.git_syntax.specs.Internal.FoundPieces.{optional_length, parts_length}
use Rattle.git_syntax.proofs.Texts.CutLemmas.{heads, tails}
use Rattle.git_syntax.proofs.Parsing.HostLemmas.{literal_normal}

-- ---- hosts

-- a text has as many bytes in lower case
pub lowercase_length : (t : List ℕ) → length (lowercase t) ≡ length t
lowercase_length t = length-map t to_ascii_lowercase

-- and in lower case up to its first `%`
pub lowercase_address_length : (t : List ℕ) → length (lowercase_address t) ≡ length t
lowercase_address_length [] = refl
lowercase_address_length (b ∷ bs) =
    cond_both (b == percent_sign) (b ∷ bs) (to_ascii_lowercase b ∷ lowercase_address bs) (λ t. length t ≡ length (b ∷ bs))
    (λ _. refl) (λ _. omega (arith, lowercase_address_length bs))

-- and in the normal form of a host
pub normal_host_length : (t : List ℕ) → length (normal_host t) ≡ length t
normal_host_length t = cond_both (list_all is_dns_byte t) (lowercase t) t (λ n. length n ≡ length t) (λ _. lowercase_length t) (λ _. refl)

-- a text in lower case stays as it is up to its first `%`
pub lowercase_address_kept : (t : List ℕ) → IsLowercase t → lowercase_address t ≡ t
lowercase_address_kept [] h = refl
lowercase_address_kept (b ∷ bs) h =
    cond_both (b == percent_sign) (b ∷ bs) (to_ascii_lowercase b ∷ lowercase_address bs) (λ t. t ≡ b ∷ bs) (λ _. refl)
    (λ _. ap (λ c. c ∷ lowercase_address bs) (heads h) ∙ ap (λ t. b ∷ t) (lowercase_address_kept bs (tails h)))

-- and so does one in the normal form of a host
pub normal_host_kept : (t : List ℕ) → IsLowercase t → normal_host t ≡ t
normal_host_kept t h = cond_both (list_all is_dns_byte t) (lowercase t) t (λ n. n ≡ t) (λ _. h) (λ _. refl)

-- a piece shows as many bytes as it denotes
pub normal_case_length : (piece : HostPiece) (t : List ℕ) → length (normal_case piece t) ≡ length t
normal_case_length piece t = grind (arith, nat_tests, lowercase_length, lowercase_address_length, normal_host_length)

-- the length of a text between brackets, and of the text after them
brackets_length : (inner rest : List ℕ) → length (left_bracket ∷ (inner ++ right_bracket ∷ rest)) ≡ length inner + 2 + length rest
brackets_length inner rest = omega (arith, length-append inner (right_bracket ∷ rest))

-- a host in brackets is the text that its piece shows, in them
pub bracketed_host : (piece : HostPiece) → is_bracketed piece ≡ true → denoted_host piece ≡ in_brackets (normal_case piece (unescaped_host piece))
bracketed_host piece h = grind arith

-- so it is two bytes longer than that
pub bracketed_host_length : (piece : HostPiece) → is_bracketed piece ≡ true → length (denoted_host piece) ≡ length (unescaped_host piece) + 2
bracketed_host_length piece h = grind (arith, nat_tests, normal_case_length, bracketed_host, length-append)

-- a bracket, a text after it and the bracket that closes, in the front of a buffer
pub brackets_put : (front suffix shown : List ℕ) (size : ℕ) → length front ≡ 1 → size < length suffix → take size suffix ≡ shown → take (size + 2) (set front 0 left_bracket ++ set suffix size right_bracket) ≡ in_brackets shown
brackets_put [] suffix shown size one within e = absurd (omega (arith, one))
brackets_put (b ∷ d ∷ front) suffix shown size one within e = absurd (omega (arith, one))
brackets_put (b ∷ []) suffix shown size one within e =
    let more : size + 2 ≡ suc (size + 1) = omega arith in
    ap (λ n. take n (left_bracket ∷ set suffix size right_bracket)) more
    ∙ ap (λ t. left_bracket ∷ t) (take_more_set suffix size right_bracket within ∙ ap (λ t. t ++ right_bracket ∷ []) e)

-- a piece takes two bytes more than its slice at most
denoted_host_length : (piece : HostPiece) → length (denoted_host piece) ≤ length (slice_text piece) + 2
denoted_host_length (Simple text) = omega arith
denoted_host_length (Address text) = omega (arith, lowercase_length text.now)
denoted_host_length (Kept text) = omega (arith, normal_host_length text.now)
denoted_host_length (Decoded text) = omega (arith, normal_host_length (percent_decode text.now), (length-percent_decode text.now).0)
denoted_host_length (Literal text) = omega (arith, lowercase_address_length text.now, brackets_length (lowercase_address text.now) [])
denoted_host_length (DecodedLiteral text) =
    omega (arith, lowercase_address_length (percent_decode text.now), (length-percent_decode text.now).0, brackets_length (lowercase_address (percent_decode text.now)) [])
denoted_host_length (Bracketed text) = omega (arith, (length-percent_decode text.now).0, brackets_length (percent_decode text.now) [])

-- and a host three
pub named_text_length : (host : HostPort) → length (named_text host) ≤ length (slice_text host.piece) + 3
named_text_length host = grind (arith, nat_tests, denoted_host_length, cond_both, length-append)

-- the normal form of a literal is as long as it
literal_length : (t n : List ℕ) → addresses.Literal t n → length n ≡ length t
literal_length t n h = ap length (literal_normal t n h) ∙ lowercase_address_length t

-- no text is longer than the text that denotes it between brackets outside HTTP
bracketed_length : (t n : List ℕ) → spec.Bracketed t n → length n ≤ length t
bracketed_length t n (spec.Bracketed.literal x h e u) = omega (arith, ap length e, (length-percent_decode x).0, literal_length t x h)
bracketed_length t n (spec.Bracketed.other h e u) = omega (arith, ap length e, (length-percent_decode t).0)

-- nor in any syntax
inner_length : (syntax : HostSyntax) (t n : List ℕ) → Inner syntax t n → length n ≤ length t
inner_length http_hosts t n h = omega (arith, literal_length t n h)
inner_length git_hosts t n h = bracketed_length t n h
inner_length other_hosts t n h = bracketed_length t n h

-- nor is a host longer than the text that denotes it outside brackets
host_text_length : (syntax : HostSyntax) (t n : List ℕ) → HostText syntax t n → length n ≤ length t
host_text_length http_hosts t n h = omega (arith, ap length h.1, normal_host_length t)
host_text_length git_hosts t n h = omega (arith, ap length h.1, normal_host_length (percent_decode t), (length-percent_decode t).0)
host_text_length other_hosts t n h = omega (arith, ap length h.1, normal_host_length (percent_decode t), (length-percent_decode t).0)

-- no host is longer than the piece that names it
pub names_length : {syntax : HostSyntax} {piece : List ℕ} {host : Option (List ℕ)} {port : Option ℕ} → SpellsHostPort syntax piece host port → optional_length host ≤ length piece
names_length {syntax} {piece} {host} (SpellsHostPort.nothing e h p) = omega (arith, ap optional_length h)
names_length {syntax} {piece} {host} (SpellsHostPort.bracketed x inner f i e h p) =
    omega (arith, ap optional_length h, ap length e, inner_length syntax x inner i, brackets_length inner [], brackets_length x [])
names_length {syntax} {piece} {host} (SpellsHostPort.bracketed_colon x inner f i e h p) =
    omega (arith, ap optional_length h, ap length e, inner_length syntax x inner i, brackets_length inner (colon ∷ []), brackets_length x (colon ∷ []))
names_length {syntax} {piece} {host} (SpellsHostPort.bracketed_port x inner digits n f i k e h p) =
    omega (arith, ap optional_length h, ap length e, inner_length syntax x inner i, brackets_length inner [], brackets_length x (colon ∷ digits))
names_length {syntax} {piece} {host} (SpellsHostPort.unbracketed r h p) = omega (arith, ap optional_length h, lowercase_length piece)
names_length {syntax} {piece} {host} (SpellsHostPort.plain named h t is p) = omega (arith, ap optional_length is, host_text_length syntax piece named t)
names_length {syntax} {piece} {host} (SpellsHostPort.plain_colon text named h t e is p) =
    omega (arith, ap optional_length is, ap length e, host_text_length syntax text named t, length-append text (colon ∷ []), length-append named (colon ∷ []))
names_length {syntax} {piece} {host} (SpellsHostPort.plain_port text named digits n h t k e is p) =
    omega (arith, ap optional_length is, ap length e, host_text_length syntax text named t, length-append text (colon ∷ digits))
names_length {syntax} {piece} {host} (SpellsHostPort.colons named s r b m t is p) = omega (arith, ap optional_length is, host_text_length syntax piece named t)

-- ---- user information and authorities

-- a user beside a password is as long as it is alone
user_beside_length : (password : Option (List ℕ)) (user : List ℕ) → optional_length (user_beside password user) ≡ length user
user_beside_length password user = grind arith

-- a user and a password are no longer than the user information that holds them
credentials_length : {text : List ℕ} {user password : Option (List ℕ)} → Credentials text user password → optional_length user + optional_length password ≤ length text
credentials_length h = grind (arith, nat_tests, user_beside_length, length-append, length-percent_decode)

-- nor are they and the host longer than the authority
authority_length : {syntax : HostSyntax} {text : List ℕ} {user password host : Option (List ℕ)} {port : Option ℕ} → Authority syntax text user password host port → optional_length user + optional_length password + optional_length host ≤ length text
authority_length {syntax} {text} {user} {password} {host} (Authority.host_alone f n u p) =
    omega (arith, names_length n, ap optional_length u, ap optional_length p)
authority_length {syntax} {text} {user} {password} {host} (Authority.with_user information piece f e c n s) =
    omega (arith, names_length n, credentials_length c, ap length e, length-append information (at_sign ∷ piece))

-- the parts of a URL are no longer than it
pub parts_within : {b : List ℕ} {parts : UrlSyntax} → HasUrlSyntax b parts → parts_length parts ≤ length b
parts_within {b} {parts} h =
    omega (arith, authority_length h.named, (length-percent_decode parts.path).0, ap length h.joined, length-append parts.scheme (codes "://" ++ (h.authority ++ parts.path)), length-append (codes "://") (h.authority ++ parts.path), length-append h.authority parts.path)

-- ---- the scp form

-- an address between brackets is no longer than the text
pub address_within : {b user address path : List ℕ} → AddressedCut b user address path → length address ≤ length b
address_within h = grind (arith, nat_tests, brackets_length, length-append)
