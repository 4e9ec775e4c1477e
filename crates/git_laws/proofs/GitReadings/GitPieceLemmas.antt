-- The pieces of a written text: it holds a plain user and host and
-- the port as they are, and the path is decoded.
use Rattle.std.proofs.Common.{◌≡◌, ◌∙◌, ℕ, ◌<◌, true, false, not, ◌⊎◌, inl, inr, List, [], ◌∷◌, ◌++◌, decimal, Option, Some, None, IfSome, ◌==◌, if◌then◌else◌, refl, sym, ap, subst, arith}
use Rattle.std.proofs.lemmas.Bool.Decides.{nat_tests}
use Rattle.std.specs.Prelude.{IsSome}
use Rattle.std.specs.Char.{is_ascii_digit}
use Rattle.std.proofs.lemmas.Bool.{cases_Bool, cond-true, cond-false, and_left, and_right, and_from, or_from, not_from_true}
use Rattle.percent_encoding.specs.AsciiSet.{contains, should_percent_encode}
use Rattle.percent_encoding.specs.declared.ascii_set.AsciiSet.{AsciiSet}
use Rattle.percent_encoding.specs.Percent.{percent_decode, percent_encode}
use Rattle.percent_encoding.proofs.AsciiSetLemmas.{ascii_from_kept, escaped_from_inside, kept_from_outside, outside_from_kept}
use Rattle.percent_encoding.proofs.PercentLemmas.{percent_encode-nil, percent_encode_kept}
use Rattle.git_syntax.specs.declared.escape.TheConstants.{PASSWORD, USER}
use Rattle.git_syntax.specs.Location.{Scheme, Location}
use Rattle.git_syntax.specs.Location.Scheme.{ssh, git}
use Rattle.git_syntax.specs.Addresses.{IsIpv6Text}
use Rattle.git_syntax.specs.AddressTest.{is_ipv6_text}
use Rattle.git_syntax.specs.Bytes.{percent_sign, slash, colon, at_sign, tilde, FreeOf, Lacks, begins_with}
use Rattle.git_syntax.specs.Escapes.{is_password_escaped}
use Rattle.git_syntax.specs.Schemes.{requires_path}
use Rattle.git_location.specs.Text.{raw_host, keeps_host, needs_brackets, canonical_host, user_information, root_part, plain_path, matching_or, canonical_path}
use Rattle.git_location.specs.Settled.{IsRawPath, IsTransportPath}
use Rattle.git_syntax.specs.Grammar.{begins_at_home}
use Rattle.git_syntax.specs.Hosts.{port_part, raw_user}
use Rattle.git_reads.specs.Git.{from_tilde}
use Rattle.git_class.specs.GitClass.{is_tilde_second}
use Rattle.git_syntax.proofs.Addresses.AddressTestLemmas.{ipv6_text_to}
use Rattle.git_syntax.proofs.Texts.CutLemmas.{lacks-cons, lacks_head_tail, free_head_tail, free-append, free-cons, free_of_all, free_of_lacked, begins_cut}
use Rattle.git_syntax.proofs.Texts.EscapeLemmas.{decode_byte, decode_kept}
use Rattle.git_syntax.proofs.Texts.EscapeSets.{password_holds, user_holds}
use Rattle.git_syntax.proofs.Parsing.HostLemmas.{decimal_digits}
use Rattle.git_laws.proofs.Writing.WrittenPathLemmas.{matching_cases}

-- ---- bytes that are kept

-- a text of which no byte is written as an escape is written as it is
unescaped : (set : AsciiSet) (t : List ℕ) → Lacks (should_percent_encode set) t → percent_encode set t ≡ t
unescaped set [] kept = percent_encode-nil set
unescaped set (b ∷ bs) kept =
    let parts = lacks_head_tail (should_percent_encode set) b bs kept in
    percent_encode_kept set b bs parts.0 ∙ ap (λ t. b ∷ t) (unescaped set bs parts.1)

-- and is free of the bytes of the set
pub kept_free : (set : AsciiSet) (t : List ℕ) → Lacks (should_percent_encode set) t → (c : ℕ) → contains set c ≡ true → FreeOf c t
kept_free set t kept c inside = free_of_lacked (should_percent_encode set) c t kept (escaped_from_inside set c inside)

-- a byte of a user is written unescaped if that of a password is, except a colon
user_byte_kept : (b : ℕ) → should_percent_encode PASSWORD b ≡ false → (b == colon) ≡ false → should_percent_encode USER b ≡ false
user_byte_kept b kept other =
    let ascii = ascii_from_kept PASSWORD b kept in
    let outside : is_password_escaped b ≡ false = sym (password_holds b ascii) ∙ outside_from_kept PASSWORD b kept in
    kept_from_outside USER b ascii (user_holds b ascii ∙ or_from _ _ outside other)

-- and so is a text
user_kept : (t : List ℕ) → Lacks (should_percent_encode PASSWORD) t → FreeOf colon t → Lacks (should_percent_encode USER) t
user_kept [] kept free = refl
user_kept (b ∷ bs) kept free =
    let parts = lacks_head_tail (should_percent_encode PASSWORD) b bs kept in
    let others = free_head_tail colon b bs free in
    lacks-cons (should_percent_encode USER) b bs (user_byte_kept b parts.0 others.0) (user_kept bs parts.1 others.1)

-- ---- the user

-- the text holds the user as it is
pub record IsUserRaw (user : Option (List ℕ)) : Type 0 where
  pub written : user_information user None ≡ raw_user user
  pub free : (c : ℕ) → contains USER c ≡ true → (at_sign == c) ≡ false → FreeOf c (raw_user user)

-- it does if no byte of it is written as an escape
pub user_raw : (user : Option (List ℕ)) → IfSome user (λ u. Lacks (should_percent_encode USER) u) → IsUserRaw user
user_raw user kept = grind (arith, nat_tests, unescaped, kept_free, free-append, free-cons)

-- ---- the host

-- the text holds the host as it is
pub record IsHostRaw (v : Location) (host : List ℕ) : Type 0 where
  pub written : canonical_host v host ≡ host
  pub free : (c : ℕ) → contains PASSWORD c ≡ true → FreeOf c host

-- without brackets an address is, and a host without a colon
open_written : (host : List ℕ) → Lacks (should_percent_encode PASSWORD) host → IsIpv6Text host ⊎ FreeOf colon host → (if is_ipv6_text host then percent_encode PASSWORD host else percent_encode USER host) ≡ host
open_written host h1 h2 = grind (arith, nat_tests, cond-true, ipv6_text_to, unescaped, cases_Bool, cond-false, user_kept)

-- it does if no byte of it is written as an escape
pub host_raw : (v : Location) (host : List ℕ) → keeps_host v.scheme ≡ false → needs_brackets v.port host ≡ false → Lacks (should_percent_encode PASSWORD) host → IsIpv6Text host ⊎ FreeOf colon host → IsHostRaw v host
host_raw v host escapes unmarked kept kind = grind (arith, nat_tests, kept_free, open_written, unmarked, cond-false)

-- and goes without brackets if it has no colon beside a port
pub unmarked : (port : Option ℕ) (host : List ℕ) → FreeOf percent_sign host → (IsSome port → FreeOf colon host) → needs_brackets port host ≡ false
unmarked port host free beside = grind arith

-- the text has the host of the scp form unescaped if it has no colon
pub scp_host_raw : (host : List ℕ) → FreeOf colon host → raw_host (Some host) ≡ host
scp_host_raw host free = cond-false _ _ _ (and_left _ _ free)

-- ---- the port

-- digits are free of each byte that isn't a digit
pub port_free : (c : ℕ) (port : Option ℕ) → is_ascii_digit c ≡ false → (colon == c) ≡ false → IfSome port (λ p. p < 65536) → FreeOf c (port_part port)
port_free c None other mark small = refl
port_free c (Some p) other mark small =
    free-cons c colon (decimal p) mark (free_of_all is_ascii_digit c (decimal p) (decimal_digits p small).1 other)

-- ---- the path

-- the path is decoded to a text after a `/`, and Git reads it as it is
pub record IsPathRaw (v : Location) : Type 0 where
  pub rest : List ℕ
  pub decoded : percent_decode (canonical_path v) ≡ slash ∷ rest
  pub denoted : from_tilde (slash ∷ rest) ≡ v.path
  pub free : (c : ℕ) → (slash == c) ≡ false → FreeOf c v.path → FreeOf c (slash ∷ rest)

-- a path whose second byte isn't `~` stays
pub from_tilde_kept : (path : List ℕ) → is_tilde_second path ≡ false → from_tilde path ≡ path
from_tilde_kept path other = grind arith

-- after a `/` that is one below a home folder
homeless_second : (rest : List ℕ) → begins_at_home (slash ∷ rest) ≡ false → is_tilde_second (slash ∷ rest) ≡ false
homeless_second rest other = grind arith

-- a text that begins with `~` doesn't begin with `/`
unrooted_tilde : (path rest : List ℕ) → path ≡ tilde ∷ rest → begins_with slash path ≡ false
unrooted_tilde path rest e = ap (begins_with slash) e

-- both schemes write it so
record HasPlainPaths (p : Scheme) : Type 0 where
  roots : requires_path p ≡ true
  plain : (path : List ℕ) → plain_path p path ≡ path

-- the one and the other
plain_paths : (v : Location) → (v.scheme ≡ ssh) ⊎ (v.scheme ≡ git) → HasPlainPaths v.scheme
plain_paths v h = grind arith

-- the written text for it is decoded to it
path_decoded : (v : Location) → HasPlainPaths v.scheme → IsRawPath v → percent_decode (matching_or v.spelling v.path (plain_path v.scheme v.path)) ≡ v.path
path_decoded v facts raw =
    matching_cases (λ t. percent_decode t ≡ v.path) v.spelling v.path (plain_path v.scheme v.path) (λ s is same. same) (λ none. ap percent_decode (facts.plain v.path) ∙ decode_kept v.path (raw none).0)

-- by the place of the path
path_raw_by : (v : Location) → requires_path v.scheme ≡ true → percent_decode (matching_or v.spelling v.path (plain_path v.scheme v.path)) ≡ v.path → IsTransportPath v → IsPathRaw v
path_raw_by v roots same (inl (rooted, homeless)) =
    let (rest, e) = begins_cut slash v.path rooted in
    let root : root_part v ≡ [] = cond-false _ _ _ (and_right _ _ (not_from_true _ rooted)) in
    record {
      rest = rest;
      decoded = ap (λ r. percent_decode (r ++ matching_or v.spelling v.path (plain_path v.scheme v.path))) root ∙ same ∙ e;
      denoted = from_tilde_kept (slash ∷ rest) (homeless_second rest (subst (λ p. begins_at_home p ≡ false) e homeless)) ∙ sym e;
      free = λ c other free. subst (λ p. FreeOf c p) e free;
    }
path_raw_by v roots same (inr (home, none)) =
    let (rest, e) = begins_cut tilde v.path home in
    let written = matching_or v.spelling v.path (plain_path v.scheme v.path) in
    let root : root_part v ≡ slash ∷ [] = cond-true _ _ _ (and_from _ _ roots (ap not (unrooted_tilde v.path rest e))) in
    record {
      rest = v.path;
      decoded = ap (λ r. percent_decode (r ++ written)) root ∙ decode_byte slash written refl ∙ ap (λ p. slash ∷ p) same;
      denoted = ap (λ p. from_tilde (slash ∷ p)) e ∙ sym e;
      free = λ c other free. free-cons c slash v.path other free;
    }

-- the path of a settled URL of a transport is
pub path_raw : (v : Location) → (v.scheme ≡ ssh) ⊎ (v.scheme ≡ git) → IsRawPath v → IsTransportPath v → IsPathRaw v
path_raw v transport raw path = grind (arith, nat_tests, plain_paths, path_decoded, path_raw_by)
