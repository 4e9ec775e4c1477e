-- The written host and port of a settled URL, except those of HTTP, name the same host and port.
use Rattle.std.proofs.Common.{◌≡◌, ℕ, ◌<◌, true, false, inl, inr, List, [], ◌∷◌, ◌++◌, length, Option, Some, None, refl, sym, ap, subst, ◌∙◌, arith, lit<, append_assoc, append-nil, if◌then◌else◌}
use Rattle.std.specs.Prelude.{IfSome, IsUtf8, decimal}
use Rattle.std.specs.List.{list_all}
use Rattle.std.proofs.Math.Bool.{and-false}
use Rattle.std.proofs.lemmas.Bool.{and_parts, true≢false, true_from_ne_false}
use Rattle.std.proofs.lemmas.Bool.Decides.{nat_tests}
use Rattle.percent_encoding.specs.Percent.{percent_encode, percent_decode}
use Rattle.percent_encoding.proofs.PercentLemmas.{percent_encode_nonempty, percent_encode-nil}
use Rattle.git_syntax.specs.declared.escape.TheConstants.{PASSWORD, USER}
use Rattle.git_syntax.specs.Location.{Scheme, Location}
use Rattle.git_syntax.specs.Location.Scheme.{ssh}
use Rattle.git_syntax.specs.Bytes.{percent_sign, colon, left_bracket, right_bracket, FreeOf}
use Rattle.git_syntax.specs.Escapes.{has_percent, is_password_escaped, escaped_percents}
use Rattle.git_syntax.specs.Addresses.{IsIpv6Text, Literal}
use Rattle.git_syntax.specs.AddressTest.{is_ipv6_text}
use Rattle.git_syntax.specs.Hosts.{HostSyntax, normal_host, HostText, AllowsPort, Bracketed, IsPlainHost, SpellsHostPort, port_part}
use Rattle.git_syntax.specs.Hosts.HostSyntax.{http_hosts, git_hosts}
use Rattle.git_syntax.specs.Grammar.{IsSshHost}
use Rattle.git_location.specs.Text.{has_colon, wants_brackets, keeps_host, open_host, needs_brackets}
use Rattle.git_location.specs.Settled.{IsNormalName, IsNormalAddress, IsBareHost, IsBracketedHost}
use Rattle.git_laws.proofs.Writing.WrittenPieces.{WritesHost}
use Rattle.git_syntax.proofs.Texts.CutLemmas.{free_begins, free_head_tail, free_or_cut, cut_unique, not_free}
use Rattle.git_syntax.proofs.Texts.EscapeLemmas.{decode_kept, encode_free, encode_byte_kept, escaped_percents_kept}
use Rattle.git_syntax.proofs.Texts.EscapeSets.{password_holds, user_holds}
use Rattle.git_syntax.proofs.Addresses.AddressLemmas.{is_address_byte, address_byte_ascii, address_bytes, address_free, address_two_colons}
use Rattle.git_syntax.proofs.Addresses.AddressTestLemmas.{ipv6_text_to, ipv6_text_fails}
use Rattle.git_syntax.proofs.Parsing.HostLemmas.{bare_not_strict, number_written}
use Rattle.git_laws.proofs.Writing.PieceTextLemmas.{IsHostPiece, joined_hosts, host_piece, address_piece, brackets_piece, port_piece, user_piece, user_no_colon, user_decoded}

-- ---- names

-- outside HTTP every port is allowed
port_allowed : (syntax : HostSyntax) (port : ℕ) → ¬ (syntax ≡ http_hosts) → AllowsPort syntax port
port_allowed syntax port h2 = grind (arith, nat_tests)

-- outside HTTP a text denotes its decoding, if that is text in its normal form
text_read : (syntax : HostSyntax) (text host : List ℕ) → ¬ (syntax ≡ http_hosts) → percent_decode text ≡ host → IsUtf8 host → normal_host host ≡ host → HostText syntax text host
text_read syntax text host h3 h4 h5 h6 = grind (arith, nat_tests)

-- a text escaped as a user is a host outside brackets
user_plain : (t : List ℕ) → 0 < length t → IsPlainHost (percent_encode USER t)
user_plain t some = record {
  nonempty = percent_encode_nonempty USER t some;
  no_colon = user_no_colon t;
  no_bracket = free_begins left_bracket (percent_encode USER t) (encode_free USER t left_bracket (user_holds left_bracket (lit< tt)) refl);
}

-- a host outside brackets and its port name the host that it denotes and the port
plain_named : (syntax : HostSyntax) (text host : List ℕ) (port : Option ℕ) → ¬ (syntax ≡ http_hosts) → IsPlainHost text → HostText syntax text host → IfSome port (λ p. p < 65536) → SpellsHostPort syntax (text ++ port_part port) (Some host) port
plain_named syntax text host None other is h small = rw append-nil (SpellsHostPort.plain host is h refl refl)
plain_named syntax text host (Some p) other is h small = SpellsHostPort.plain_port text host (decimal p) p is h (number_written syntax p small (port_allowed syntax p other)) refl refl refl

-- the host of a URL of this scheme, as it is written beside the port
abbrev pub written_host : Scheme → Option ℕ → List ℕ → List ℕ
written_host scheme port host = if needs_brackets port host then left_bracket ∷ (escaped_percents host ++ right_bracket ∷ []) else open_host scheme host

-- a host that isn't an address and goes without brackets is escaped as a user
written_as_user : (scheme : Scheme) (port : Option ℕ) (host : List ℕ) → keeps_host scheme ≡ false → wants_brackets host ≡ false → is_ipv6_text host ≡ false → written_host scheme port host ≡ percent_encode USER host
written_as_user scheme port host escapes unmarked other = rw (unmarked, escapes, other) refl

-- such a host names itself
open_host_written : (syntax : HostSyntax) (v : Location) (host : List ℕ) → ¬ (syntax ≡ http_hosts) → keeps_host v.scheme ≡ false → 0 < length host → normal_host host ≡ host → wants_brackets host ≡ false → is_ipv6_text host ≡ false → IsUtf8 host → IfSome v.port (λ p. p < 65536) → WritesHost syntax v host host
open_host_written syntax v host other escapes some normal unmarked no_address utf8 small =
    let text : written_host v.scheme v.port host ≡ percent_encode USER host = written_as_user v.scheme v.port host escapes unmarked no_address in
    let piece : IsHostPiece (written_host v.scheme v.port host ++ port_part v.port) = rw text (joined_hosts (percent_encode USER host) (port_part v.port) (user_piece host) (port_piece v.port small)) in
    record {
      no_at = piece.no_at;
      names = rw text (plain_named syntax (percent_encode USER host) host v.port other (user_plain host some) (text_read syntax (percent_encode USER host) host other (user_decoded host utf8) utf8 normal) small);
      piece = piece.piece;
    }

-- a text with a bracket in front isn't an address
bracket_no_address : (t : List ℕ) → is_ipv6_text (left_bracket ∷ t) ≡ false
bracket_no_address t =
    ipv6_text_fails (left_bracket ∷ t) (λ h. true≢false (free_head_tail left_bracket left_bracket t (address_free left_bracket (left_bracket ∷ t) refl h)).0)

-- so a host with a bracket in front is escaped as a user
pub bracketed_escaped : (scheme : Scheme) (port : Option ℕ) (t : List ℕ) → keeps_host scheme ≡ false → written_host scheme port (left_bracket ∷ t) ≡ percent_encode USER (left_bracket ∷ t)
bracketed_escaped scheme port t escapes = written_as_user scheme port (left_bracket ∷ t) escapes (and-false _) (bracket_no_address t)

-- a settled name names itself
name_written : (syntax : HostSyntax) (v : Location) (host : List ℕ) → ¬ (syntax ≡ http_hosts) → keeps_host v.scheme ≡ false → IsNormalName host → IsUtf8 host → IfSome v.port (λ p. p < 65536) → WritesHost syntax v host host
name_written syntax v host other escapes h utf8 small =
    let free = h.unbracketed.no_colon in
    let unmarked : wants_brackets host ≡ false = rw free refl in
    let no_address = ipv6_text_fails host (λ h. let (x, y, z, is) = address_two_colons host h in not_free colon x (y ++ colon ∷ z) (subst (λ s. FreeOf colon s) is free)) in
    open_host_written syntax v host other escapes h.unbracketed.nonempty h.normal unmarked no_address utf8 small

-- the host of a settled URL of Git's own protocol or of another scheme names itself
pub bracketed_host_written : (syntax : HostSyntax) (v : Location) (host : List ℕ) → ¬ (syntax ≡ http_hosts) → keeps_host v.scheme ≡ false → IsBracketedHost host → IsUtf8 host → IfSome v.port (λ p. p < 65536) → WritesHost syntax v host host
bracketed_host_written syntax v host other escapes (inl name) utf8 small = name_written syntax v host other escapes name utf8 small
bracketed_host_written syntax v host other escapes (inr (a, address, e)) utf8 small =
    let inside = a ++ right_bracket ∷ [] in
    let bracketed : WritesHost syntax v (left_bracket ∷ inside) (left_bracket ∷ inside) =
    open_host_written syntax v (left_bracket ∷ inside) other escapes (omega arith) refl (and-false _) (bracket_no_address inside) (subst IsUtf8 e utf8) small in
    subst (λ h. WritesHost syntax v h h) (sym e) bracketed

-- ---- Secure Shell

-- a host without an opening bracket that does not end in its only colon is taken as it is
ssh_host_itself : (host : List ℕ) → FreeOf left_bracket host → ((front : List ℕ) → FreeOf colon front → ¬ (host ≡ front ++ colon ∷ [])) → IsSshHost host host
ssh_host_itself host h1 h2 = grind (arith, nat_tests, true≢false, free_head_tail)

-- no colon follows the only colon of a text
nothing_after : (front x rest : List ℕ) → FreeOf colon front → front ++ colon ∷ [] ≡ x ++ colon ∷ rest → FreeOf colon rest
nothing_after front x rest free e = elim (free_or_cut colon x) [
  | inl none ↦ subst (λ t. FreeOf colon t) (cut_unique colon front x [] rest free none e).1 refl
  | inr (y, z, none, is) ↦
      let suffix : [] ≡ z ++ colon ∷ rest = (cut_unique colon front y [] (z ++ colon ∷ rest) free none (e ∙ ap (λ t. t ++ colon ∷ rest) is ∙ append_assoc y (colon ∷ z) (colon ∷ rest))).1 in
      absurd (not_free colon z rest (subst (λ t. FreeOf colon t) suffix refl))
]

-- an address does not end in its only colon
address_colons : (a front : List ℕ) → IsIpv6Text a → FreeOf colon front → ¬ (a ≡ front ++ colon ∷ [])
address_colons a front h free e =
    let (x, y, z, is) = address_two_colons a h in
    not_free colon y z (nothing_after front x (y ++ colon ∷ z) free (sym e ∙ is))

-- an address needs brackets
address_wants : (a : List ℕ) → IsIpv6Text a → wants_brackets a ≡ true
address_wants a h =
    let closed = free_begins left_bracket a (address_free left_bracket a refl h) in
    let colons : has_colon a ≡ true = true_from_ne_false (has_colon a) (λ none.
    let (x, y, z, is) = address_two_colons a h in
    not_free colon x (y ++ colon ∷ z) (subst (λ s. FreeOf colon s) is none)) in
    rw (colons, closed) refl

-- a byte of an address is not escaped in a password
address_byte_kept : (b : ℕ) → is_address_byte b ≡ true → is_password_escaped b ≡ false
address_byte_kept b h = grind (arith, nat_tests)

-- an address escaped as a password stays
password_kept : (t : List ℕ) → list_all is_address_byte t ≡ true → percent_encode PASSWORD t ≡ t
password_kept [] h = percent_encode-nil PASSWORD
password_kept (b ∷ t) h =
    let (first, rest) = and_parts (is_address_byte b) (list_all is_address_byte t) h in
    let ascii = address_byte_ascii b first in
    encode_byte_kept PASSWORD b t ascii (password_holds b ascii ∙ address_byte_kept b first) ∙ ap (λ x. b ∷ x) (password_kept t rest)

-- without a port it is written as it is
address_alone : (scheme : Scheme) (a : List ℕ) → keeps_host scheme ≡ false → IsIpv6Text a → written_host scheme None a ≡ a
address_alone scheme a escapes h =
    let none : has_percent a ≡ false = address_free percent_sign a refl h in
    let wants = address_wants a h in
    let address = ipv6_text_to a h in
    rw (none, wants, escapes, address) (password_kept a (address_bytes a h))

-- with one it is written in brackets
pub address_in_brackets : (scheme : Scheme) (p : ℕ) (a : List ℕ) → IsIpv6Text a → written_host scheme (Some p) a ≡ left_bracket ∷ (a ++ right_bracket ∷ [])
address_in_brackets scheme p a h3 = grind (arith, nat_tests, address_wants, escaped_percents_kept, address_free)

-- the text is a piece of an authority and names a port and a host
-- from which Secure Shell takes the location's own
record SpellsSshHost (text : List ℕ) (host : List ℕ) (port : Option ℕ) : Type 0 where
  named : List ℕ
  names : SpellsHostPort git_hosts text (Some named) port
  piece : IsHostPiece text
  peels : IsSshHost named host

-- a settled address without a port is such a text for itself
address_named_alone : (a : List ℕ) → IsNormalAddress a → SpellsSshHost a a None
address_named_alone a h = record {
  named = a;
  names = SpellsHostPort.unbracketed (refl, inl h.address) (ap Some (sym h.lower)) refl;
  piece = address_piece a h.address;
  peels = ssh_host_itself a (address_free left_bracket a refl h.address) (λ front free. address_colons a front h.address free);
}

-- and so it is in brackets, with one
address_named_port : (a : List ℕ) (p : ℕ) → IsNormalAddress a → IsUtf8 a → p < 65536 → SpellsSshHost ((left_bracket ∷ (a ++ right_bracket ∷ [])) ++ port_part (Some p)) a (Some p)
address_named_port a p h utf8 small =
    let decoded : percent_decode a ≡ a = decode_kept a (address_free percent_sign a refl h.address) in
    let inner : Bracketed a a = Bracketed.literal a (Literal.address h.address (sym h.lower)) (sym decoded) utf8 in
    record {
      named = left_bracket ∷ (a ++ right_bracket ∷ []);
      names = SpellsHostPort.bracketed_port a a (decimal p) p (address_free right_bracket a refl h.address) inner (number_written git_hosts p small tt) (ap (λ t. left_bracket ∷ t) (append_assoc a (right_bracket ∷ []) (colon ∷ decimal p))) refl refl;
      piece = joined_hosts (left_bracket ∷ (a ++ right_bracket ∷ [])) (port_part (Some p)) (brackets_piece a (right_bracket ∷ []) (address_piece a h.address) (host_piece (right_bracket ∷ []) refl refl)) (port_piece (Some p) small);
      peels = IsSshHost.brackets refl;
    }

-- so is a settled address as it is written
address_named : (scheme : Scheme) (a : List ℕ) (port : Option ℕ) → keeps_host scheme ≡ false → IsNormalAddress a → IsUtf8 a → IfSome port (λ p. p < 65536) → SpellsSshHost (written_host scheme port a ++ port_part port) a port
address_named scheme a None escapes h utf8 small =
    let text = address_alone scheme a escapes h.address in
    subst (λ t. SpellsSshHost t a None) (sym (append-nil (written_host scheme None a) ∙ text)) (address_named_alone a h)
address_named scheme a (Some p) escapes h utf8 small =
    let text = address_in_brackets scheme p a h.address in
    subst (λ t. SpellsSshHost (t ++ port_part (Some p)) a (Some p)) (sym text) (address_named_port a p h utf8 small)

-- the host of a settled URL of Secure Shell is taken out of the host that its writing names
pub bare_host_written : (v : Location) (host : List ℕ) → v.scheme ≡ ssh → IsBareHost host → IsUtf8 host → IfSome v.port (λ p. p < 65536) → (named : List ℕ) × WritesHost git_hosts v host named × IsSshHost named host
bare_host_written v host is (inl name) utf8 small = (
  host,
  name_written git_hosts v host bare_not_strict (ap keeps_host is) name utf8 small,
  ssh_host_itself host name.unbracketed.no_left_bracket (λ front free e. not_free colon front [] (subst (λ t. FreeOf colon t) e name.unbracketed.no_colon)),
)
bare_host_written v host is (inr address) utf8 small =
    let h = address_named v.scheme host v.port (ap keeps_host is) address utf8 small in
    (h.named, record { no_at = h.piece.no_at; names = h.names; piece = h.piece.piece }, h.peels)
