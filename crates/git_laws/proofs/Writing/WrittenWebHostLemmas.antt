-- The written host and port of a settled location of HTTP name the same host and port.
use Rattle.std.proofs.Common.{◌≡◌, ◌≢◌, ℕ, ◌<◌, false, List, [], ◌∷◌, ◌++◌, Option, Some, None, IfSome, refl, sym, ap, subst, ◌∙◌, arith, append_assoc, codes}
use Rattle.std.specs.Fmt.{decimal}
use Rattle.std.proofs.lemmas.Bool.{cond-false, and_left, and_right}
use Rattle.std.proofs.lemmas.Bool.Decides.{nat_tests}
use Rattle.std.proofs.lemmas.List.{append-nil}
use Rattle.git_syntax.specs.Location.{Location}
use Rattle.git_syntax.specs.Bytes.{colon, at_sign, left_bracket, right_bracket, percent_sign, FreeOf}
use Rattle.git_syntax.specs.Escapes.{has_percent}
use Rattle.git_syntax.specs.Addresses.{IsZone, is_zone_byte, Literal}
use Rattle.git_syntax.specs.Addresses.Literal.{address, zoned}
use Rattle.git_syntax.specs.Hosts.{Number, SpellsHostPort, IsPlainHost, HostText, is_http_host_byte, port_part}
use Rattle.git_syntax.specs.Hosts.HostSyntax.{http_hosts}
use Rattle.git_location.specs.Text.{has_colon, open_host, canonical_host, needs_brackets, wants_brackets}
use Rattle.git_location.specs.Settled.{IsWebName, IsWebHost, IsWeb}
use Rattle.git_location.specs.Settled.IsWebHost.{literal, literal_colon, named, named_colon}
use Rattle.git_laws.proofs.Writing.WrittenPieces.{IsAuthorityPiece, WritesHost}
use Rattle.git_syntax.proofs.Texts.CutLemmas.{all_weaker, free-append, free_begins, free_of_all}
use Rattle.git_syntax.proofs.Addresses.AddressLemmas.{address_free}
use Rattle.git_syntax.proofs.Parsing.HostLemmas.{number_written}
use Rattle.git_laws.proofs.Writing.PieceTextLemmas.{IsHostPiece, is_host_byte, joined_hosts, host_piece, address_piece, brackets_piece, port_piece}

-- ---- pieces

-- a zone is a piece of a host
zone_piece : (z : List ℕ) → IsZone z → IsHostPiece z
zone_piece z h = host_piece z (all_weaker is_zone_byte is_host_byte (λ b is. grind (arith, nat_tests)) z h.bytes) h.sound

-- so is a literal
literal_piece : (t n : List ℕ) → Literal t n → IsHostPiece t
literal_piece t n (address h e) = address_piece t h
literal_piece t n (zoned a z h zone is e) =
    subst IsHostPiece (sym is) (joined_hosts a (codes "%25" ++ z) (address_piece a h) (joined_hosts (codes "%25") z (host_piece (codes "%25") refl refl) (zone_piece z zone)))

-- and a name
name_piece : (t : List ℕ) → IsWebName t → IsHostPiece t
name_piece t h = host_piece t (all_weaker is_http_host_byte is_host_byte (λ b is. grind (arith, nat_tests)) t h.bytes) h.sound

-- ---- the text between brackets

-- a literal holds no `]`
literal_no_bracket : (t n : List ℕ) → Literal t n → FreeOf right_bracket t
literal_no_bracket t n h = grind (arith, nat_tests, address_free, free-append, free_of_all)

-- ---- the host that is named

-- a port that isn't zero is allowed
port_allowed : (p : ℕ) → Some p ≢ Some 0 → 0 < p
port_allowed p other = grind arith

-- the written port spells it
port_spelled : (p : ℕ) → Some p ≢ Some 0 → p < 65536 → Number http_hosts (decimal p) p
port_spelled p other within = number_written http_hosts p within (port_allowed p other)

-- a literal in brackets, with or without a port after it, names itself
literal_named : (port : Option ℕ) (n : List ℕ) → Literal n n → port ≢ Some 0 → IfSome port (λ p. p < 65536) → SpellsHostPort http_hosts ((left_bracket ∷ (n ++ right_bracket ∷ [])) ++ port_part port) (Some (left_bracket ∷ (n ++ right_bracket ∷ []))) port
literal_named None n l other within =
    SpellsHostPort.bracketed n n (literal_no_bracket n n l) l (append-nil (left_bracket ∷ (n ++ right_bracket ∷ []))) refl refl
literal_named (Some p) n l other within =
    SpellsHostPort.bracketed_port n n (decimal p) p (literal_no_bracket n n l) l (port_spelled p other within) (append_assoc (left_bracket ∷ n) (right_bracket ∷ []) (colon ∷ decimal p)) refl refl

-- so does one with a colon after it
literal_colon_named : (n : List ℕ) → Literal n n → SpellsHostPort http_hosts ((left_bracket ∷ (n ++ right_bracket ∷ (colon ∷ []))) ++ []) (Some (left_bracket ∷ (n ++ right_bracket ∷ (colon ∷ [])))) None
literal_colon_named n l =
    SpellsHostPort.bracketed_colon n n (literal_no_bracket n n l) l (append-nil (left_bracket ∷ (n ++ right_bracket ∷ (colon ∷ [])))) refl refl

-- a name is a plain host
name_plain : (t : List ℕ) → IsWebName t → IsPlainHost t
name_plain t h = grind (arith, nat_tests, free_begins, free_of_all)

-- and denotes itself
name_text : (t : List ℕ) → IsWebName t → HostText http_hosts t t
name_text t h = (h.bytes, sym h.normal)

-- a name, with or without a port after it, names itself
name_named : (port : Option ℕ) (t : List ℕ) → IsWebName t → port ≢ Some 0 → IfSome port (λ p. p < 65536) → SpellsHostPort http_hosts (t ++ port_part port) (Some t) port
name_named None t h other within = subst (λ x. SpellsHostPort http_hosts x (Some t) None) (sym (append-nil t)) (SpellsHostPort.plain t (name_plain t h) (name_text t h) refl refl)
name_named (Some p) t h other within = SpellsHostPort.plain_port t t (decimal p) p (name_plain t h) (name_text t h) (port_spelled p other within) refl refl refl

-- so does one with a colon after it
name_colon_named : (t : List ℕ) → IsWebName t → SpellsHostPort http_hosts ((t ++ colon ∷ []) ++ []) (Some (t ++ colon ∷ [])) None
name_colon_named t h = SpellsHostPort.plain_colon t t (name_plain t h) (name_text t h) (append-nil (t ++ colon ∷ [])) refl refl

-- ---- brackets that aren't needed

-- a text that begins with `[` takes no more brackets
bracketed_unwanted : (port : Option ℕ) (t : List ℕ) → needs_brackets port (left_bracket ∷ t) ≡ false
bracketed_unwanted port t = and_left _ _ (and_right (has_colon (left_bracket ∷ t)) false refl)

-- a text without a colon takes none
plain_unwanted : (port : Option ℕ) (t : List ℕ) → FreeOf colon t → needs_brackets port t ≡ false
plain_unwanted port t free = and_left _ _ (and_left _ _ free)

-- a text without `%` takes none if there is no port
portless_unwanted : (t : List ℕ) → has_percent t ≡ false → needs_brackets None t ≡ false
portless_unwanted t free = and_right (wants_brackets t) _ free

-- ---- the host and the port of a location

-- a host takes no brackets, names itself with the port after it, and is a piece of a host
record IsWebWritten (port : Option ℕ) (host : List ℕ) : Type 0 where
  pub unbracketed : needs_brackets port host ≡ false
  pub names : SpellsHostPort http_hosts (host ++ port_part port) (Some host) port
  pub piece : IsHostPiece host

-- a literal in brackets
literal_written : (port : Option ℕ) (n : List ℕ) → Literal n n → port ≢ Some 0 → IfSome port (λ p. p < 65536) → IsWebWritten port (left_bracket ∷ (n ++ right_bracket ∷ []))
literal_written port n l other within = record {
  unbracketed = bracketed_unwanted port (n ++ right_bracket ∷ []);
  names = literal_named port n l other within;
  piece = brackets_piece n (right_bracket ∷ []) (literal_piece n n l) (host_piece (right_bracket ∷ []) refl refl);
}

-- one with a colon after it
literal_colon_written : (n : List ℕ) → Literal n n → IsWebWritten None (left_bracket ∷ (n ++ right_bracket ∷ (colon ∷ [])))
literal_colon_written n l = record {
  unbracketed = bracketed_unwanted None (n ++ right_bracket ∷ (colon ∷ []));
  names = literal_colon_named n l;
  piece = brackets_piece n (right_bracket ∷ (colon ∷ [])) (literal_piece n n l) (host_piece (right_bracket ∷ (colon ∷ [])) refl refl);
}

-- a name
name_written : (port : Option ℕ) (t : List ℕ) → IsWebName t → port ≢ Some 0 → IfSome port (λ p. p < 65536) → IsWebWritten port t
name_written port t h other within = record {
  unbracketed = plain_unwanted port t (name_plain t h).no_colon;
  names = name_named port t h other within;
  piece = name_piece t h;
}

-- one with a colon after it
name_colon_written : (t : List ℕ) → IsWebName t → has_percent t ≡ false → IsWebWritten None (t ++ colon ∷ [])
name_colon_written t h free = record {
  unbracketed = portless_unwanted (t ++ colon ∷ []) (free-append percent_sign t (colon ∷ []) free refl);
  names = name_colon_named t h;
  piece = joined_hosts t (colon ∷ []) (name_piece t h) (host_piece (colon ∷ []) refl refl);
}

-- each settled host of HTTP
host_written : (port : Option ℕ) (host : List ℕ) → IsWebHost port host → port ≢ Some 0 → IfSome port (λ p. p < 65536) → IsWebWritten port host
host_written port host (literal n l e) other within = subst (λ x. IsWebWritten port x) (sym e) (literal_written port n l other within)
host_written port host (literal_colon n l none e) other within =
    subst (λ x. IsWebWritten port x) (sym e) (subst (λ o. IsWebWritten o (left_bracket ∷ (n ++ right_bracket ∷ (colon ∷ [])))) (sym none) (literal_colon_written n l))
host_written port host (named h) other within = name_written port host h other within
host_written port host (named_colon n h free none e) other within =
    subst (λ x. IsWebWritten port x) (sym e) (subst (λ o. IsWebWritten o (n ++ colon ∷ [])) (sym none) (name_colon_written n h free))

-- HTTP keeps its hosts
web_host_kept : (v : Location) (host : List ℕ) → IsWeb v → open_host v.scheme host ≡ host
web_host_kept v host h = grind arith

-- so a settled host of HTTP is written as it is
pub web_host_same : (v : Location) (host : List ℕ) → IsWeb v → IsWebHost v.port host → v.port ≢ Some 0 → IfSome v.port (λ p. p < 65536) → canonical_host v host ≡ host
web_host_same v host web settled other within = cond-false _ _ _ (host_written v.port host settled other within).unbracketed ∙ web_host_kept v host web

-- the written host and port of a settled location of HTTP name that host and that port
pub web_host_written : (v : Location) (host : List ℕ) → IsWeb v → IsWebHost v.port host → v.port ≢ Some 0 → IfSome v.port (λ p. p < 65536) → WritesHost http_hosts v host host
web_host_written v host web settled other within =
    let w = host_written v.port host settled other within in
    let whole = joined_hosts host (port_part v.port) w.piece (port_piece v.port within) in
    let same = ap (λ x. x ++ port_part v.port) (sym (web_host_same v host web settled other within)) in record {
      no_at = subst (λ x. FreeOf at_sign x) same whole.no_at;
      names = subst (λ x. SpellsHostPort http_hosts x (Some host) v.port) same w.names;
      piece = subst (λ x. IsAuthorityPiece x) same whole.piece;
    }
