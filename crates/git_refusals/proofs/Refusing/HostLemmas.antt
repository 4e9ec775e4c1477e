-- Hosts and ports: the flaw of a piece by the marks that are in it, and the host that it names if it has no
-- flaw.
use Rattle.std.proofs.Common.{◌≡◌, ℕ, ◌<◌, ◌^◌, ◌==◌, true, false, ◌⊎◌, inl, inr, List, [], ◌∷◌, ◌++◌, length, Option, Some, None, refl, sym, ap, subst, ◌∙◌, arith, append_assoc, IsUtf8, chars}
use Rattle.std.specs.List.{list_any, list_all}
use Rattle.std.specs.Char.{is_ascii_digit}
use Rattle.std.specs.Str.Parse.{IsNumeral, digits_value, without_leading_plus}
use Rattle.std.proofs.lemmas.Bool.{eqb-true, both_ways, cases_lt}
use Rattle.std.proofs.lemmas.List.{same_from_push}
use Rattle.percent_encoding.specs.Percent.{percent_decode}
use Rattle.git_syntax.specs.declared.host.HostSyntax as rust
use Rattle.git_syntax.specs.declared.host.HostSyntax.TheVariants as read
use Rattle.git_syntax.specs.Bytes.{colon, left_bracket, right_bracket, FreeOf, begins_with}
use Rattle.git_syntax.specs.Addresses.{IsIpv6Text}
use Rattle.git_syntax.specs.Hosts.{HostSyntax, is_http_host_byte, normal_host, IsLiteral, Bracketed, IsAddressPiece, ReadsAddress, IsManyColoned, IsPlainHost, SpellsHostPort}
use Rattle.git_syntax.specs.Hosts.HostSyntax.{http_hosts, git_hosts, other_hosts}
use Rattle.git_syntax.specs.Internal.HostPieces.{host_syntax}
use Rattle.git_syntax.proofs.Texts.CutLemmas.{cut_unique, free_begins, free_or_cut, not_free}
use Rattle.git_syntax.proofs.Parsing.HostLemmas.{bare_not_strict, http_byte_ascii, loose_not_strict, strict_not_bare, not_parsed}
use Rattle.git_refusals.specs.declared.place.Place.{Place}
use Rattle.git_refusals.specs.declared.reason.Reason.TheVariants as reason
use Rattle.git_refusals.specs.Characters.{is_no_host_character}
use Rattle.git_refusals.specs.Reasons.{IsAt, Passes, Undecodable, HasCharacter, NoHostText, NoInner, WebColons, BadHost}
use Rattle.git_refusals.specs.Internal.Hosts.{DenotesHost, DenotesInner, IsPortText, IsBeforeColon}
use Rattle.git_refusals.specs.Internal.Readable.{Checks, NamesHost}
use Rattle.git_refusals.proofs.Refusing.CharacterLemmas.{class_bytes}
use Rattle.git_refusals.proofs.Refusing.FlawLemmas.{no_host_kind, no_inner_kind}

-- ---- syntaxes

-- Git's own transports and other schemes don't have the syntax of HTTP
pub lax_syntax : (s : rust.HostSyntax) → (s ≡ read.Git) ⊎ (s ≡ read.Other) → ¬ (host_syntax s ≡ http_hosts)
lax_syntax s (inl e) web = bare_not_strict (sym (ap host_syntax e) ∙ web)
lax_syntax s (inr e) web = loose_not_strict (sym (ap host_syntax e) ∙ web)

-- ---- ports

-- digits that std reads as no number of 16 bits are too large
pub too_large : (digits : List ℕ) → list_all is_ascii_digit digits ≡ true → 0 < length digits → ¬ (IsNumeral 10 (without_leading_plus digits) × (digits_value 10 (without_leading_plus digits) < 2 ^ 16)) → 65535 < digits_value 10 digits
too_large digits each some fails =
    elim (cases_lt 65535 (digits_value 10 digits)) [
      | inl large ↦ large
      | inr small ↦ absurd (not_parsed git_hosts digits each fails (digits_value 10 digits) (record { digits = (some, each); value = refl; within = small; allowed = tt }))
    ]

-- ---- texts outside brackets

-- in HTTP a text whose characters it takes denotes a host
pub web_host : (syntax : HostSyntax) (text : List ℕ) → syntax ≡ http_hosts → IsUtf8 text → list_any is_no_host_character (chars text) ≡ false → DenotesHost syntax text
web_host http_hosts text e utf8 none = (normal_host text, (class_bytes is_http_host_byte http_byte_ascii text utf8 none, refl))
web_host git_hosts text e utf8 none = absurd (bare_not_strict e)
web_host other_hosts text e utf8 none = absurd (loose_not_strict e)

-- in HTTP a text with a character that it doesn't take denotes no host
pub no_web_host : (syntax : HostSyntax) (text : List ℕ) (p : Place) → syntax ≡ http_hosts → HasCharacter reason.HostCharacter is_no_host_character text p → NoHostText syntax text p
no_web_host http_hosts text p e h = h
no_web_host git_hosts text p e h = absurd (bare_not_strict e)
no_web_host other_hosts text p e h = absurd (loose_not_strict e)

-- outside HTTP a text that decodes denotes a host, and no other does
pub lax_text : (syntax : HostSyntax) (text : List ℕ) (r : Option Place) → ¬ (syntax ≡ http_hosts) → Checks text (Undecodable text) (IsUtf8 (percent_decode text)) r → Checks text (NoHostText syntax text) (DenotesHost syntax text) r
lax_text http_hosts text r other h = absurd (other refl)
lax_text git_hosts text (Some p) other h = record { found = h.found; within = h.within }
lax_text git_hosts text None other h = record { found = (normal_host (percent_decode text), (h.found, refl)); within = tt }
lax_text other_hosts text (Some p) other h = record { found = h.found; within = h.within }
lax_text other_hosts text None other h = record { found = (normal_host (percent_decode text), (h.found, refl)); within = tt }

-- nothing is found wrong with a text that denotes a host
pub host_passes : (syntax : HostSyntax) (text : List ℕ) → DenotesHost syntax text → Passes (NoHostText syntax text)
host_passes syntax text (host, h) p n = (no_host_kind syntax text p n).1 host h

-- ---- texts between brackets

-- in HTTP a text that isn't a literal denotes nothing
pub web_inner : (syntax : HostSyntax) (text : List ℕ) (p : Place) → syntax ≡ http_hosts → ¬ IsLiteral text → IsAt reason.NotAnAddress 0 (length text) p → NoInner syntax text p
web_inner http_hosts text p e none s = record { no_literal = none; no_other = s }
web_inner git_hosts text p e none s = absurd (bare_not_strict e)
web_inner other_hosts text p e none s = absurd (loose_not_strict e)

-- elsewhere it denotes its decoding, if that is text
pub lax_inner : (syntax : HostSyntax) (text : List ℕ) (r : Option Place) → ¬ (syntax ≡ http_hosts) → ¬ IsLiteral text → Checks text (Undecodable text) (IsUtf8 (percent_decode text)) r → Checks text (NoInner syntax text) (DenotesInner syntax text) r
lax_inner http_hosts text r other none h = absurd (other refl)
lax_inner git_hosts text (Some p) other none h = record { found = record { no_literal = none; no_other = h.found }; within = h.within }
lax_inner git_hosts text None other none h = record { found = (percent_decode text, Bracketed.other none refl h.found); within = tt }
lax_inner other_hosts text (Some p) other none h = record { found = record { no_literal = none; no_other = h.found }; within = h.within }
lax_inner other_hosts text None other none h = record { found = (percent_decode text, Bracketed.other none refl h.found); within = tt }

-- nothing is found wrong with a text between brackets that denotes another
pub inner_passes : (syntax : HostSyntax) (text : List ℕ) → DenotesInner syntax text → Passes (NoInner syntax text)
inner_passes syntax text (inner, h) p n = (no_inner_kind syntax text p n).1 inner h

-- ---- brackets, and the text after them

-- if nothing is before the first colon, the text is empty or begins with one
pub ended : (rest wrong : List ℕ) → true ≡ (length wrong == 0) → IsBeforeColon rest wrong → (rest ≡ []) ⊎ (begins_with colon rest ≡ true)
ended rest [] none h = subst (λ t. (t ≡ []) ⊎ (begins_with colon t ≡ true)) (sym h.joined) h.followed
ended rest (b ∷ wrong) none h = absurd (omega (arith, eqb-true (length (b ∷ wrong)) 0 (sym none)))

-- brackets with nothing after them name a host
pub closed_alone : (syntax : HostSyntax) (x rest : List ℕ) → FreeOf right_bracket x → DenotesInner syntax x → (rest ≡ []) ⊎ (begins_with colon rest ≡ true) → begins_with colon rest ≡ false → NamesHost syntax (left_bracket ∷ (x ++ right_bracket ∷ rest))
closed_alone syntax x rest free (inner, h) (inl none) other = (_, _, SpellsHostPort.bracketed x inner free h (ap (λ t. left_bracket ∷ (x ++ right_bracket ∷ t)) none) refl refl)
closed_alone syntax x rest free h (inr begins) other = absurd (both_ways _ other begins)

-- brackets with a colon and a port or nothing after them name a host
pub closed_port : (syntax : HostSyntax) (x rest digits : List ℕ) → FreeOf right_bracket x → DenotesInner syntax x → rest ≡ colon ∷ digits → IsPortText syntax digits → NamesHost syntax (left_bracket ∷ (x ++ right_bracket ∷ rest))
closed_port syntax x rest digits free (inner, h) e (inl none) =
    (_, _, SpellsHostPort.bracketed_colon x inner free h (ap (λ t. left_bracket ∷ (x ++ right_bracket ∷ t)) (e ∙ ap (λ t. colon ∷ t) none)) refl refl)
closed_port syntax x rest digits free (inner, h) e (inr (port, n)) =
    (_, _, SpellsHostPort.bracketed_port x inner digits port free h n (ap (λ t. left_bracket ∷ (x ++ right_bracket ∷ t)) e) refl refl)

-- ---- colons that mark no port

-- a piece isn't an address if neither the whole nor the text before a last colon is an IPv6 text
pub no_address : (piece : List ℕ) → ¬ IsIpv6Text piece → ((front : List ℕ) → piece ≡ front ++ colon ∷ [] → ¬ IsIpv6Text front) → ¬ IsAddressPiece piece
no_address piece none other (inl h) = none h
no_address piece none other (inr (front, h, e)) = other front e h

-- the text before a last colon is the same however the piece is cut there, so none is an IPv6 text
pub other_front : (piece front : List ℕ) → piece ≡ front ++ colon ∷ [] → ¬ IsIpv6Text front → (other : List ℕ) → piece ≡ other ++ colon ∷ [] → ¬ IsIpv6Text other
other_front piece front e none other k h = none (subst IsIpv6Text (same_from_push other front colon colon (sym k ∙ e)).0 h)

-- after a text's only colon no other follows, so none follows after any colon of it
pub after_only : (front suffix x y : List ℕ) → FreeOf colon front → FreeOf colon suffix → front ++ colon ∷ suffix ≡ x ++ colon ∷ y → FreeOf colon y
after_only front suffix x y free lone e =
    elim (free_or_cut colon x) [
      | inl none ↦ subst (λ t. FreeOf colon t) (cut_unique colon front x suffix y free none e).1 lone
      | inr (u, v, none, is) ↦
          let whole : front ++ colon ∷ suffix ≡ u ++ colon ∷ (v ++ colon ∷ y) = e ∙ ap (λ t. t ++ colon ∷ y) is ∙ append_assoc u (colon ∷ v) (colon ∷ y) in
          absurd (not_free colon v y (subst (λ t. FreeOf colon t) (cut_unique colon front u suffix (v ++ colon ∷ y) free none whole).1 lone))
    ]

-- an only colon that marks no port is in front
pub only_in_front : (piece front suffix : List ℕ) → IsManyColoned piece → FreeOf colon front → FreeOf colon suffix → piece ≡ front ++ colon ∷ suffix → piece ≡ colon ∷ suffix
only_in_front piece [] suffix many free lone e = e
only_in_front piece (b ∷ front) suffix (inl begins) free lone e =
    absurd (both_ways _ (free_begins colon (b ∷ front) free) (sym (ap (begins_with colon) e) ∙ begins))
only_in_front piece (b ∷ front) suffix (inr (x, y, z, two)) free lone e =
    absurd (not_free colon y z (after_only (b ∷ front) suffix x (y ++ colon ∷ z) free lone (sym e ∙ two)))

-- in HTTP something is wrong with colons that mark no port
pub web_many : (syntax : HostSyntax) (piece : List ℕ) (r : Option Place) → syntax ≡ http_hosts → begins_with left_bracket piece ≡ false → IsManyColoned piece → Checks piece (WebColons piece) ⊥ r → Checks piece (BadHost syntax piece) (NamesHost syntax piece) r
web_many http_hosts piece (Some p) e open_front many h = record { found = BadHost.colons open_front many (λ reads. strict_not_bare reads.0) h.found; within = h.within }
web_many http_hosts piece None e open_front many h = absurd h.found
web_many git_hosts piece r e open_front many h = absurd (bare_not_strict e)
web_many other_hosts piece r e open_front many h = absurd (loose_not_strict e)

-- elsewhere the whole piece is the host if it decodes
pub lax_many : (syntax : HostSyntax) (piece : List ℕ) (r : Option Place) → ¬ (syntax ≡ http_hosts) → ¬ ReadsAddress syntax piece → begins_with left_bracket piece ≡ false → IsManyColoned piece → Checks piece (Undecodable piece) (IsUtf8 (percent_decode piece)) r → Checks piece (BadHost syntax piece) (NamesHost syntax piece) r
lax_many http_hosts piece r other unread open_front many h = absurd (other refl)
lax_many git_hosts piece (Some p) other unread open_front many h = record { found = BadHost.colons open_front many unread h.found; within = h.within }
lax_many git_hosts piece None other unread open_front many h =
    record { found = (_, _, SpellsHostPort.colons (normal_host (percent_decode piece)) other unread open_front many (h.found, refl) refl refl); within = tt }
lax_many other_hosts piece (Some p) other unread open_front many h = record { found = BadHost.colons open_front many unread h.found; within = h.within }
lax_many other_hosts piece None other unread open_front many h =
    record { found = (_, _, SpellsHostPort.colons (normal_host (percent_decode piece)) other unread open_front many (h.found, refl) refl refl); within = tt }

-- ---- hosts outside brackets

-- a host alone, without a colon, is wrong or named as its text is
pub plain_alone : (syntax : HostSyntax) (piece : List ℕ) (r : Option Place) → IsPlainHost piece → Checks piece (NoHostText syntax piece) (DenotesHost syntax piece) r → Checks piece (BadHost syntax piece) (NamesHost syntax piece) r
plain_alone syntax piece (Some p) plain h = record { found = BadHost.plain plain h.found; within = h.within }
plain_alone syntax piece None plain h = record { found = (_, _, SpellsHostPort.plain h.found.0 plain h.found.1 refl refl); within = tt }

-- a host, a colon and a port or nothing name a host
pub plain_named : (syntax : HostSyntax) (text digits : List ℕ) → IsPlainHost text → DenotesHost syntax text → IsPortText syntax digits → NamesHost syntax (text ++ colon ∷ digits)
plain_named syntax text digits plain (host, h) (inl none) = (_, _, SpellsHostPort.plain_colon text host plain h (ap (λ t. text ++ colon ∷ t) none) refl refl)
plain_named syntax text digits plain (host, h) (inr (port, n)) = (_, _, SpellsHostPort.plain_port text host digits port plain h n refl refl refl)
