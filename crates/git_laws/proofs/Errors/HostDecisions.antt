-- Decisions on hosts: each piece of an authority names a host and a port, or is flawed.
use Rattle.std.proofs.Common.{◌≡◌, ℕ, ◌<◌, false, ◌⊎◌, inl, inr, List, [], ◌∷◌, ◌++◌, length, Option, refl, sym, ap, subst, ◌∙◌, arith, IsUtf8}
use Rattle.std.specs.List.{list_all}
use Rattle.std.specs.Char.{is_ascii_digit}
use Rattle.std.specs.Str.Parse.{digits_value}
use Rattle.std.proofs.lemmas.Bool.{both_ways, cases_Bool, cases_lt}
use Rattle.std.proofs.lemmas.List.{append-nil, same_from_push}
use Rattle.percent_encoding.specs.Percent.{percent_decode}
use Rattle.git_syntax.specs.declared.refusal.UrlFault.{UrlFault}
use Rattle.git_syntax.specs.declared.refusal.UrlFault.TheVariants as fault
use Rattle.git_syntax.specs.Bytes.{colon, left_bracket, right_bracket, FreeOf, begins_with}
use Rattle.git_syntax.specs.Addresses.{IsIpv6Text, Literal}
use Rattle.git_syntax.specs.Hosts.{HostSyntax, is_http_host_byte, normal_host, HostText, Bracketed, Inner, AllowsPort, Number, IsAddressPiece, ReadsAddress, IsManyColoned, IsPlainHost, SpellsHostPort, EndsHost}
use Rattle.git_syntax.specs.Hosts.HostSyntax.{http_hosts, git_hosts, other_hosts}
use Rattle.git_syntax.specs.Flaws.{IsNoHost, IsNoInner, HasBadPort, HasBadHost, HostPortFlaw}
use Rattle.git_syntax.specs.Internal.HostPieces.{shown_literal}
use Rattle.git_syntax.proofs.Texts.CutLemmas.{begins_cut, free_or_cut, ends_or_not}
use Rattle.git_syntax.proofs.Parsing.HostLemmas.{loose_not_strict, bare_not_strict, loose_not_bare, literal_inner, not_ended, not_inner}
use Rattle.git_laws.proofs.Errors.TextDecisions.{Decides, utf8_or_not, address_or_not, literal_or_not}

-- ---- ports

-- a port is allowed, or not
allowed_or_not : (syntax : HostSyntax) (port : ℕ) → Decides (AllowsPort syntax port)
allowed_or_not http_hosts port = elim (cases_lt 0 port) [ inl some ↦ inl some | inr none ↦ inr (λ some. absurd (omega arith)) ]
allowed_or_not git_hosts port = inl tt
allowed_or_not other_hosts port = inl tt

-- a text spells a port, or none
number_or_not : (syntax : HostSyntax) (t : List ℕ) → ((port : ℕ) × Number syntax t port) ⊎ ((port : ℕ) → ¬ Number syntax t port)
number_or_not syntax t =
    elim (cases_lt 0 (length t)) [
      | inr none ↦ inr (λ port n. absurd (omega (arith, n.digits.0)))
      | inl some ↦
          elim (cases_Bool (list_all is_ascii_digit t)) [
            | inr other ↦ inr (λ port n. both_ways _ other n.digits.1)
            | inl each ↦
                elim (cases_lt 65535 (digits_value 10 t)) [
                  | inl large ↦ inr (λ port n. absurd (omega (arith, n.value, n.within)))
                  | inr within ↦
                      elim (allowed_or_not syntax (digits_value 10 t)) [
                        | inl allowed ↦ inl (digits_value 10 t, record { digits = (some, each); value = refl; within = within; allowed = allowed })
                        | inr other ↦ inr (λ port n. other (subst (λ p. AllowsPort syntax p) n.value n.allowed))
                      ]
                ]
          ]
    ]

-- ---- hosts

-- a text denotes a host, or none
text_or_not : (syntax : HostSyntax) (t : List ℕ) → ((host : List ℕ) × HostText syntax t host) ⊎ IsNoHost syntax t
text_or_not http_hosts t =
    elim (cases_Bool (list_all is_http_host_byte t)) [ inl each ↦ inl (normal_host t, (each, refl)) | inr other ↦ inr (λ host h. both_ways _ other h.0) ]
text_or_not git_hosts t =
    elim (utf8_or_not (percent_decode t)) [ inl text ↦ inl (normal_host (percent_decode t), (text, refl)) | inr bad ↦ inr (λ host h. bad h.0) ]
text_or_not other_hosts t =
    elim (utf8_or_not (percent_decode t)) [ inl text ↦ inl (normal_host (percent_decode t), (text, refl)) | inr bad ↦ inr (λ host h. bad h.0) ]

-- no literal, and no text when it is decoded: it denotes nothing
not_bracketed : (t : List ℕ) → ¬ ((n : List ℕ) × Literal t n) → ¬ IsUtf8 (percent_decode t) → (inner : List ℕ) → ¬ Bracketed t inner
not_bracketed t none bad inner (Bracketed.literal n h e u) = none (n, h)
not_bracketed t none bad inner (Bracketed.other h e u) = bad (subst IsUtf8 e u)

-- a text between brackets denotes another, or nothing
bracketed_or_not : (t : List ℕ) → ((inner : List ℕ) × Bracketed t inner) ⊎ ((inner : List ℕ) → ¬ Bracketed t inner)
bracketed_or_not t =
    elim (literal_or_not t) [
      | inl h ↦ inl (shown_literal git_hosts t, literal_inner git_hosts t h)
      | inr none ↦
          elim (utf8_or_not (percent_decode t)) [ inl text ↦ inl (percent_decode t, Bracketed.other none refl text) | inr bad ↦ inr (not_bracketed t none bad) ]
    ]

-- the same in every syntax
inner_or_not : (syntax : HostSyntax) (t : List ℕ) → ((inner : List ℕ) × Inner syntax t inner) ⊎ IsNoInner syntax t
inner_or_not http_hosts t = elim (literal_or_not t) [ inl h ↦ inl h | inr none ↦ inr (λ inner h. none (inner, h)) ]
inner_or_not git_hosts t = bracketed_or_not t
inner_or_not other_hosts t = bracketed_or_not t

-- a piece is an address, with or without a colon after it, or not
address_piece_or_not : (piece : List ℕ) → Decides (IsAddressPiece piece)
address_piece_or_not piece =
    elim (address_or_not piece) [
      | inl h ↦ inl (inl h)
      | inr none ↦
          elim (ends_or_not colon piece) [
            | inr other ↦ inr (λ p. elim p [ inl h ↦ none h | inr (a, h, e) ↦ other a e ])
            | inl (front, e) ↦
                elim (address_or_not front) [
                  | inl h ↦ inl (inr (front, h, e))
                  | inr other ↦ inr (λ p. elim p [ inl h ↦ none h | inr (a, h, k) ↦ other (subst IsIpv6Text (same_from_push a front colon colon (sym k ∙ e)).0 h) ])
                ]
          ]
    ]

-- ---- names

-- a piece names a host and a port, or is flawed
abbrev pub NamesOrFlawed : HostSyntax → List ℕ → Type 0
NamesOrFlawed syntax piece = ((host : Option (List ℕ)) × (port : Option ℕ) × SpellsHostPort syntax piece host port) ⊎ ((named : UrlFault) × HostPortFlaw syntax piece named)

-- the text after brackets and a colon
after_colon : (syntax : HostSyntax) (x digits inner : List ℕ) → FreeOf right_bracket x → Inner syntax x inner → NamesOrFlawed syntax (left_bracket ∷ (x ++ right_bracket ∷ (colon ∷ digits)))
after_colon syntax x [] inner free h = inl (_, _, SpellsHostPort.bracketed_colon x inner free h refl refl refl)
after_colon syntax x (d ∷ digits) inner free h =
    elim (number_or_not syntax (d ∷ digits)) [
      | inl (port, n) ↦ inl (_, _, SpellsHostPort.bracketed_port x inner (d ∷ digits) port free h n refl refl refl)
      | inr none ↦ inr (fault.BadPort, HasBadPort.bracketed x (d ∷ digits) free refl (omega arith, none))
    ]

-- the text after brackets
after_brackets : (syntax : HostSyntax) (x rest inner : List ℕ) → FreeOf right_bracket x → Inner syntax x inner → EndsHost rest → NamesOrFlawed syntax (left_bracket ∷ (x ++ right_bracket ∷ rest))
after_brackets syntax x rest inner free h (inl e) =
    subst (λ t. NamesOrFlawed syntax (left_bracket ∷ (x ++ right_bracket ∷ t))) (sym e) (inl (_, _, SpellsHostPort.bracketed x inner free h refl refl refl))
after_brackets syntax x rest inner free h (inr begins) =
    let (digits, e) = begins_cut colon rest begins in
    subst (λ t. NamesOrFlawed syntax (left_bracket ∷ (x ++ right_bracket ∷ t))) (sym e) (after_colon syntax x digits inner free h)

-- a host ends, or not
ends_host_or_not : (rest : List ℕ) → Decides (EndsHost rest)
ends_host_or_not [] = inl (inl refl)
ends_host_or_not (b ∷ rest) =
    elim (cases_Bool (begins_with colon (b ∷ rest))) [ inl e ↦ inl (inr e) | inr other ↦ inr (λ h. elim h [ inl none ↦ absurd (omega (arith, ap length none)) | inr e ↦ both_ways _ other e ]) ]

-- closed brackets
closed_named : (syntax : HostSyntax) (x rest : List ℕ) → FreeOf right_bracket x → NamesOrFlawed syntax (left_bracket ∷ (x ++ right_bracket ∷ rest))
closed_named syntax x rest free =
    elim (ends_host_or_not rest) [
      | inr other ↦ inr (fault.BadCharacter, not_ended syntax (x ++ right_bracket ∷ rest) x rest free refl other)
      | inl ended ↦
          elim (inner_or_not syntax x) [
            | inr none ↦ inr (fault.BadCharacter, not_inner syntax (x ++ right_bracket ∷ rest) x rest free refl ended none)
            | inl (inner, h) ↦ after_brackets syntax x rest inner free h ended
          ]
    ]

-- a bracket in front
bracket_named : (syntax : HostSyntax) (suffix : List ℕ) → NamesOrFlawed syntax (left_bracket ∷ suffix)
bracket_named syntax suffix =
    elim (free_or_cut right_bracket suffix) [
      | inl free ↦ inr (fault.BadCharacter, HasBadHost.open_bracket suffix free refl)
      | inr (x, rest, free, e) ↦ subst (λ t. NamesOrFlawed syntax (left_bracket ∷ t)) (sym e) (closed_named syntax x rest free)
    ]

-- a host outside brackets, alone
plain_named : (syntax : HostSyntax) (piece : List ℕ) → IsPlainHost piece → NamesOrFlawed syntax piece
plain_named syntax piece h =
    elim (text_or_not syntax piece) [
      | inl (named, t) ↦ inl (_, _, SpellsHostPort.plain named h t refl refl)
      | inr none ↦ inr (fault.BadCharacter, HasBadHost.plain piece [] h (inl refl) (sym (append-nil piece)) none)
    ]

-- the text after it and a colon
port_named : (syntax : HostSyntax) (front named digits : List ℕ) → IsPlainHost front → HostText syntax front named → FreeOf colon digits → NamesOrFlawed syntax (front ++ colon ∷ digits)
port_named syntax front named [] h t free = inl (_, _, SpellsHostPort.plain_colon front named h t refl refl refl)
port_named syntax front named (d ∷ digits) h t free =
    elim (number_or_not syntax (d ∷ digits)) [
      | inl (port, n) ↦ inl (_, _, SpellsHostPort.plain_port front named (d ∷ digits) port h t n refl refl refl)
      | inr none ↦ inr (fault.BadPort, HasBadPort.plain front (d ∷ digits) h free refl (omega arith, none))
    ]

-- a host outside brackets and its only colon
colon_named : (syntax : HostSyntax) (front digits : List ℕ) → IsPlainHost front → FreeOf colon digits → NamesOrFlawed syntax (front ++ colon ∷ digits)
colon_named syntax front digits h free =
    elim (text_or_not syntax front) [
      | inl (named, t) ↦ port_named syntax front named digits h t free
      | inr none ↦ inr (fault.BadCharacter, HasBadHost.plain front (colon ∷ digits) h (inr (digits, free, refl)) refl none)
    ]

-- colons that mark no port, if no address is read
other_named : (syntax : HostSyntax) (piece : List ℕ) → ¬ (syntax ≡ http_hosts) → ¬ ReadsAddress syntax piece → begins_with left_bracket piece ≡ false → IsManyColoned piece → NamesOrFlawed syntax piece
other_named syntax piece lax unread open_front many =
    elim (text_or_not syntax piece) [
      | inl (named, t) ↦ inl (_, _, SpellsHostPort.colons named lax unread open_front many t refl refl)
      | inr none ↦ inr (fault.BadCharacter, HasBadHost.colons lax unread open_front many none)
    ]

-- colons that mark no port
many_named : (syntax : HostSyntax) (piece : List ℕ) → begins_with left_bracket piece ≡ false → IsManyColoned piece → NamesOrFlawed syntax piece
many_named http_hosts piece open_front many = inr (fault.BadCharacter, HasBadHost.colons_on_the_web refl open_front many)
many_named git_hosts piece open_front many =
    elim (address_piece_or_not piece) [
      | inl h ↦ inl (_, _, SpellsHostPort.unbracketed (refl, h) refl refl)
      | inr none ↦ other_named git_hosts piece bare_not_strict (λ r. none r.1) open_front many
    ]
many_named other_hosts piece open_front many = other_named other_hosts piece loose_not_strict (λ r. loose_not_bare r.0) open_front many

-- the text on both sides of the first colon
around_colon : (syntax : HostSyntax) (front rest : List ℕ) → FreeOf colon front → begins_with left_bracket (front ++ colon ∷ rest) ≡ false → NamesOrFlawed syntax (front ++ colon ∷ rest)
around_colon syntax [] rest free open_front = many_named syntax (colon ∷ rest) open_front (inl refl)
around_colon syntax (b ∷ front) rest free open_front =
    elim (free_or_cut colon rest) [
      | inl lone ↦ colon_named syntax (b ∷ front) rest (record { nonempty = omega arith; no_colon = free; no_bracket = open_front }) lone
      | inr (y, z, none, e) ↦ many_named syntax (b ∷ front ++ colon ∷ rest) open_front (inr (b ∷ front, y, z, ap (λ t. b ∷ front ++ colon ∷ t) e))
    ]

-- no bracket in front
open_named : (syntax : HostSyntax) (piece : List ℕ) → 0 < length piece → begins_with left_bracket piece ≡ false → NamesOrFlawed syntax piece
open_named syntax piece some open_front =
    elim (free_or_cut colon piece) [
      | inl free ↦ plain_named syntax piece (record { nonempty = some; no_colon = free; no_bracket = open_front })
      | inr (front, rest, free, e) ↦ subst (NamesOrFlawed syntax) (sym e) (around_colon syntax front rest free (ap (begins_with left_bracket) (sym e) ∙ open_front))
    ]

-- a piece names a host and a port, or is flawed
pub named_or_flawed : (syntax : HostSyntax) (piece : List ℕ) → NamesOrFlawed syntax piece
named_or_flawed syntax [] = inl (_, _, SpellsHostPort.nothing refl refl refl)
named_or_flawed syntax (b ∷ piece) =
    elim (cases_Bool (begins_with left_bracket (b ∷ piece))) [
      | inl front ↦ let (suffix, e) = begins_cut left_bracket (b ∷ piece) front in subst (NamesOrFlawed syntax) (sym e) (bracket_named syntax suffix)
      | inr open_front ↦ open_named syntax (b ∷ piece) (omega arith) open_front
    ]
