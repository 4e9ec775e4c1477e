-- The scp form: its colons, the piece that its host is read from, and the refusals.
use Rattle.std.proofs.Common.{◌≡◌, ℕ, ◌<◌, Bool, false, ◌==◌, ◌&&◌, ◌⊎◌, inl, inr, List, [], ◌∷◌, ◌++◌, length, Option, Some, None, Result, Ok, Err, true, refl, sym, ap, subst, ◌∙◌, arith, append_assoc, eq-eqb, lit<, IsUtf8, IfSome}
use Rattle.std.proofs.lemmas.Bool.{both_ways, cases_Bool, false≢true, eqb-true}
use Rattle.std.proofs.lemmas.Bool.Decides.{nat_tests}
use Rattle.std.specs.List.{list_all}
use Rattle.std.specs.Char.{is_ascii_digit, is_whitespace}
use Rattle.git_syntax.specs.declared.refusal.UrlFault.{UrlFault}
use Rattle.git_syntax.specs.declared.refusal.UrlFault.TheVariants as fault
use Rattle.git_syntax.specs.declared.found.ScpHost as rust
use Rattle.git_syntax.specs.Location.{Location}
use Rattle.git_syntax.specs.Bytes.{percent_sign, colon, at_sign, left_bracket, backslash, right_bracket, FreeOf, LacksWhiteSpace, begins_with}
use Rattle.git_syntax.specs.Escapes.{escaped_percents, is_sound}
use Rattle.git_syntax.specs.Addresses.{IsIpv6Text, IsZone, is_zone_byte}
use Rattle.git_syntax.specs.Hosts.{Bracketed, HostText, Inner, IsAddressPiece, IsLiteral, IsManyColoned, SpellsHostPort, ReadsAddress, normal_host}
use Rattle.git_syntax.specs.Internal.HostPieces.{IsSimpleHost, is_simple_byte, lowercase_address}
use Rattle.git_syntax.specs.Hosts.HostSyntax.{git_hosts}
use Rattle.git_syntax.specs.Grammar.{IsBracketed, ScpFront, ScpForm, AddressedForm, ScpUser, ScpHost, Unbrackets, SpellsScpBefore, SpellsScp}
use Rattle.git_syntax.specs.Grammar.ScpFront.{plain, bracketed}
use Rattle.git_syntax.specs.Grammar.ScpUser.{host_alone, with_user}
use Rattle.git_syntax.specs.Flaws.{HasBadHost, HasBadPort, ScpNameFlaw, ScpHostFlaw}
use Rattle.git_syntax.specs.Internal.FoundPieces.{scp_host_of}
use Rattle.git_syntax.specs.Internal.ScpPieces.{ColonsInside, SpellsHost, ReadsScpPiece, ReadsScpHost}
use Rattle.git_syntax.proofs.Texts.CutLemmas.{heads, tails, not_free, free-append, free_parts, free_head_tail, free_of_all, free_begins, free_or_cut, lacks_of_all, cut_unique}
use Rattle.git_syntax.proofs.Texts.EscapeLemmas.{ascii_class, decode_escaped_percents, lacks_escaped_percents, escaped_percents-append, escaped_percents_kept, sound_kept, utf8_class, utf8_parts, white_space_ascii}
use Rattle.git_syntax.proofs.Addresses.AddressLemmas.{address_free}
use Rattle.git_syntax.proofs.Parsing.HostLemmas.{bare_not_strict, colon_first, literal_inner, literal_parts, names_utf8, not_digits, not_ended, simple_named, some_tested, zone_byte_ascii}
use Rattle.git_syntax.proofs.Parsing.ClassifierLemmas.{nil_tested, same_front}
use Rattle.git_syntax.proofs.Parsing.FormLemmas.{address_cut, address_front_free}
use Rattle.git_syntax.proofs.Parsing.ScpFrontLemmas.{scp_user_unique, addressed_unique, open_bracket_no_host, front_of_addressed}

-- ---- the colons of the front

-- around two different bytes: one follows the other
pub either_after : (c d : ℕ) (a x y n : List ℕ) → (c == d) ≡ false → a ++ c ∷ x ≡ y ++ d ∷ n → ((z : List ℕ) × (x ≡ z ++ d ∷ n) × (y ≡ a ++ c ∷ z)) ⊎ ((z : List ℕ) × (n ≡ z ++ c ∷ x))
either_after c d [] x [] n h e = absurd (both_ways (c == d) h (eq-eqb c d (heads e)))
either_after c d [] x (b ∷ y) n h e = inl (y, tails e, ap (λ t. t ∷ y) (sym (heads e)))
either_after c d (b ∷ a) x [] n h e = inr (a, sym (tails e))
either_after c d (b ∷ a) x (k ∷ y) n h e = elim (either_after c d a x y n h (tails e)) [
  | inl (z, is, front) ↦ inl (z, is, ap (λ t. t ∷ y) (sym (heads e)) ∙ ap (λ t. b ∷ t) front)
  | inr found ↦ inr found
]

-- the colons of a front are inside brackets
pub colons_inside_front : (b front : List ℕ) → ScpFront b front → ColonsInside front
colons_inside_front b front (plain free h) = inl free
colons_inside_front b front (bracketed inside after h free e) = inr (left_bracket ∷ inside, after, h, free, e)

-- so do those of the text after an `@`
colons_inside_after : (user host : List ℕ) → ColonsInside (user ++ at_sign ∷ host) → ColonsInside host
colons_inside_after user host (inl free) = inl (free_head_tail colon at_sign host (free_parts colon user (at_sign ∷ host) free).1).1
colons_inside_after user host (inr (inside, rest, closed, free, e)) =
    elim (either_after at_sign right_bracket user host inside rest refl e) [
      | inl (z, is, front) ↦
          inr (z, rest, (free_head_tail right_bracket at_sign z (free_parts right_bracket user (at_sign ∷ z) (subst (λ t. FreeOf right_bracket t) front closed)).1).1, free, is)
      | inr (z, is) ↦ inl (free_head_tail colon at_sign host (free_parts colon z (at_sign ∷ host) (subst (λ t. FreeOf colon t) is free)).1).1
    ]

-- so do those of the host
pub colons_inside_host : (front : List ℕ) (user : Option (List ℕ)) (host : List ℕ) → ScpUser front user host → ColonsInside front → ColonsInside host
colons_inside_host front user host k h = grind (arith, nat_tests, colons_inside_after)

-- ---- the piece that a host is read from

-- ---- the host

-- a host that the piece names
pub scp_host_found : (host piece denoted : List ℕ) → FreeOf at_sign host → FreeOf backslash host → LacksWhiteSpace host → piece ≡ escaped_percents host → SpellsHost piece denoted → ScpHost host denoted
scp_host_found host piece denoted at back white e h = grind arith

-- ---- the whole

-- the front and the path are the only ones
scp_form_unique : (b front path other second : List ℕ) → ScpForm b front path → ScpForm b other second → (front ≡ other) × (path ≡ second)
scp_form_unique b front path other second h k = same_front b front path other second h.joined k.joined h.form k.form

-- no path, no location
pub scp_no_path : (b front : List ℕ) → ScpForm b front [] → (v : Location) → ¬ SpellsScpBefore b v
scp_no_path b front h v k = grind (arith, nat_tests, scp_form_unique)

-- no host, no location
pub scp_no_host : (b front path : List ℕ) (user : Option (List ℕ)) (host : List ℕ) → ScpForm b front path → ScpUser front user host → FreeOf at_sign host → ((denoted : List ℕ) → ¬ ScpHost host denoted) → (v : Location) → ¬ SpellsScpBefore b v
scp_no_host b front path user host h split at none v k =
    let same = scp_form_unique b front path k.front k.path h k.form in
    let pieces = scp_user_unique k.front user k.user host k.host at k.hosted.no_at (subst (λ f. ScpUser f user host) same.0 split) k.split in
    none k.denoted (subst (λ t. ScpHost t k.denoted) (sym pieces.1) k.hosted)

-- the front of a text is text
front_utf8 : (b front path : List ℕ) → ScpForm b front path → IsUtf8 b → IsUtf8 front
front_utf8 b front path h text = (utf8_parts front path colon (subst IsUtf8 h.joined text) (omega arith)).0

-- so is its host
pub scp_host_utf8 : (b front path : List ℕ) (user : Option (List ℕ)) (host : List ℕ) → ScpForm b front path → IsUtf8 b → ScpUser front user host → IsUtf8 host
scp_host_utf8 b front path user host h text (host_alone e _) = subst IsUtf8 e (front_utf8 b front path h text)
scp_host_utf8 b front path user host h text (with_user u e _) = (utf8_parts u host at_sign (subst IsUtf8 e (front_utf8 b front path h text)) (omega arith)).1

-- and its user
pub scp_user_utf8 : (b front path : List ℕ) (user : Option (List ℕ)) (host : List ℕ) → ScpForm b front path → IsUtf8 b → ScpUser front user host → IfSome user IsUtf8
scp_user_utf8 b front path user host h text (host_alone e is) = subst (λ o. IfSome o IsUtf8) (sym is) tt
scp_user_utf8 b front path user host h text (with_user u e is) =
    subst (λ o. IfSome o IsUtf8) (sym is) (utf8_parts u host at_sign (subst IsUtf8 e (front_utf8 b front path h text)) (omega arith)).0

-- ---- `user@[address]:path`

-- if the path after the address is empty, the earlier form spells nothing
pub addressed_no_path_before : (b user address : List ℕ) → AddressedForm b user address [] → (v : Location) → ¬ SpellsScpBefore b v
addressed_no_path_before b user address k v h =
    let (x, y, f, e) = address_cut address k.cut.addressed in
    elim (front_of_addressed b user address [] x y h.front h.path k f e h.form.joined h.form.form) [
      | inl within ↦
          let pieces = scp_user_unique h.front h.user (Some user) h.host (left_bracket ∷ x) h.hosted.no_at (address_front_free at_sign address x y refl k.cut.addressed e) h.split (with_user user within refl) in
          open_bracket_no_host h.host x h.denoted pieces.1 (address_front_free right_bracket address x y refl k.cut.addressed e) h.hosted
      | inr (suffix, none) ↦ absurd (omega (arith, ap length none, h.pathed))
    ]

-- nor does the shape
pub addressed_no_path : (b user address : List ℕ) → AddressedForm b user address [] → (v : Location) → ¬ SpellsScp b v
addressed_no_path b user address k v (inl h) = addressed_no_path_before b user address k v h
addressed_no_path b user address k v (inr h) =
    let same = addressed_unique b user h.user address h.address [] h.path k h.form in
    absurd (omega (arith, ap length same.2, h.pathed))

-- the user before an address is UTF-8
pub addressed_user_utf8 : (b user address path : List ℕ) → AddressedForm b user address path → IsUtf8 b → IsUtf8 user
addressed_user_utf8 b user address path k text =
    (utf8_parts user (left_bracket ∷ (address ++ right_bracket ∷ (colon ∷ path))) at_sign (subst IsUtf8 k.cut.joined text) (omega arith)).0

-- ---- tests and steps of the code

-- ---- the slices that are found for the host

-- a text with another byte in front is in no brackets
pub not_in_brackets : (t : List ℕ) → begins_with left_bracket t ≡ false → ¬ IsBracketed t
not_in_brackets t apart (inner, e) = both_ways _ apart (ap (begins_with left_bracket) e)

-- in lower case none comes in front
normal_front : (host : List ℕ) → begins_with left_bracket host ≡ false → begins_with left_bracket (normal_host host) ≡ false
normal_front host open_front = grind arith

-- the front is the same if each `%` is escaped
escaped_front : (c : ℕ) (host : List ℕ) → (37 == c) ≡ false → begins_with c host ≡ false → begins_with c (escaped_percents host) ≡ false
escaped_front c host other h = grind arith

-- a text that isn't empty is written as more than nothing
pub escaped_some : (host : List ℕ) → 0 < length host → 0 < length (escaped_percents host)
escaped_some [] h = absurd (omega (arith, h))
escaped_some (b ∷ host) h = elim (cases_Bool (b == percent_sign)) [ inl same ↦ rw same (omega arith) | inr kept ↦ rw kept (omega arith) ]

-- a text that is UTF-8 denotes its normal form
name_text : (host : List ℕ) → IsUtf8 host → HostText git_hosts (escaped_percents host) (normal_host host)
name_text host text = (subst IsUtf8 (sym (decode_escaped_percents host)) text, ap normal_host (sym (decode_escaped_percents host)))

-- a host without a colon and without a bracket in front
pub name_found : (host : List ℕ) → 0 < length host → begins_with left_bracket host ≡ false → IsUtf8 host → FreeOf colon host → SpellsHost (escaped_percents host) (normal_host host)
name_found host some open_front text free = record {
  named = normal_host host;
  names =
      SpellsHostPort.plain (normal_host host) (record { nonempty = escaped_some host some; no_colon = lacks_escaped_percents (λ b. b == colon) host refl refl refl free; no_bracket = escaped_front left_bracket host refl open_front })
      (name_text host text) refl refl;
  unbracketed = Unbrackets.same (not_in_brackets (normal_host host) (normal_front host open_front)) refl;
}

-- if the text holds a colon, a bracket closes after it
colon_enclosed : (host front suffix : List ℕ) → host ≡ front ++ colon ∷ suffix → ColonsInside host → (z : List ℕ) × (rest : List ℕ) × (suffix ≡ z ++ right_bracket ∷ rest)
colon_enclosed host front suffix e (inl free) = absurd (not_free colon front suffix (subst (λ t. FreeOf colon t) e free))
colon_enclosed host front suffix e (inr (inside, rest, closed, free, k)) =
    elim (either_after colon right_bracket front suffix inside rest refl (sym e ∙ k)) [
      | inl (z, is, _) ↦ (z, rest, is)
      | inr (z, is) ↦ absurd (not_free colon z suffix (subst (λ t. FreeOf colon t) is free))
    ]

-- so the host isn't an address without brackets
no_address : (host front suffix : List ℕ) → host ≡ front ++ colon ∷ suffix → ColonsInside host → ¬ ReadsAddress git_hosts (escaped_percents host)
no_address host front suffix e colons (_, address) =
    let (z, rest, is) = colon_enclosed host front suffix e colons in
    let whole : host ≡ (front ++ colon ∷ z) ++ right_bracket ∷ rest = e ∙ ap (λ t. front ++ colon ∷ t) is ∙ sym (append_assoc front (colon ∷ z) (right_bracket ∷ rest)) in
    let escaped = ap escaped_percents whole ∙ escaped_percents-append (front ++ colon ∷ z) (right_bracket ∷ rest) in
    not_free right_bracket (escaped_percents (front ++ colon ∷ z)) (escaped_percents rest) (subst (λ t. FreeOf right_bracket t) escaped (free_piece address))
  where
    free_piece : IsAddressPiece (escaped_percents host) → FreeOf right_bracket (escaped_percents host)
    free_piece (inl h) = address_free right_bracket (escaped_percents host) refl h
    free_piece (inr (a, h, k)) = subst (λ t. FreeOf right_bracket t) (sym k) (free-append right_bracket a (colon ∷ []) (address_free right_bracket a refl h) refl)

-- a host whose colons mark no port
pub colons_found : (host front suffix : List ℕ) → begins_with left_bracket host ≡ false → IsUtf8 host → ColonsInside host → host ≡ front ++ colon ∷ suffix → (true ≡ (length front == 0)) ⊎ (¬ FreeOf colon suffix) → SpellsHost (escaped_percents host) (normal_host host)
colons_found host front suffix open_front text colons e many = record {
  named = normal_host host;
  names =
      SpellsHostPort.colons (normal_host host) bare_not_strict (no_address host front suffix e colons) (escaped_front left_bracket host refl open_front) (many_coloned many) (name_text host text) refl refl;
  unbracketed = Unbrackets.same (not_in_brackets (normal_host host) (normal_front host open_front)) refl;
}
  where
    escaped : escaped_percents host ≡ escaped_percents front ++ colon ∷ escaped_percents suffix
    escaped = ap escaped_percents e ∙ escaped_percents-append front (colon ∷ suffix)

    many_coloned : (true ≡ (length front == 0)) ⊎ (¬ FreeOf colon suffix) → IsManyColoned (escaped_percents host)
    many_coloned (inl none) = colon_first (escaped_percents host) (escaped_percents front) (escaped_percents suffix) (ap (λ t. length (escaped_percents t) == 0) (sym (nil_tested front none))) escaped
    many_coloned (inr held) =
        elim (free_or_cut colon suffix) [
          | inl h ↦ absurd (held h)
          | inr (y, z, _, k) ↦
              inr (escaped_percents front, escaped_percents y, escaped_percents z, escaped ∙ ap (λ t. escaped_percents front ++ colon ∷ t) (ap escaped_percents k ∙ escaped_percents-append y (colon ∷ z)))
        ]

-- the text in the place of a port, after one colon, isn't a port
pub no_port_found : (host front suffix : List ℕ) → begins_with left_bracket host ≡ false → ColonsInside host → FreeOf colon front → host ≡ front ++ colon ∷ suffix → false ≡ (length front == 0) → FreeOf colon suffix → ScpNameFlaw host fault.BadPort
no_port_found host front suffix open_front colons first e some last =
    HasBadPort.plain (escaped_percents front) (escaped_percents suffix) (record { nonempty = escaped_some front (some_tested front some); no_colon = lacks_escaped_percents (λ b. b == colon) front refl refl refl first; no_bracket = escaped_front left_bracket front refl (front_open front e some) }) (lacks_escaped_percents (λ b. b == colon) suffix refl refl refl last)
    (ap escaped_percents e ∙ escaped_percents-append front (colon ∷ suffix)) (not_digits git_hosts (escaped_percents suffix) (no_digits (list_all is_ascii_digit (escaped_percents suffix)) refl))
  where
    front_open : (t : List ℕ) → host ≡ t ++ colon ∷ suffix → false ≡ (length t == 0) → begins_with left_bracket t ≡ false
    front_open [] k none = absurd (false≢true none)
    front_open (b ∷ t) k none = sym (ap (begins_with left_bracket) k) ∙ open_front

    no_digits : (all : Bool) → list_all is_ascii_digit (escaped_percents suffix) ≡ all → false ≡ list_all is_ascii_digit (escaped_percents suffix)
    no_digits false k = sym k
    no_digits true k =
        let (z, rest, is) = colon_enclosed host front suffix e colons in
        absurd (not_free right_bracket (escaped_percents z) (escaped_percents rest) (subst (λ t. FreeOf right_bracket t) (ap escaped_percents is ∙ escaped_percents-append z (right_bracket ∷ rest)) (free_of_all is_ascii_digit right_bracket (escaped_percents suffix) k refl)))

-- ---- brackets

-- no bracket closes
pub open_found : (suffix : List ℕ) → FreeOf right_bracket suffix → ScpNameFlaw (left_bracket ∷ suffix) fault.BadCharacter
open_found suffix free = HasBadHost.open_bracket (escaped_percents suffix) (lacks_escaped_percents (λ b. b == right_bracket) suffix refl refl refl free) refl

-- the text between brackets and the text after them, if each `%` is escaped
brackets_escaped : (suffix inner rest : List ℕ) → suffix ≡ inner ++ right_bracket ∷ rest → escaped_percents suffix ≡ escaped_percents inner ++ right_bracket ∷ escaped_percents rest
brackets_escaped suffix inner rest e = ap escaped_percents e ∙ escaped_percents-append inner (right_bracket ∷ rest)

-- no colon follows the brackets
no_colon_after : (suffix inner rest : List ℕ) → ColonsInside (left_bracket ∷ suffix) → FreeOf right_bracket inner → suffix ≡ inner ++ right_bracket ∷ rest → FreeOf colon rest
no_colon_after suffix inner rest (inl free) closed e =
    let whole : FreeOf colon ((left_bracket ∷ inner) ++ right_bracket ∷ rest) = subst (λ t. FreeOf colon (left_bracket ∷ t)) e free in
    (free_head_tail colon right_bracket rest (free_parts colon (left_bracket ∷ inner) (right_bracket ∷ rest) whole).1).1
no_colon_after suffix inner rest (inr (inside, last, first, free, k)) closed e =
    let pieces = cut_unique right_bracket (left_bracket ∷ inner) inside rest last closed first (sym (ap (λ t. left_bracket ∷ t) e) ∙ k) in
    subst (λ t. FreeOf colon t) (sym pieces.1) free

-- so anything that follows is refused
pub rest_found : (suffix inner rest : List ℕ) → ColonsInside (left_bracket ∷ suffix) → FreeOf right_bracket inner → suffix ≡ inner ++ right_bracket ∷ rest → false ≡ (length rest == 0) → ScpNameFlaw (left_bracket ∷ suffix) fault.BadCharacter
rest_found suffix inner rest colons closed e some =
    not_ended git_hosts (escaped_percents suffix) (escaped_percents inner) (escaped_percents rest) (lacks_escaped_percents (λ b. b == right_bracket) inner refl refl refl closed) (brackets_escaped suffix inner rest e)
    (λ ends. elim ends [
      | inl none ↦ absurd (omega (arith, ap length none, escaped_some rest (some_tested rest some)))
      | inr begins ↦
          both_ways _ (free_begins colon (escaped_percents rest) (lacks_escaped_percents (λ b. b == colon) rest refl refl refl (no_colon_after suffix inner rest colons closed e))) begins
    ])

-- a host between brackets
inner_found : (suffix inner rest shown : List ℕ) → FreeOf right_bracket inner → suffix ≡ inner ++ right_bracket ∷ rest → true ≡ (length rest == 0) → Inner git_hosts (escaped_percents inner) shown → SpellsHost (escaped_percents (left_bracket ∷ suffix)) shown
inner_found suffix inner rest shown closed e none h = record {
  named = left_bracket ∷ (shown ++ right_bracket ∷ []);
  names =
      SpellsHostPort.bracketed (escaped_percents inner) shown (lacks_escaped_percents (λ b. b == right_bracket) inner refl refl refl closed) h
      (ap (λ t. left_bracket ∷ t) (brackets_escaped suffix inner rest e ∙ ap (λ t. escaped_percents inner ++ right_bracket ∷ escaped_percents t) (nil_tested rest none))) refl refl;
  unbracketed = Unbrackets.brackets refl;
}

-- a literal
pub literal_found : (suffix inner rest : List ℕ) → FreeOf right_bracket inner → suffix ≡ inner ++ right_bracket ∷ rest → true ≡ (length rest == 0) → IsLiteral (escaped_percents inner) → SpellsHost (escaped_percents (left_bracket ∷ suffix)) (lowercase_address inner)
literal_found suffix inner rest closed e none h =
    inner_found suffix inner rest (lowercase_address inner) closed e none (subst (λ t. Inner git_hosts (escaped_percents inner) (lowercase_address t)) (decode_escaped_percents inner) (literal_inner git_hosts (escaped_percents inner) h))

-- and any other text
pub inner_kept : (suffix inner rest : List ℕ) → IsUtf8 (left_bracket ∷ suffix) → FreeOf right_bracket inner → suffix ≡ inner ++ right_bracket ∷ rest → true ≡ (length rest == 0) → ¬ IsLiteral (escaped_percents inner) → SpellsHost (escaped_percents (left_bracket ∷ suffix)) inner
inner_kept suffix inner rest text closed e none other =
    let inside = (utf8_parts [] suffix left_bracket text (omega arith)).1 in
    let is = (utf8_parts inner rest right_bracket (subst IsUtf8 e inside) (omega arith)).0 in
    inner_found suffix inner rest inner closed e none (Bracketed.other other (sym (decode_escaped_percents inner)) is)

-- ---- literals whose `%` is unescaped

-- each `%` is sound if it is escaped
escaped_sound : (t : List ℕ) → is_sound (escaped_percents t) ≡ true
escaped_sound [] = refl
escaped_sound (b ∷ t) = elim (cases_Bool (b == percent_sign)) [ inl same ↦ rw same (escaped_sound t) | inr kept ↦ rw kept (sound_kept b (escaped_percents t) kept ∙ escaped_sound t) ]

-- a byte of a zone is one if each `%` is escaped
escaped_zone_bytes : (t : List ℕ) → list_all is_zone_byte (escaped_percents t) ≡ list_all is_zone_byte t
escaped_zone_bytes [] = refl
escaped_zone_bytes (b ∷ t) =
    elim (cases_Bool (b == percent_sign)) [
      | inl same ↦
          ap (list_all is_zone_byte) (escaped_sign same) ∙ escaped_zone_bytes t ∙ ap (λ c. is_zone_byte c && list_all is_zone_byte t) (sym (eqb-true b percent_sign same))
      | inr other ↦ ap (list_all is_zone_byte) (escaped_other other) ∙ ap (λ rest. is_zone_byte b && rest) (escaped_zone_bytes t)
    ]
  where
    escaped_sign : (b == percent_sign) ≡ true → escaped_percents (b ∷ t) ≡ percent_sign ∷ (50 ∷ (53 ∷ escaped_percents t))
    escaped_sign same = rw same refl

    escaped_other : (b == percent_sign) ≡ false → escaped_percents (b ∷ t) ≡ b ∷ escaped_percents t
    escaped_other other = rw other refl

-- the bytes of a zone, and no other, are one if each `%` is escaped
pub zone_found : (t : List ℕ) → 0 < length t → list_all is_zone_byte t ≡ true → IsZone (escaped_percents t)
zone_found t some all = record {
  nonempty = escaped_some t some;
  sound = escaped_sound t;
  bytes = escaped_zone_bytes t ∙ all;
  text = subst IsUtf8 (sym (decode_escaped_percents t)) (utf8_class is_zone_byte zone_byte_ascii t all);
}

-- and nothing else is
pub zone_unescaped : (t : List ℕ) → IsZone (escaped_percents t) → (0 < length t) × (list_all is_zone_byte t ≡ true)
zone_unescaped [] h = absurd (omega (arith, h.nonempty))
zone_unescaped (b ∷ t) h = (omega arith, sym (escaped_zone_bytes (b ∷ t)) ∙ h.bytes)

-- a text around its first `%`, which is escaped
pub zone_cut : (t a z : List ℕ) → FreeOf percent_sign a → t ≡ a ++ percent_sign ∷ z → escaped_percents t ≡ a ++ percent_sign ∷ (50 ∷ (53 ∷ escaped_percents z))
zone_cut t a z free e = ap escaped_percents e ∙ escaped_percents-append a (percent_sign ∷ z) ∙ ap (λ front. front ++ percent_sign ∷ (50 ∷ (53 ∷ escaped_percents z))) (escaped_percents_kept a free)

-- such a text is a literal only as an address and a zone
pub zone_parts : (t a z : List ℕ) → FreeOf percent_sign a → t ≡ a ++ percent_sign ∷ z → IsLiteral (escaped_percents t) → IsIpv6Text a × IsZone (escaped_percents z)
zone_parts t a z free e h =
    let (address, found) = literal_parts (escaped_percents t) a (50 ∷ (53 ∷ escaped_percents z)) free (zone_cut t a z free e) h in
    let (zone, escaped, is) = found in
    (address, subst IsZone (sym (tails (tails is))) escaped)

-- ---- the location

-- the slices that are found for a host that isn't empty are found for the host
pub scp_host_read : (host : List ℕ) (r : Result rust.ScpHost UrlFault) → FreeOf at_sign host → FreeOf backslash host → LacksWhiteSpace host → ReadsScpPiece host r → ReadsScpHost host r
scp_host_read host (Ok found) at back white h = scp_host_found host (escaped_percents host) (scp_host_of found) at back white refl h
scp_host_read host (Err fault) at back white h = ScpHostFlaw.bad_name fault h

-- the host without brackets around it is text
unbracketed_utf8 : (host inner : List ℕ) → Unbrackets host inner → IsUtf8 host → IsUtf8 inner
unbracketed_utf8 host inner (Unbrackets.brackets e) is =
    (utf8_parts inner [] right_bracket (utf8_parts [] (inner ++ right_bracket ∷ []) left_bracket (subst IsUtf8 e is) (lit< tt)).1 (lit< tt)).0
unbracketed_utf8 host inner (Unbrackets.same other e) is = subst IsUtf8 (sym e) is

-- so is the host that one of the scp form denotes
pub scp_denoted_utf8 : {host denoted : List ℕ} → ScpHost host denoted → IsUtf8 denoted
scp_denoted_utf8 {host} {denoted} h = unbracketed_utf8 h.named denoted h.unbracketed (names_utf8 git_hosts (escaped_percents host) h.named None h.names)

-- ---- simple hosts

-- a byte of a simple host is ASCII and no white space
simple_byte_ascii : (b : ℕ) → is_simple_byte b ≡ true → b < 128
simple_byte_ascii b h = grind (arith, nat_tests)

simple_byte_no_space : (b : ℕ) → is_simple_byte b ≡ true → is_whitespace b ≡ false
simple_byte_no_space b h = grind (arith, nat_tests)

-- a simple host isn't a text in brackets
simple_unbracketed : (t : List ℕ) → IsSimpleHost t → ¬ IsBracketed t
simple_unbracketed t h k = grind arith

-- it denotes itself in the scp form
pub simple_scp_host : (t : List ℕ) → IsSimpleHost t → ScpHost t t
simple_scp_host t h = record {
  named = t;
  no_at = free_of_all is_simple_byte at_sign t h.bytes refl;
  no_backslash = free_of_all is_simple_byte backslash t h.bytes refl;
  no_white_space = white_space_ascii t (ascii_class is_simple_byte simple_byte_ascii t h.bytes) (lacks_of_all is_simple_byte is_whitespace simple_byte_no_space t h.bytes);
  names = subst (λ n. SpellsHostPort git_hosts n (Some t) None) (sym (escaped_percents_kept t (free_of_all is_simple_byte percent_sign t h.bytes refl))) (simple_named git_hosts t h);
  unbracketed = Unbrackets.same (simple_unbracketed t h) refl;
}
