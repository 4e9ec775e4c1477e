-- Hosts and ports: the shape of a piece of an authority, that it names at
-- most one host and port, and none if it has a flaw.
use Rattle.std.proofs.Common.{◌≡◌, ℕ, ◌<◌, true, false, ◌==◌, ◌⊎◌, inl, inr, List, [], ◌∷◌, ◌++◌, length, take, drop, Option, Some, None, Err, ◌^◌, rules, refl, sym, ap, subst, ◌∙◌, arith, append_assoc, length-append}
use Rattle.std.specs.List.{list_all}
use Rattle.std.specs.Char.{is_ascii_digit, to_ascii_lowercase}
use Rattle.std.specs.Str.Parse.{IsNumeral, digits_value, without_leading_plus}
use Rattle.std.specs.Fmt.{decimal}
use Rattle.std.proofs.lemmas.Fmt.{decimal_is_IsNumeral, digits_decimal}
use Rattle.std.proofs.lemmas.Str.Parse.{IsNumeralModel, numerals_by_value, parse_digits}
use Rattle.std.proofs.lemmas.Bool.{and_parts, cond-false, cond_both, both_ways, false≢true, eqb-true}
use Rattle.std.proofs.lemmas.Bool.Decides.{nat_tests}
use Rattle.std.proofs.lemmas.Option.{same_Some}
use Rattle.std.proofs.lemmas.List.{append-nil, map-append, take_all, drop_all}
use Rattle.std.proofs.Math.Seq.{take-append_seam, drop-append_seam}
use Rattle.std.proofs.lemmas.Str.{IsUtf8-append}
use Rattle.percent_encoding.proofs.PercentLemmas.{percent_decode_escape}
use Rattle.std.specs.Str.{IsUtf8}
use Rattle.percent_encoding.specs.Percent.{percent_decode}
use Rattle.git_syntax.specs.declared.refusal.UrlFault.{UrlFault}
use Rattle.git_syntax.specs.declared.refusal.UrlFault.TheVariants as fault
use Rattle.git_syntax.specs.declared.host.HostPort.{HostPort}
use Rattle.git_syntax.specs.Bytes.{colon, left_bracket, right_bracket, percent_sign, FreeOf, begins_with, lowercase}
use Rattle.git_syntax.specs.Addresses.{IsIpv6Text, is_zone_byte, Literal}
use Rattle.git_syntax.specs.Addresses.Literal.{address, zoned}
use Rattle.git_syntax.specs.Hosts as spec
use Rattle.git_syntax.specs.Hosts.{HostSyntax, is_dns_byte, is_http_host_byte, HostText, IsLiteral, Bracketed, Inner, AllowsPort, IsDigits, Number, IsAddressPiece, ReadsAddress, HoldsTwoColons, IsManyColoned, IsPlainHost, SpellsHostPort, normal_host, EndsHost}
use Rattle.git_syntax.specs.Hosts.HostSyntax.{http_hosts, git_hosts, other_hosts}
use Rattle.git_syntax.specs.Flaws.{IsNoPort, HasBadPort, IsPortPlace, IsNoInner, BracketsAround, HasBadHost, HostPortFlaw}
use Rattle.git_syntax.specs.Internal.HostPieces.{Follows, named_text, IsEscapedZone, IsInner, IsSimpleHost, is_simple_byte, in_brackets, lowercase_address, shown_literal}
use Rattle.git_syntax.proofs.Texts.CutLemmas.{heads, tails, class_cut_unique, cut_unique, free-append, free_begins, free_head_tail, free_of_all, free_or_cut, begins-append, not_free}
use Rattle.git_syntax.proofs.Texts.EscapeLemmas.{decode_kept, decodes_in_parts, sound_free, utf8_byte, utf8_class}
use Rattle.git_syntax.proofs.Addresses.AddressLemmas.{address_free, address_two_colons, address_utf8, address-lowercase, all_lowercase}

-- ---- the syntaxes of hosts

-- the syntaxes are three
pub loose_not_strict : ¬ (other_hosts ≡ http_hosts)
loose_not_strict e = cc

pub bare_not_strict : ¬ (git_hosts ≡ http_hosts)
bare_not_strict e = cc

pub loose_not_bare : ¬ (other_hosts ≡ git_hosts)
loose_not_bare e = cc

-- ---- ports

-- a text of decimal digits, as std defines them
pub digits_model : IsNumeralModel (λ ds. list_all is_ascii_digit ds ≡ true) (digits_value 10)
digits_model = numerals_by_value (λ ds. list_all is_ascii_digit ds ≡ true) (search rules)

-- digits that std reads as no number of 16 bits spell no port
pub not_parsed : (syntax : HostSyntax) (text : List ℕ) → list_all is_ascii_digit text ≡ true → ¬ (IsNumeral 10 (without_leading_plus text) × (digits_value 10 (without_leading_plus text) < 2 ^ 16)) → (port : ℕ) → ¬ Number syntax text port
not_parsed syntax text digits fails port n = parse_digits digits_model {E = ℕ} 16 text (Err 0) fails digits (n.digits.0, omega (arith, n.value, n.within))

-- a port is a number of a machine word
machine_word : (port : ℕ) → port < 65536 → port < 2 ^ 64
machine_word port h = omega (arith, h)

-- a port is written in digits
pub decimal_digits : (port : ℕ) → port < 65536 → IsDigits (decimal port)
decimal_digits port h = ((decimal_is_IsNumeral port (machine_word port h)).0.0, digits_decimal digits_model port (machine_word port h))

-- the digits that a port is written in spell it
pub number_written : (syntax : HostSyntax) (port : ℕ) → port < 65536 → AllowsPort syntax port → Number syntax (decimal port) port
number_written syntax port h allowed = record {
  digits = decimal_digits port h;
  value = sym (decimal_is_IsNumeral port (machine_word port h)).1;
  within = omega (arith, h);
  allowed = allowed;
}

-- ---- literals and texts

-- an address holds no `%`
address_no_percent : (t : List ℕ) → IsIpv6Text t → FreeOf percent_sign t
address_no_percent t h = address_free percent_sign t refl h

-- an address in lower case, alone and with a `%` after it
lowercase_address_alone : (a : List ℕ) → FreeOf percent_sign a → lowercase_address a ≡ lowercase a
lowercase_address_alone [] h = refl
lowercase_address_alone (b ∷ a) h =
    let (other, more) = free_head_tail percent_sign b a h in
    cond-false (b == percent_sign) _ _ other ∙ ap (λ t. to_ascii_lowercase b ∷ t) (lowercase_address_alone a more)

lowercase_address_before : (a z : List ℕ) → FreeOf percent_sign a → lowercase_address (a ++ percent_sign ∷ z) ≡ lowercase a ++ percent_sign ∷ z
lowercase_address_before [] z h = refl
lowercase_address_before (b ∷ a) z h =
    let (other, more) = free_head_tail percent_sign b a h in
    cond-false (b == percent_sign) _ _ other ∙ ap (λ t. to_ascii_lowercase b ∷ t) (lowercase_address_before a z more)

-- the same by the length of the text before the `%`
pub lowercase_address_cut : (t a z : List ℕ) → FreeOf percent_sign a → t ≡ a ++ percent_sign ∷ z → lowercase_address t ≡ lowercase (take (length a) t) ++ drop (length a) t
lowercase_address_cut t a z free e =
    let front : take (length a) t ≡ a = ap (λ x. take (length a) x) e ∙ take-append_seam a (percent_sign ∷ z) in
    let suffix : drop (length a) t ≡ percent_sign ∷ z = ap (λ x. drop (length a) x) e ∙ drop-append_seam a (percent_sign ∷ z) in
    ap lowercase_address e ∙ lowercase_address_before a z free
    ∙ sym (ap (λ x. lowercase x ++ drop (length a) t) front ∙ ap (λ x. lowercase a ++ x) suffix)

pub lowercase_address_whole : (t : List ℕ) → FreeOf percent_sign t → lowercase_address t ≡ lowercase (take (length t) t) ++ drop (length t) t
lowercase_address_whole t free = grind (arith, nat_tests, lowercase_address_alone, append-nil, drop_all, take_all)

-- the normal form of an IPv6 literal is in lower case up to its `%`
pub literal_normal : (t n : List ℕ) → Literal t n → n ≡ lowercase_address t
literal_normal t n h = grind (arith, nat_tests, address_no_percent, lowercase_address_alone, lowercase_address_before)

-- so it is one
pub literal_unique : (t m n : List ℕ) → Literal t m → Literal t n → m ≡ n
literal_unique t m n h k = literal_normal t m h ∙ sym (literal_normal t n k)

-- a text between brackets denotes one text, outside HTTP
bracketed_unique : (t m n : List ℕ) → Bracketed t m → Bracketed t n → m ≡ n
bracketed_unique t m n (spec.Bracketed.literal x h e u) (spec.Bracketed.literal y k f v) = e ∙ ap percent_decode (literal_unique t x y h k) ∙ sym f
bracketed_unique t m n (spec.Bracketed.literal x h e u) (spec.Bracketed.other k f v) = absurd (k (x, h))
bracketed_unique t m n (spec.Bracketed.other h e u) (spec.Bracketed.literal y k f v) = absurd (h (y, k))
bracketed_unique t m n (spec.Bracketed.other h e u) (spec.Bracketed.other k f v) = e ∙ sym f

-- and in every syntax
pub inner_unique : (syntax : HostSyntax) (t m n : List ℕ) → Inner syntax t m → Inner syntax t n → m ≡ n
inner_unique http_hosts = literal_unique
inner_unique git_hosts = bracketed_unique
inner_unique other_hosts = bracketed_unique

-- a text outside brackets denotes one host
pub host_text_unique : (syntax : HostSyntax) (t m n : List ℕ) → HostText syntax t m → HostText syntax t n → m ≡ n
host_text_unique http_hosts t m n h k = h.1 ∙ sym k.1
host_text_unique git_hosts t m n h k = h.1 ∙ sym k.1
host_text_unique other_hosts t m n h k = h.1 ∙ sym k.1

-- ---- the text after a host

-- a port's place follows
follows_place : {syntax : HostSyntax} {base rest : List ℕ} {host : Option (List ℕ)} {port : Option ℕ} → Follows syntax base rest host port → IsPortPlace rest
follows_place h = grind (arith, nat_tests, free_of_all)

-- the text after a host determines the text that is added to it, and the port
follows_unique : {syntax : HostSyntax} {rest : List ℕ} (base other : List ℕ) (host second : Option (List ℕ)) (port last : Option ℕ) → base ≡ other → Follows syntax base rest host port → Follows syntax other rest second last → (host ≡ second) × (port ≡ last)
follows_unique base other host second port last same h k = grind arith

-- ---- the looks of a piece

-- a host and a port's place
abbrev pub IsPlainPiece : List ℕ → Type 0
IsPlainPiece piece = (text : List ℕ) × (rest : List ℕ) × IsPlainHost text × IsPortPlace rest × (piece ≡ text ++ rest)

-- colons that mark no port, and no bracket in front
abbrev pub IsManyPiece : List ℕ → Type 0
IsManyPiece piece = (begins_with left_bracket piece ≡ false) × IsManyColoned piece

-- a host and a port's place don't begin with a bracket
plain_no_bracket : (piece : List ℕ) → IsPlainPiece piece → begins_with left_bracket piece ≡ false
plain_no_bracket piece (text, rest, h, place, e) = ap (begins_with left_bracket) e ∙ begins-append left_bracket text rest h.nonempty ∙ h.no_bracket

-- they aren't nothing
plain_some : {A : Type 0} (piece : List ℕ) → IsPlainPiece piece → piece ≡ [] → A
plain_some piece (text, rest, h, place, e) none = absurd (omega (arith, h.nonempty, length-append text rest, ap length (sym e ∙ none)))

-- nor are colons
many_some : {A : Type 0} (piece : List ℕ) → IsManyColoned piece → piece ≡ [] → A
many_some piece (inl h) none = absurd (both_ways (begins_with colon piece) (ap (begins_with colon) none) h)
many_some piece (inr (x, y, z, e)) none = absurd (omega (arith, length-append x (colon ∷ (y ++ colon ∷ z)), ap length (sym e ∙ none)))

-- a bracket in front
bracket_begins : (piece suffix : List ℕ) → piece ≡ left_bracket ∷ suffix → begins_with left_bracket piece ≡ true
bracket_begins piece suffix e = ap (begins_with left_bracket) e

-- no colon follows the only colon of a text
after_colon_free : (text digits x y : List ℕ) → FreeOf colon text → FreeOf colon digits → text ++ colon ∷ digits ≡ x ++ colon ∷ y → FreeOf colon y
after_colon_free [] digits [] y f g e = subst (λ t. FreeOf colon t) (tails e) g
after_colon_free [] digits (c ∷ x) y f g e = absurd (not_free colon x y (subst (λ t. FreeOf colon t) (tails e) g))
after_colon_free (b ∷ text) digits [] y f g e =
    let other = (free_head_tail colon b text f).0 in
    absurd (both_ways (b == colon) other (ap (λ a. a == colon) (heads e)))
after_colon_free (b ∷ text) digits (c ∷ x) y f g e = after_colon_free text digits x y (free_head_tail colon b text f).1 g (tails e)

-- a host and a port's place have no two colons
plain_one_colon : (text rest : List ℕ) → FreeOf colon text → IsPortPlace rest → HoldsTwoColons (text ++ rest) → ⊥
plain_one_colon text rest f (inl e) (x, y, z, is) =
    not_free colon x (y ++ colon ∷ z) (subst (λ t. FreeOf colon t) (sym (ap (λ t. text ++ t) e ∙ append-nil text) ∙ is) f)
plain_one_colon text rest f (inr (digits, g, e)) (x, y, z, is) =
    not_free colon y z (after_colon_free text digits x (y ++ colon ∷ z) f g (sym (ap (λ t. text ++ t) e) ∙ is))

-- their colon, if there is one, marks a port's place
plain_not_many : {A : Type 0} (piece : List ℕ) → IsPlainPiece piece → IsManyColoned piece → A
plain_not_many piece (text, rest, h, place, e) (inl begins) =
    let none = free_begins colon text h.no_colon in
    absurd (both_ways (begins_with colon text) none (sym (begins-append colon text rest h.nonempty) ∙ ap (begins_with colon) (sym e) ∙ begins))
plain_not_many piece (text, rest, h, place, e) (inr two) = absurd (plain_one_colon text rest h.no_colon place (subst HoldsTwoColons e two))

-- a port's place is empty or begins with a colon
pub place_begins : (rest : List ℕ) → IsPortPlace rest → (rest ≡ []) ⊎ (begins_with colon rest ≡ true)
place_begins rest h = grind arith

-- a piece is one host and one port's place
plain_unique : (text other rest last : List ℕ) → IsPlainHost text → IsPlainHost other → IsPortPlace rest → IsPortPlace last → text ++ rest ≡ other ++ last → (text ≡ other) × (rest ≡ last)
plain_unique text other rest last h k p q e =
    class_cut_unique (λ b. b == colon) text other rest last h.no_colon k.no_colon (place_begins rest p) (place_begins last q) e

-- ---- addresses without brackets

-- an address without brackets holds colons that mark no port
address_piece_many : (piece : List ℕ) → IsAddressPiece piece → IsManyPiece piece
address_piece_many piece (inl h) = (free_begins left_bracket piece (address_free left_bracket piece refl h), inr (address_two_colons piece h))
address_piece_many piece (inr (a, h, e)) =
    let (x, y, z, is) = address_two_colons a h in
    let free : FreeOf left_bracket (a ++ colon ∷ []) = free-append left_bracket a (colon ∷ []) (address_free left_bracket a refl h) refl in
    let two : HoldsTwoColons (a ++ colon ∷ []) = (x, y, z ++ colon ∷ [], ap (λ t. t ++ colon ∷ []) is ∙ append_assoc x (colon ∷ (y ++ colon ∷ z)) (colon ∷ []) ∙ ap (λ t. x ++ colon ∷ t) (append_assoc y (colon ∷ z) (colon ∷ []))) in
    (free_begins left_bracket piece (subst (λ t. FreeOf left_bracket t) (sym e) free), inr (subst HoldsTwoColons (sym e) two))

-- ---- the shapes of a name

-- the whole of a piece with such colons is the host
data ManyNames (syntax : HostSyntax) (piece : List ℕ) (host : Option (List ℕ)) : Type 0 where
  unbracketed : ReadsAddress syntax piece → host ≡ Some (lowercase piece) → ManyNames syntax piece host
  other_host : (named : List ℕ) → ¬ (syntax ≡ http_hosts) → ¬ ReadsAddress syntax piece → HostText syntax piece named → host ≡ Some named → ManyNames syntax piece host

-- a name by the looks of its piece
data Form (syntax : HostSyntax) (piece : List ℕ) (host : Option (List ℕ)) (port : Option ℕ) : Type 0 where
  nothing : piece ≡ [] → host ≡ None → port ≡ None → Form syntax piece host port
  bracketed : (x inner rest : List ℕ) → FreeOf right_bracket x → Inner syntax x inner → piece ≡ left_bracket ∷ (x ++ right_bracket ∷ rest)
      → Follows syntax (in_brackets inner) rest host port → Form syntax piece host port
  plain : (text named rest : List ℕ) → IsPlainHost text → HostText syntax text named → piece ≡ text ++ rest
      → Follows syntax named rest host port → Form syntax piece host port
  many : IsManyPiece piece → ManyNames syntax piece host → port ≡ None → Form syntax piece host port

-- brackets with a colon after them
brackets_colon : (inner : List ℕ) → in_brackets inner ++ colon ∷ [] ≡ left_bracket ∷ (inner ++ right_bracket ∷ (colon ∷ []))
brackets_colon inner = ap (λ t. left_bracket ∷ t) (append_assoc inner (right_bracket ∷ []) (colon ∷ []))

-- every name has a shape
name_form : {syntax : HostSyntax} {piece : List ℕ} {host : Option (List ℕ)} {port : Option ℕ} → SpellsHostPort syntax piece host port → Form syntax piece host port
name_form (SpellsHostPort.nothing e h p) = Form.nothing e h p
name_form (SpellsHostPort.bracketed x inner f i e h p) = Form.bracketed x inner [] f i e (Follows.nothing refl h p)
name_form (SpellsHostPort.bracketed_colon x inner f i e h p) = Form.bracketed x inner (colon ∷ []) f i e (Follows.lone_colon refl (h ∙ ap Some (sym (brackets_colon inner))) p)
name_form (SpellsHostPort.bracketed_port x inner digits n f i k e h p) = Form.bracketed x inner (colon ∷ digits) f i e (Follows.number digits n k refl h p)
name_form {syntax} {piece} (SpellsHostPort.unbracketed r h p) = Form.many (address_piece_many piece r.1) (ManyNames.unbracketed r h) p
name_form {syntax} {piece} (SpellsHostPort.plain named h t is p) = Form.plain piece named [] h t (sym (append-nil piece)) (Follows.nothing refl is p)
name_form (SpellsHostPort.plain_colon text named h t e is p) = Form.plain text named (colon ∷ []) h t e (Follows.lone_colon refl is p)
name_form (SpellsHostPort.plain_port text named digits n h t k e is p) = Form.plain text named (colon ∷ digits) h t e (Follows.number digits n k refl is p)
name_form (SpellsHostPort.colons named s r b m t is p) = Form.many (b, m) (ManyNames.other_host named s r t is) p

-- and every shape has a name

-- the form of a name decides the host and the port
many_unique : (syntax : HostSyntax) (piece : List ℕ) (host second : Option (List ℕ)) → ManyNames syntax piece host → ManyNames syntax piece second → host ≡ second
many_unique syntax piece host second h k = grind arith

-- the reading of brackets: the cut and the rest
bracket_cut : (x y rest last piece : List ℕ) → FreeOf right_bracket x → FreeOf right_bracket y → piece ≡ left_bracket ∷ (x ++ right_bracket ∷ rest) → piece ≡ left_bracket ∷ (y ++ right_bracket ∷ last) → (x ≡ y) × (rest ≡ last)
bracket_cut x y rest last piece f g e k = cut_unique right_bracket x y rest last f g (tails (sym e ∙ k))

-- no two shapes look alike
form_unique : (syntax : HostSyntax) (piece : List ℕ) (host second : Option (List ℕ)) (port last : Option ℕ) → Form syntax piece host port → Form syntax piece second last → (host ≡ second) × (port ≡ last)
form_unique syntax piece host second port last (Form.nothing e h p) (Form.nothing f k q) = (h ∙ sym k, p ∙ sym q)
form_unique syntax piece host second port last (Form.nothing e h p) (Form.bracketed x inner rest f i k g) = let wrong = sym e ∙ k in cc
form_unique syntax piece host second port last (Form.nothing e h p) (Form.plain text named rest f i k g) = plain_some piece (text, rest, f, follows_place g, k) e
form_unique syntax piece host second port last (Form.nothing e h p) (Form.many m n q) = many_some piece m.1 e
form_unique syntax piece host second port last (Form.bracketed x inner rest f i k g) (Form.nothing e h p) = let wrong = sym e ∙ k in cc
form_unique syntax piece host second port last (Form.bracketed x inner rest f i k g) (Form.bracketed y other end h j l m) =
    let (same, ends) = bracket_cut x y rest end piece f h k l in
    let inners = inner_unique syntax y inner other (subst (λ t. Inner syntax t inner) same i) j in
    follows_unique (in_brackets inner) (in_brackets other) host second port last (ap in_brackets inners) (subst (λ t. Follows syntax (in_brackets inner) t host port) ends g) m
form_unique syntax piece host second port last (Form.bracketed x inner rest f i k g) (Form.plain text named end h j l m) =
    absurd (both_ways _ (plain_no_bracket piece (text, end, h, follows_place m, l)) (bracket_begins piece _ k))
form_unique syntax piece host second port last (Form.bracketed x inner rest f i k g) (Form.many m n q) =
    absurd (both_ways _ m.0 (bracket_begins piece _ k))
form_unique syntax piece host second port last (Form.plain text named rest f i k g) (Form.nothing e h p) = plain_some piece (text, rest, f, follows_place g, k) e
form_unique syntax piece host second port last (Form.plain text named end h j l m) (Form.bracketed x inner rest f i k g) =
    absurd (both_ways _ (plain_no_bracket piece (text, end, h, follows_place m, l)) (bracket_begins piece _ k))
form_unique syntax piece host second port last (Form.plain text named rest f i k g) (Form.plain other called end h j l m) =
    let (same, ends) = plain_unique text other rest end f h (follows_place g) (follows_place m) (sym k ∙ l) in
    let hosts = host_text_unique syntax other named called (subst (λ t. HostText syntax t named) same i) j in
    follows_unique named called host second port last hosts (subst (λ t. Follows syntax named t host port) ends g) m
form_unique syntax piece host second port last (Form.plain text named rest f i k g) (Form.many m n q) = plain_not_many piece (text, rest, f, follows_place g, k) m.1
form_unique syntax piece host second port last (Form.many m n q) (Form.nothing e h p) = many_some piece m.1 e
form_unique syntax piece host second port last (Form.many m n q) (Form.bracketed x inner rest f i k g) =
    absurd (both_ways _ m.0 (bracket_begins piece _ k))
form_unique syntax piece host second port last (Form.many m n q) (Form.plain text named rest f i k g) = plain_not_many piece (text, rest, f, follows_place g, k) m.1
form_unique syntax piece host second port last (Form.many m n p) (Form.many k l q) = (many_unique syntax piece host second n l, p ∙ sym q)

-- a piece names one host and one port
pub names_unique : (syntax : HostSyntax) (piece : List ℕ) (host second : Option (List ℕ)) (port last : Option ℕ) → SpellsHostPort syntax piece host port → SpellsHostPort syntax piece second last → (host ≡ second) × (port ≡ last)
names_unique syntax piece host second port last h k = form_unique syntax piece host second port last (name_form h) (name_form k)

-- ---- flaws

-- a text in the place of a port that isn't a port follows no host
no_port_follows : {syntax : HostSyntax} {base digits rest : List ℕ} {host : Option (List ℕ)} {port : Option ℕ} → IsNoPort syntax digits → rest ≡ colon ∷ digits → Follows syntax base rest host port → ⊥
no_port_follows h e k = grind arith

-- a name between brackets
record NamedInBrackets (syntax : HostSyntax) (piece : List ℕ) (host : Option (List ℕ)) (port : Option ℕ) : Type 0 where
  x : List ℕ
  inner : List ℕ
  rest : List ℕ
  around : BracketsAround piece x rest
  stands : Inner syntax x inner
  follows : Follows syntax (in_brackets inner) rest host port

-- a name outside them
record Outside (syntax : HostSyntax) (piece : List ℕ) (host : Option (List ℕ)) (port : Option ℕ) : Type 0 where
  front : List ℕ
  named : List ℕ
  rest : List ℕ
  is_plain : IsPlainHost front
  stands : HostText syntax front named
  joined : piece ≡ front ++ rest
  follows : Follows syntax named rest host port

-- a piece with a bracket in front is named between brackets
named_in_brackets : (syntax : HostSyntax) (piece : List ℕ) (host : Option (List ℕ)) (port : Option ℕ) → begins_with left_bracket piece ≡ true → Form syntax piece host port → NamedInBrackets syntax piece host port
named_in_brackets syntax piece host port b (Form.nothing e h p) = absurd (false≢true (sym (ap (begins_with left_bracket) e) ∙ b))
named_in_brackets syntax piece host port b (Form.bracketed x inner rest f i e g) =
    record { x = x; inner = inner; rest = rest; around = record { closed = f; joined = e; followed = place_begins rest (follows_place g) }; stands = i; follows = g }
named_in_brackets syntax piece host port b (Form.plain front named rest h t e g) = absurd (both_ways _ (plain_no_bracket piece (front, rest, h, follows_place g, e)) b)
named_in_brackets syntax piece host port b (Form.many m n p) = absurd (both_ways _ m.0 b)

-- a host and a port's place are named outside of them
named_outside : (syntax : HostSyntax) (piece : List ℕ) (host : Option (List ℕ)) (port : Option ℕ) → IsPlainPiece piece → Form syntax piece host port → Outside syntax piece host port
named_outside syntax piece host port b (Form.nothing e h p) = plain_some piece b e
named_outside syntax piece host port b (Form.bracketed x inner rest f i e g) = absurd (both_ways _ (plain_no_bracket piece b) (bracket_begins piece _ e))
named_outside syntax piece host port b (Form.plain front named rest h t e g) =
    record { front = front; named = named; rest = rest; is_plain = h; stands = t; joined = e; follows = g }
named_outside syntax piece host port b (Form.many m n p) = plain_not_many piece b m.1

-- colons that mark no port are named as a whole
named_whole : (syntax : HostSyntax) (piece : List ℕ) (host : Option (List ℕ)) (port : Option ℕ) → IsManyPiece piece → Form syntax piece host port → ManyNames syntax piece host
named_whole syntax piece host port b (Form.nothing e h p) = many_some piece b.1 e
named_whole syntax piece host port b (Form.bracketed x inner rest f i e g) = absurd (both_ways _ b.0 (bracket_begins piece _ e))
named_whole syntax piece host port b (Form.plain front named rest h t e g) = plain_not_many piece (front, rest, h, follows_place g, e) b.1
named_whole syntax piece host port b (Form.many m n p) = n

-- the syntax of HTTP is not that of Git
pub strict_not_bare : ¬ (http_hosts ≡ git_hosts)
strict_not_bare e = cc

-- if no port is in its place, nothing is named
bad_port_unnamed : (syntax : HostSyntax) (piece : List ℕ) (host : Option (List ℕ)) (port : Option ℕ) → HasBadPort syntax piece → Form syntax piece host port → ⊥
bad_port_unnamed syntax piece host port (HasBadPort.plain front digits h free e none) s =
    let place : IsPortPlace (colon ∷ digits) = inr (digits, free, refl) in
    let n = named_outside syntax piece host port (front, colon ∷ digits, h, place, e) s in
    let parts = plain_unique n.front front n.rest (colon ∷ digits) n.is_plain h (follows_place n.follows) place (sym n.joined ∙ e) in
    no_port_follows none parts.1 n.follows
bad_port_unnamed syntax piece host port (HasBadPort.bracketed x digits free e none) s =
    let n = named_in_brackets syntax piece host port (bracket_begins piece _ e) s in
    let parts = bracket_cut n.x x n.rest (colon ∷ digits) piece n.around.closed free n.around.joined e in
    no_port_follows none parts.1 n.follows

-- nor if a byte is not allowed
bad_host_unnamed : (syntax : HostSyntax) (piece : List ℕ) (host : Option (List ℕ)) (port : Option ℕ) → HasBadHost syntax piece → Form syntax piece host port → ⊥
bad_host_unnamed syntax piece host port (HasBadHost.plain front rest h place e none) s =
    let n = named_outside syntax piece host port (front, rest, h, place, e) s in
    let parts = plain_unique n.front front n.rest rest n.is_plain h (follows_place n.follows) place (sym n.joined ∙ e) in
    none n.named (subst (λ t. HostText syntax t n.named) parts.0 n.stands)
bad_host_unnamed syntax piece host port (HasBadHost.colons_on_the_web e b m) s =
    elim (named_whole syntax piece host port (b, m) s) [
      | ManyNames.unbracketed r h ↦ strict_not_bare (sym e ∙ r.0)
      | ManyNames.other_host n w r t h ↦ w e
    ]
bad_host_unnamed syntax piece host port (HasBadHost.colons w r b m none) s =
    elim (named_whole syntax piece host port (b, m) s) [
      | ManyNames.unbracketed q h ↦ r q
      | ManyNames.other_host n v q t h ↦ none n t
    ]
bad_host_unnamed syntax piece host port (HasBadHost.open_bracket suffix free e) s =
    let n = named_in_brackets syntax piece host port (bracket_begins piece suffix e) s in
    not_free right_bracket n.x n.rest (subst (λ t. FreeOf right_bracket t) (tails (sym e ∙ n.around.joined)) free)
bad_host_unnamed syntax piece host port (HasBadHost.after_bracket x rest free e some other) s =
    let n = named_in_brackets syntax piece host port (bracket_begins piece _ e) s in
    let ends = (bracket_cut n.x x n.rest rest piece n.around.closed free n.around.joined e).1 in
    elim n.around.followed [
      | inl none ↦ omega (arith, some, ap length (sym ends ∙ none))
      | inr begins ↦ both_ways _ other (ap (begins_with colon) (sym ends) ∙ begins)
    ]
bad_host_unnamed syntax piece host port (HasBadHost.brackets x rest a none) s =
    let n = named_in_brackets syntax piece host port (bracket_begins piece _ a.joined) s in
    let parts = bracket_cut n.x x n.rest rest piece n.around.closed a.closed n.around.joined a.joined in
    none n.inner (subst (λ t. Inner syntax t n.inner) parts.0 n.stands)

-- a piece with a flaw names nothing
pub flawed_unnamed : (syntax : HostSyntax) (piece : List ℕ) (named : UrlFault) → HostPortFlaw syntax piece named → (host : Option (List ℕ)) (port : Option ℕ) → ¬ SpellsHostPort syntax piece host port
flawed_unnamed syntax piece fault.BadPort h host port n = bad_port_unnamed syntax piece host port h (name_form n)
flawed_unnamed syntax piece fault.BadCharacter h host port n = bad_host_unnamed syntax piece host port h (name_form n)
flawed_unnamed syntax piece fault.NoScheme h host port n = h
flawed_unnamed syntax piece fault.HostRequired h host port n = h

-- ---- ASCII and UTF-8

pub digits_utf8 : (bs : List ℕ) → list_all is_ascii_digit bs ≡ true → IsUtf8 bs
digits_utf8 bs h = grind (arith, nat_tests, utf8_class)

-- ---- decoding after an address

-- a text that holds no `%` stays, and `%25` after it is a `%`, with another text after that
zone_decoded : (a z : List ℕ) → FreeOf percent_sign a → percent_decode (a ++ percent_sign ∷ (50 ∷ (53 ∷ z))) ≡ a ++ percent_sign ∷ percent_decode z
zone_decoded a z h = grind (arith, nat_tests, percent_decode_escape, decode_kept, decodes_in_parts, sound_free)

-- a literal is decoded before or after it is lowercased
literal_decoded : (t n : List ℕ) → Literal t n → percent_decode n ≡ lowercase_address (percent_decode t)
literal_decoded t n (address h e) =
    let free = address_no_percent t h in
    ap percent_decode e ∙ decode_kept (lowercase t) (address_no_percent (lowercase t) (address-lowercase t h)) ∙ sym (ap lowercase_address (decode_kept t free) ∙ lowercase_address_alone t free)
literal_decoded t n (zoned a z h zone is e) =
    let free = address_no_percent a h in
    ap percent_decode e ∙ zone_decoded (lowercase a) z (address_no_percent (lowercase a) (address-lowercase a h))
    ∙ sym (ap (λ x. lowercase_address (percent_decode x)) is ∙ ap lowercase_address (zone_decoded a z free) ∙ lowercase_address_before a (percent_decode z) free)

-- a decoded literal is text
literal_utf8 : (t n : List ℕ) → Literal t n → IsUtf8 (percent_decode n)
literal_utf8 t n (address h e) =
    let shown = ap percent_decode e ∙ decode_kept (lowercase t) (address_no_percent (lowercase t) (address-lowercase t h)) in
    subst IsUtf8 (sym shown) (address_utf8 (lowercase t) (address-lowercase t h))
literal_utf8 t n (zoned a z h zone is e) =
    let shown = ap percent_decode e ∙ zone_decoded (lowercase a) z (address_no_percent (lowercase a) (address-lowercase a h)) in
    subst IsUtf8 (sym shown) (IsUtf8-append (lowercase a) (percent_sign ∷ percent_decode z) (address_utf8 (lowercase a) (address-lowercase a h)) (IsUtf8-append (percent_sign ∷ []) (percent_decode z) (utf8_byte percent_sign (omega arith)) zone.text))

-- outside HTTP a literal between brackets denotes its decoding
bracketed_literal : (t n : List ℕ) → Literal t n → Bracketed t (lowercase_address (percent_decode t))
bracketed_literal t n h = spec.Bracketed.literal n h (sym (literal_decoded t n h)) (subst IsUtf8 (literal_decoded t n h) (literal_utf8 t n h))

-- a literal between brackets denotes the text that is shown for it
pub literal_inner : (syntax : HostSyntax) (t : List ℕ) → IsLiteral t → Inner syntax t (shown_literal syntax t)
literal_inner http_hosts t (n, h) = subst (λ x. Literal t x) (literal_normal t n h) h
literal_inner git_hosts t (n, h) = bracketed_literal t n h
literal_inner other_hosts t (n, h) = bracketed_literal t n h

-- ---- literals as they are read

-- an address alone
pub literal_alone : (t : List ℕ) → IsIpv6Text t → IsLiteral t
literal_alone t h = (lowercase t, address h refl)

-- an address, `%25` and a zone
pub literal_zoned : (t a e : List ℕ) → t ≡ a ++ percent_sign ∷ e → IsIpv6Text a → IsEscapedZone e → IsLiteral t
literal_zoned t a e whole h (z, zone, is) =
    (lowercase a ++ percent_sign ∷ (50 ∷ (53 ∷ z)), zoned a z h zone (whole ∙ ap (λ x. a ++ percent_sign ∷ x) is) refl)

-- a text without `%` is a literal only as an address
pub literal_address : (t : List ℕ) → FreeOf percent_sign t → IsLiteral t → IsIpv6Text t
literal_address t f h = grind (arith, nat_tests, not_free)

-- a text with a `%` is one only as an address and a zone
pub literal_parts : (t a e : List ℕ) → FreeOf percent_sign a → t ≡ a ++ percent_sign ∷ e → IsLiteral t → IsIpv6Text a × IsEscapedZone e
literal_parts t a e f whole (n, address h k) = absurd (not_free percent_sign a e (subst (λ x. FreeOf percent_sign x) whole (address_no_percent t h)))
literal_parts t a e f whole (n, zoned b z h zone is k) =
    let parts = cut_unique percent_sign b a (50 ∷ 53 ∷ z) e (address_no_percent b h) f (sym is ∙ whole) in
    (subst IsIpv6Text parts.0 h, (z, zone, sym parts.1))

-- ---- a host and a port as they are read

-- a text whose length isn't tested to be 0
pub some_tested : (t : List ℕ) → false ≡ (length t == 0) → 0 < length t
some_tested t e = grind arith

-- nothing is in front of a first colon: no port is marked
pub colon_first : (piece front rest : List ℕ) → true ≡ (length front == 0) → piece ≡ front ++ colon ∷ rest → IsManyColoned piece
colon_first piece [] rest none e = inl (ap (begins_with colon) e)
colon_first piece (b ∷ front) rest none e = absurd (omega (arith, eqb-true (length (b ∷ front)) 0 (sym none)))

-- nor is one that another colon follows
pub colon_again : (piece front rest : List ℕ) → ¬ FreeOf colon rest → piece ≡ front ++ colon ∷ rest → IsManyColoned piece
colon_again piece front rest held e = grind (arith, nat_tests, free_or_cut)

-- the text before the first colon, if anything, is a host outside brackets
pub plain_front : (piece front rest : List ℕ) → false ≡ (length front == 0) → FreeOf colon front → begins_with left_bracket piece ≡ false → piece ≡ front ++ rest → IsPlainHost front
plain_front piece front rest some free none e = grind arith

-- a byte that isn't a digit spells no port
pub not_digits : (syntax : HostSyntax) (digits : List ℕ) → false ≡ list_all is_ascii_digit digits → IsNoPort syntax digits
not_digits syntax [] e = absurd (false≢true e)
not_digits syntax (b ∷ digits) e = (omega arith, λ port n. both_ways _ (sym e) n.digits.1)

-- a host in brackets, and the rest
pub bracketed_name : (syntax : HostSyntax) (suffix x rest shown : List ℕ) (host : Option (List ℕ)) (port : Option ℕ) → FreeOf right_bracket x → suffix ≡ x ++ right_bracket ∷ rest → IsInner syntax x shown → Follows syntax shown rest host port → SpellsHostPort syntax (left_bracket ∷ suffix) host port
bracketed_name syntax suffix x rest shown host port free e (inner, stands, is) (Follows.nothing f h p) =
    SpellsHostPort.bracketed x inner free stands (ap (λ t. left_bracket ∷ t) (e ∙ ap (λ t. x ++ right_bracket ∷ t) f)) (h ∙ ap Some is) p
bracketed_name syntax suffix x rest shown host port free e (inner, stands, is) (Follows.lone_colon f h p) =
    SpellsHostPort.bracketed_colon x inner free stands (ap (λ t. left_bracket ∷ t) (e ∙ ap (λ t. x ++ right_bracket ∷ t) f)) (h ∙ ap (λ t. Some (t ++ colon ∷ [])) is ∙ ap Some (brackets_colon inner)) p
bracketed_name syntax suffix x rest shown host port free e (inner, stands, is) (Follows.number d n k f h p) =
    SpellsHostPort.bracketed_port x inner d n free stands k (ap (λ t. left_bracket ∷ t) (e ∙ ap (λ t. x ++ right_bracket ∷ t) f)) (h ∙ ap Some is) p

-- a host outside them, and a colon and the rest
pub plain_name : (syntax : HostSyntax) (piece front rest named : List ℕ) (host : Option (List ℕ)) (port : Option ℕ) → IsPlainHost front → piece ≡ front ++ colon ∷ rest → HostText syntax front named → Follows syntax named (colon ∷ rest) host port → SpellsHostPort syntax piece host port
plain_name syntax piece front rest named host port h e t (Follows.nothing f is p) = cc
plain_name syntax piece front rest named host port h e t (Follows.lone_colon f is p) = SpellsHostPort.plain_colon front named h t (e ∙ ap (λ x. front ++ x) f) is p
plain_name syntax piece front rest named host port h e t (Follows.number d n k f is p) = SpellsHostPort.plain_port front named d n h t k (e ∙ ap (λ x. front ++ x) f) is p

-- a text that isn't an end of a host isn't empty, and begins with another byte than a colon
no_end_begins : (rest : List ℕ) → ¬ EndsHost rest → (0 < length rest) × (begins_with colon rest ≡ false)
no_end_begins rest h = grind arith

-- a closing bracket that another byte than a colon follows
pub not_ended : (syntax : HostSyntax) (suffix x rest : List ℕ) → FreeOf right_bracket x → suffix ≡ x ++ right_bracket ∷ rest → ¬ EndsHost rest → HasBadHost syntax (left_bracket ∷ suffix)
not_ended syntax suffix x rest free e open_end = let ends = no_end_begins rest open_end in HasBadHost.after_bracket x rest free (ap (λ t. left_bracket ∷ t) e) ends.0 ends.1

-- brackets around a text that denotes nothing
pub not_inner : (syntax : HostSyntax) (suffix x rest : List ℕ) → FreeOf right_bracket x → suffix ≡ x ++ right_bracket ∷ rest → EndsHost rest → IsNoInner syntax x → HasBadHost syntax (left_bracket ∷ suffix)
not_inner syntax suffix x rest free e ended none = HasBadHost.brackets x rest record { closed = free; joined = ap (λ t. left_bracket ∷ t) e; followed = ended } none

-- brackets with a colon and no port after them
pub no_port_after : (syntax : HostSyntax) (suffix x rest digits : List ℕ) → FreeOf right_bracket x → suffix ≡ x ++ right_bracket ∷ rest → rest ≡ colon ∷ digits → IsNoPort syntax digits → HasBadPort syntax (left_bracket ∷ suffix)
no_port_after syntax suffix x rest digits free e f none = HasBadPort.bracketed x digits free (ap (λ t. left_bracket ∷ t) (e ∙ ap (λ t. x ++ right_bracket ∷ t) f)) none

-- ---- hosts are text

-- the bytes of a domain name stay such in lower case
pub dns_lowercase : (bs : List ℕ) → list_all is_dns_byte bs ≡ true → list_all is_dns_byte (lowercase bs) ≡ true
dns_lowercase bs h = grind (arith, nat_tests, all_lowercase)

-- a byte that looks like a part of a domain name is ASCII
dns_byte_ascii : (b : ℕ) → is_dns_byte b ≡ true → b < 128
dns_byte_ascii b h = grind (arith, nat_tests)

-- so is a byte of a host of HTTP
pub http_byte_ascii : (b : ℕ) → is_http_host_byte b ≡ true → b < 128
http_byte_ascii b h = grind (arith, nat_tests)

-- and one of a zone
pub zone_byte_ascii : (b : ℕ) → is_zone_byte b ≡ true → b < 128
zone_byte_ascii b h = grind (arith, nat_tests)

-- the normal form of a host that is text is text
normal_utf8 : (host : List ℕ) → IsUtf8 host → IsUtf8 (normal_host host)
normal_utf8 host u =
    cond_both (list_all is_dns_byte host) (lowercase host) host IsUtf8
    (λ h. utf8_class is_dns_byte dns_byte_ascii (lowercase host) (dns_lowercase host h))
    (λ h. u)

-- a host outside brackets is text
host_text_utf8 : (syntax : HostSyntax) (t named : List ℕ) → HostText syntax t named → IsUtf8 named
host_text_utf8 http_hosts t named h = subst IsUtf8 (sym h.1) (normal_utf8 t (utf8_class is_http_host_byte http_byte_ascii t h.0))
host_text_utf8 git_hosts t named h = subst IsUtf8 (sym h.1) (normal_utf8 (percent_decode t) h.0)
host_text_utf8 other_hosts t named h = subst IsUtf8 (sym h.1) (normal_utf8 (percent_decode t) h.0)

-- a byte in front of or after a text
utf8_cons : (b : ℕ) (t : List ℕ) → b < 128 → IsUtf8 t → IsUtf8 (b ∷ t)
utf8_cons b t h u = IsUtf8-append (b ∷ []) t (utf8_byte b h) u

utf8_push : (b : ℕ) (t : List ℕ) → b < 128 → IsUtf8 t → IsUtf8 (t ++ b ∷ [])
utf8_push b t h u = IsUtf8-append t (b ∷ []) u (utf8_byte b h)

-- the normal form of a literal is text
literal_normal_utf8 : (t n : List ℕ) → Literal t n → IsUtf8 n
literal_normal_utf8 t n (address h e) = subst IsUtf8 (sym e) (address_utf8 (lowercase t) (address-lowercase t h))
literal_normal_utf8 t n (zoned a z h zone is e) =
    let text : IsUtf8 z = utf8_class is_zone_byte zone_byte_ascii z zone.bytes in
    subst IsUtf8 (sym e) (IsUtf8-append (lowercase a) (percent_sign ∷ (50 ∷ (53 ∷ z))) (address_utf8 (lowercase a) (address-lowercase a h))
    (utf8_cons percent_sign _ (omega arith) (utf8_cons 50 _ (omega arith) (utf8_cons 53 z (omega arith) text))))

-- the text between brackets is text
inner_utf8 : (syntax : HostSyntax) (t n : List ℕ) → Inner syntax t n → IsUtf8 n
inner_utf8 http_hosts t n h = literal_normal_utf8 t n h
inner_utf8 git_hosts t n (spec.Bracketed.literal x h e u) = u
inner_utf8 git_hosts t n (spec.Bracketed.other h e u) = u
inner_utf8 other_hosts t n (spec.Bracketed.literal x h e u) = u
inner_utf8 other_hosts t n (spec.Bracketed.other h e u) = u

brackets_utf8 : (inner : List ℕ) → IsUtf8 inner → IsUtf8 (in_brackets inner)
brackets_utf8 inner u = utf8_cons left_bracket (inner ++ right_bracket ∷ []) (omega arith) (utf8_push right_bracket inner (omega arith) u)

-- a host that something follows is text
follows_utf8 : {syntax : HostSyntax} {rest : List ℕ} {port : Option ℕ} (base host : List ℕ) → IsUtf8 base → Follows syntax base rest (Some host) port → IsUtf8 host
follows_utf8 base host u (Follows.nothing e h p) = subst IsUtf8 (sym (same_Some _ _ h)) u
follows_utf8 base host u (Follows.lone_colon e h p) = subst IsUtf8 (sym (same_Some _ _ h)) (utf8_push colon base (omega arith) u)
follows_utf8 base host u (Follows.number d n k e h p) = subst IsUtf8 (sym (same_Some _ _ h)) u

-- a lowercased address, with or without a colon
address_piece_utf8 : (piece : List ℕ) → IsAddressPiece piece → IsUtf8 (lowercase piece)
address_piece_utf8 piece (inl h) = address_utf8 (lowercase piece) (address-lowercase piece h)
address_piece_utf8 piece (inr (a, h, e)) =
    subst IsUtf8 (sym (ap lowercase e ∙ map-append to_ascii_lowercase a (colon ∷ []))) (utf8_push colon (lowercase a) (omega arith) (address_utf8 (lowercase a) (address-lowercase a h)))

form_utf8 : (syntax : HostSyntax) (piece host : List ℕ) (port : Option ℕ) → Form syntax piece (Some host) port → IsUtf8 host
form_utf8 syntax piece host port (Form.nothing e h p) = cc
form_utf8 syntax piece host port (Form.bracketed x inner rest f i e g) = follows_utf8 (in_brackets inner) host (brackets_utf8 inner (inner_utf8 syntax x inner i)) g
form_utf8 syntax piece host port (Form.plain front named rest h t e g) = follows_utf8 named host (host_text_utf8 syntax front named t) g
form_utf8 syntax piece host port (Form.many m (ManyNames.unbracketed r h) p) = subst IsUtf8 (sym (same_Some _ _ h)) (address_piece_utf8 piece r.1)
form_utf8 syntax piece host port (Form.many m (ManyNames.other_host n s r t h) p) = subst IsUtf8 (sym (same_Some _ _ h)) (host_text_utf8 syntax piece n t)

-- a host that is named is text
pub names_utf8 : (syntax : HostSyntax) (piece host : List ℕ) (port : Option ℕ) → SpellsHostPort syntax piece (Some host) port → IsUtf8 host
names_utf8 syntax piece host port h = form_utf8 syntax piece host port (name_form h)

-- ---- simple hosts

-- a byte of a simple host is the same in lower case
simple_byte_lowercase : (b : ℕ) → is_simple_byte b ≡ true → to_ascii_lowercase b ≡ b
simple_byte_lowercase b h = grind (arith, nat_tests)

-- and one of a host of HTTP
simple_byte_http : (b : ℕ) → is_simple_byte b ≡ true → is_http_host_byte b ≡ true
simple_byte_http b h = grind (arith, nat_tests)

-- so is a text of them
simple_lowercase : (t : List ℕ) → list_all is_simple_byte t ≡ true → lowercase t ≡ t
simple_lowercase [] h = refl
simple_lowercase (b ∷ bs) h =
    let (byte, more) = and_parts (is_simple_byte b) (list_all is_simple_byte bs) h in
    ap (λ c. c ∷ lowercase bs) (simple_byte_lowercase b byte) ∙ ap (λ t. b ∷ t) (simple_lowercase bs more)

pub simple_http : (t : List ℕ) → list_all is_simple_byte t ≡ true → list_all is_http_host_byte t ≡ true
simple_http [] h = refl
simple_http (b ∷ bs) h =
    let (byte, more) = and_parts (is_simple_byte b) (list_all is_simple_byte bs) h in rw (simple_byte_http b byte) (simple_http bs more)

-- a simple host is its own normal form
pub simple_normal : (t : List ℕ) → list_all is_simple_byte t ≡ true → normal_host t ≡ t
simple_normal t h = cond_both (list_all is_dns_byte t) (lowercase t) t (λ n. n ≡ t) (λ _. simple_lowercase t h) (λ _. refl)

-- it decodes to itself
pub simple_decoded : (t : List ℕ) → list_all is_simple_byte t ≡ true → percent_decode t ≡ t
simple_decoded t h = decode_kept t (free_of_all is_simple_byte percent_sign t h refl)

-- it is text
pub simple_utf8 : (t : List ℕ) → list_all is_simple_byte t ≡ true → IsUtf8 t
simple_utf8 t h = utf8_class is_http_host_byte http_byte_ascii t (simple_http t h)

-- so it denotes itself in every syntax
pub simple_text : (syntax : HostSyntax) (t : List ℕ) → list_all is_simple_byte t ≡ true → HostText syntax t t
simple_text http_hosts t h = (simple_http t h, sym (simple_normal t h))
simple_text git_hosts t h = (subst IsUtf8 (sym (simple_decoded t h)) (simple_utf8 t h), sym (ap normal_host (simple_decoded t h) ∙ simple_normal t h))
simple_text other_hosts t h = (subst IsUtf8 (sym (simple_decoded t h)) (simple_utf8 t h), sym (ap normal_host (simple_decoded t h) ∙ simple_normal t h))

-- and names itself, with no port
pub simple_named : (syntax : HostSyntax) (t : List ℕ) → IsSimpleHost t → SpellsHostPort syntax t (Some t) None
simple_named syntax t h =
    SpellsHostPort.plain t (record { nonempty = h.nonempty; no_colon = free_of_all is_simple_byte colon t h.bytes refl; no_bracket = free_begins left_bracket t (free_of_all is_simple_byte left_bracket t h.bytes refl) })
    (simple_text syntax t h.bytes) refl refl

-- so does a host that was read of it
pub simple_host_named : (syntax : HostSyntax) (t : List ℕ) (host : HostPort) → IsSimpleHost t → named_text host ≡ t → host.port ≡ None → SpellsHostPort syntax t (Some (named_text host)) host.port
simple_host_named syntax t host h e p =
    subst (λ n. SpellsHostPort syntax t (Some n) host.port) (sym e) (subst (λ n. SpellsHostPort syntax t (Some t) n) (sym p) (simple_named syntax t h))
