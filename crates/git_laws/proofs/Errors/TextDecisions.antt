-- Decisions on texts: each test of the definitions passes or
-- fails, and each text is cut at a mark or lacks it.
use Rattle.std.proofs.Common.{◌≡◌, ℕ, ◌<◌, ◌==◌, ◌&&◌, Bool, true, ◌⊎◌, inl, inr, List, [], ◌∷◌, ◌++◌, length, length-append, refl, sym, ap, subst, ◌∙◌, arith, IsUtf8, eq-eqb}
use Rattle.std.specs.List.{list_any, list_all}
use Rattle.std.specs.Str.{chars, is_utf8}
use Rattle.std.specs.Char.{is_whitespace}
use Rattle.std.proofs.lemmas.Bool.{both_ways, cases_Bool, cases_lt, and_from, and_parts, eqb-true}
use Rattle.std.proofs.lemmas.Str.{IsUtf8-from_is_utf8, is_utf8-from_IsUtf8}
use Rattle.percent_encoding.specs.Percent.{percent_decode}
use Rattle.git_syntax.specs.Bytes.{percent_sign, slash, colon, FreeOf, Holds, LacksWhiteSpace}
use Rattle.git_syntax.specs.Internal.Cuts.{url_mark}
use Rattle.git_syntax.specs.Escapes.{is_sound}
use Rattle.git_syntax.specs.Addresses.{IsIpv6Text, is_zone_byte, IsZone}
use Rattle.git_syntax.specs.AddressTest.{is_ipv6_text}
use Rattle.git_syntax.specs.Hosts.{IsLiteral}
use Rattle.git_syntax.specs.Authority.{Fits}
use Rattle.git_syntax.specs.Schemes.{is_web_scheme}
use Rattle.git_syntax.specs.Internal.LengthChecks.{is_rest_short}
use Rattle.git_syntax.specs.Internal.HostPieces.{IsEscapedZone}
use Rattle.git_syntax.proofs.Texts.CutLemmas.{heads, tails, free-cons, free_or_cut}
use Rattle.git_syntax.proofs.Addresses.AddressTestLemmas.{ipv6_text_from, ipv6_text_to}
use Rattle.git_syntax.proofs.Parsing.LengthLemmas.{fits_tested}
use Rattle.git_syntax.proofs.Parsing.HostLemmas.{literal_address, literal_alone, literal_parts, literal_zoned}

-- ---- tests

-- it holds, or it doesn't
abbrev pub Decides : Type 0 → Type 0
Decides P = P ⊎ ¬ P

-- by a test
pub by_test : {P : Type 0} (test : Bool) → (test ≡ true → P) → (P → test ≡ true) → Decides P
by_test test denoted found = elim (cases_Bool test) [ inl e ↦ inl (denoted e) | inr e ↦ inr (λ p. both_ways test e (found p)) ]

-- a text is empty, or has a first byte
pub nil_or_some : (t : List ℕ) → (t ≡ []) ⊎ (0 < length t)
nil_or_some [] = inl refl
nil_or_some (b ∷ t) = inr (omega arith)

-- a text is free of a byte, or not
pub free_or_not : (c : ℕ) (t : List ℕ) → Decides (FreeOf c t)
free_or_not c t = elim (cases_Bool (list_any (λ b. b == c) t)) [ inl held ↦ inr (λ free. both_ways _ free held) | inr free ↦ inl free ]

-- white space is in a text, or not
pub white_or_not : (t : List ℕ) → Decides (LacksWhiteSpace t)
white_or_not t = elim (cases_Bool (list_any is_whitespace (chars t))) [ inl held ↦ inr (λ lacks. both_ways _ lacks held) | inr lacks ↦ inl lacks ]

-- bytes are UTF-8, or not
pub utf8_or_not : (bs : List ℕ) → Decides (IsUtf8 bs)
utf8_or_not bs = by_test (is_utf8 bs) (IsUtf8-from_is_utf8 bs) (is_utf8-from_IsUtf8 bs)

-- a text is an IPv6 text, or not
pub address_or_not : (t : List ℕ) → Decides (IsIpv6Text t)
address_or_not t = by_test (is_ipv6_text t) (ipv6_text_from t) (ipv6_text_to t)

-- a scheme and the text after it are short enough, or not
pub fits_or_not : (scheme rest : List ℕ) → Decides (Fits scheme rest)
fits_or_not scheme rest =
    elim (cases_lt 1024 (length scheme)) [
      | inl long ↦ inr (λ fits. absurd (omega (arith, fits.scheme_length)))
      | inr short ↦ let test = fits_tested scheme rest short in by_test (is_rest_short (is_web_scheme scheme) rest) test.0 test.1
    ]

-- ---- literals

-- a text is a zone, or not
zone_or_not : (z : List ℕ) → Decides (IsZone z)
zone_or_not z =
    elim (nil_or_some z) [
      | inl none ↦ inr (λ zone. absurd (omega (arith, zone.nonempty, ap length none)))
      | inr some ↦
          elim (cases_Bool (is_sound z && list_all is_zone_byte z)) [
            | inr bad ↦ inr (λ zone. both_ways _ bad (and_from _ _ zone.sound zone.bytes))
            | inl good ↦
                elim (utf8_or_not (percent_decode z)) [
                  | inl text ↦ inl (record { nonempty = some; sound = (and_parts _ _ good).0; bytes = (and_parts _ _ good).1; text = text })
                  | inr bad ↦ inr (λ zone. bad zone.text)
                ]
          ]
    ]

-- a text is `25` and a zone, or not
escaped_zone_or_not : (t : List ℕ) → Decides (IsEscapedZone t)
escaped_zone_or_not [] = inr (λ (z, zone, e). absurd (omega (arith, ap length e)))
escaped_zone_or_not (a ∷ []) = inr (λ (z, zone, e). absurd (omega (arith, ap length e)))
escaped_zone_or_not (a ∷ b ∷ z) =
    elim (cases_Bool ((a == 50) && (b == 53))) [
      | inr other ↦ inr (λ (y, zone, e). both_ways _ other (and_from _ _ (eq-eqb a 50 (heads e)) (eq-eqb b 53 (heads (tails e)))))
      | inl same ↦
          let marks = and_parts (a == 50) (b == 53) same in
          elim (zone_or_not z) [
            | inl zone ↦ inl (z, zone, λ i. eqb-true a 50 marks.0 i ∷ eqb-true b 53 marks.1 i ∷ z)
            | inr none ↦ inr (λ (y, zone, e). none (subst IsZone (sym (tails (tails e))) zone))
          ]
    ]

-- a text is a literal, or not
pub literal_or_not : (t : List ℕ) → Decides (IsLiteral t)
literal_or_not t =
    elim (free_or_cut percent_sign t) [
      | inl free ↦
          elim (address_or_not t) [ inl h ↦ inl (literal_alone t h) | inr none ↦ inr (λ h. none (literal_address t free h)) ]
      | inr (a, suffix, free, e) ↦
          elim (address_or_not a) [
            | inr none ↦ inr (λ h. none (literal_parts t a suffix free e h).0)
            | inl address ↦
                elim (escaped_zone_or_not suffix) [
                  | inl zone ↦ inl (literal_zoned t a suffix e address zone)
                  | inr none ↦ inr (λ h. none (literal_parts t a suffix free e h).1)
                ]
          ]
    ]

-- ---- cuts

-- a text is free of a byte, or is the text before the last such byte, the byte, and the text after it
pub free_or_last_cut : (c : ℕ) (bs : List ℕ) → FreeOf c bs ⊎ ((x : List ℕ) × (y : List ℕ) × FreeOf c y × (bs ≡ x ++ c ∷ y))
free_or_last_cut c [] = inl refl
free_or_last_cut c (b ∷ bs) =
    elim (free_or_last_cut c bs) [
      | inr (x, y, free, e) ↦ inr (b ∷ x, y, free, ap (λ t. b ∷ t) e)
      | inl free ↦
          elim (cases_Bool (b == c)) [
            | inl same ↦ inr ([], bs, free, ap (λ d. d ∷ bs) (eqb-true b c same))
            | inr other ↦ inl (free-cons c b bs other free)
          ]
    ]

-- the text after a `://` at the front
abbrev StartsAtMark : List ℕ → Type 0
StartsAtMark bs = (rest : List ℕ) × (bs ≡ url_mark ++ rest)

-- a text begins with `://`, or not
starts_or_not : (bs : List ℕ) → Decides (StartsAtMark bs)
starts_or_not [] = inr (λ (rest, e). absurd (omega (arith, ap length e)))
starts_or_not (a ∷ []) = inr (λ (rest, e). absurd (omega (arith, ap length e)))
starts_or_not (a ∷ b ∷ []) = inr (λ (rest, e). absurd (omega (arith, ap length e)))
starts_or_not (a ∷ b ∷ c ∷ bs) =
    elim (cases_Bool ((a == colon) && ((b == slash) && (c == slash)))) [
      | inl same ↦
          let first = and_parts _ _ same in
          let others = and_parts _ _ first.1 in
          inl (bs, λ i. eqb-true a colon first.0 i ∷ eqb-true b slash others.0 i ∷ eqb-true c slash others.1 i ∷ bs)
      | inr other ↦
          inr (λ (rest, e). both_ways _ other (and_from _ _ (eq-eqb a colon (heads e)) (and_from _ _ (eq-eqb b slash (heads (tails e))) (eq-eqb c slash (heads (tails (tails e)))))))
    ]

-- a text that holds `://` begins with it, or holds it after its first byte
held_after : (b : ℕ) (bs : List ℕ) → Holds url_mark (b ∷ bs) → StartsAtMark (b ∷ bs) ⊎ Holds url_mark bs
held_after b bs ([], rest, e) = inl (rest, e)
held_after b bs (c ∷ front, rest, e) = inr (front, rest, tails e)

-- a text that holds `://` at its front holds it there with another text after it
starts_further : (b : ℕ) (front suffix bs : List ℕ) → bs ≡ front ++ suffix → StartsAtMark (b ∷ front) → StartsAtMark (b ∷ bs)
starts_further b front suffix bs e (rest, is) = (rest ++ suffix, ap (λ t. b ∷ t) e ∙ ap (λ t. t ++ suffix) is)

-- a text holds no `://`, or is the text before the first one, the mark, and the text after it
pub mark_or_cut : (bs : List ℕ) → (¬ Holds url_mark bs) ⊎ ((front : List ℕ) × (rest : List ℕ) × (¬ Holds url_mark front) × (bs ≡ front ++ (url_mark ++ rest)))
mark_or_cut [] = inl (λ (front, rest, e). absurd (omega (arith, ap length e, length-append front (url_mark ++ rest))))
mark_or_cut (b ∷ bs) =
    elim (starts_or_not (b ∷ bs)) [
      | inl (rest, e) ↦ inr ([], rest, λ (front, more, k). absurd (omega (arith, ap length k, length-append front (url_mark ++ more))), e)
      | inr other ↦
          elim (mark_or_cut bs) [
            | inl none ↦ inl (λ h. elim (held_after b bs h) [ inl starts ↦ other starts | inr held ↦ none held ])
            | inr (front, rest, none, e) ↦
                inr (b ∷ front, rest, λ h. elim (held_after b front h) [ inl starts ↦ other (starts_further b front (url_mark ++ rest) bs e starts) | inr held ↦ none held ], ap (λ t. b ∷ t) e)
          ]
    ]
