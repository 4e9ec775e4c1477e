-- A check finds one place at most: the consequences for checks one after the other, and the checks of
-- bytes, characters and escapes.
use Rattle.std.proofs.Common.{◌≡◌, ℕ, ◌+◌, Bool, true, false, inr, List, [], ◌∷◌, ◌++◌, length, refl, sym, ap, subst, ◌∙◌, encode_utf8, encode_utf8_all}
use Rattle.std.proofs.lemmas.Bool.{both_ways}
use Rattle.git_syntax.specs.Bytes.{percent_sign, backslash, FreeOf}
use Rattle.git_syntax.specs.Escapes.{is_sound, begins_with_digits}
use Rattle.git_syntax.proofs.Texts.CutLemmas.{heads, tails, class_cut_unique, cut_unique, not_free}
use Rattle.git_syntax.proofs.Texts.EscapeLemmas.{digits-append, sound_head, sound_tail}
use Rattle.git_refusals.specs.declared.place.Place.{Place}
use Rattle.git_refusals.specs.declared.reason.Reason.{Reason}
use Rattle.git_refusals.specs.Characters.{IsFirstAt, IsBrokenAt, IsCharacterAt}
use Rattle.git_refusals.specs.Reasons.{IsAt, Shifted, Then, Undecodable, NotText, HasCharacter, HasBackslash, HasBrokenEscape}

-- ---- checks one after the other

-- a check finds one place at most
abbrev pub One : (Place → Type 0) → Type 0
One check = (p q : Place) → check p → check q → p ≡ q

-- places with the same reason, start and length are the same
pub same_place : (p q : Place) → p.reason ≡ q.reason → p.at ≡ q.at → p.len ≡ q.len → p ≡ q
same_place p q e f g = λ i. record { reason = e i; at = f i; len = g i }

-- one reason at equal places is one
pub stands_alike : {why : Reason} {at start len size : ℕ} (p q : Place) → at ≡ start → len ≡ size → IsAt why at len p → IsAt why start size q → p ≡ q
stands_alike p q e f h k = same_place p q (h.named ∙ sym k.named) (h.start ∙ e ∙ sym k.start) (h.size ∙ f ∙ sym k.size)

-- a reason has one place
pub one_stands : (why : Reason) (at len : ℕ) → One (IsAt why at len)
one_stands why at len p q h k = stands_alike p q refl refl h k

-- a check of equal pieces finds one place at most
pub one_at : {A : Type 0} (check : A → Place → Type 0) → ((x : A) → One (check x)) → (x y : A) (p q : Place) → x ≡ y → check x p → check y q → p ≡ q
one_at check one x y p q e h k = one y p q (subst (λ z. check z p) e h) k

-- a check of two pieces that are equal to two others finds one place at most
pub one_at_both : (check : List ℕ → List ℕ → Place → Type 0) → ((x y : List ℕ) → One (check x y)) → (x y u w : List ℕ) (p q : Place) → x ≡ u → y ≡ w → check x y p → check u w q → p ≡ q
one_at_both check one x y u w p q e f h k = one u w p q (subst (λ z. check u z p) f (subst (λ z. check z y p) e h)) k

-- the flaw that a check finds in a piece is at one place of the whole
pub one_after : (before : ℕ) (check : Place → Type 0) → One check → One (Shifted before check)
one_after before check one p q h k =
    let same : h.inside ≡ k.inside = one h.inside k.inside h.found k.found in
    same_place p q
    (h.stands.named ∙ ap (λ (z : Place). z.reason) same ∙ sym k.stands.named)
    (h.stands.start ∙ ap (λ (z : Place). before + z.at) same ∙ sym k.stands.start)
    (h.stands.size ∙ ap (λ (z : Place). z.len) same ∙ sym k.stands.size)

-- two checks one after the other find one place at most
pub one_then : (first second : Place → Type 0) → One first → One second → One (Then first second)
one_then first second f g p q (Then.at_first h) (Then.at_first k) = f p q h k
one_then first second f g p q (Then.at_first h) (Then.at_second n k) = absurd (n p h)
one_then first second f g p q (Then.at_second n h) (Then.at_first k) = absurd (n q k)
one_then first second f g p q (Then.at_second n h) (Then.at_second m k) = g p q h k

-- ---- characters, bytes and escapes

-- a piece is not both free of a byte and cut at it
pub free_apart : (c : ℕ) (piece x y : List ℕ) → FreeOf c piece → piece ≡ x ++ c ∷ y → ⊥
free_apart c piece x y f e = not_free c x y (subst (λ z. FreeOf c z) e f)

-- a piece has one first place at which it stops decoding to UTF-8
pub one_undecodable : (text : List ℕ) → One (Undecodable text)
one_undecodable text p q h k = stands_alike p q refl refl h.stands k.stands

-- a text has one first place at which it stops being UTF-8
pub one_not_text : (text : List ℕ) → One (NotText text)
one_not_text text p q h k = stands_alike p q refl refl h.stands k.stands

-- a text has one first character that passes a test
pub character_unique : (wrong : ℕ → Bool) (text : List ℕ) (at len start size : ℕ) → IsCharacterAt wrong text at len → IsCharacterAt wrong text start size → (at ≡ start) × (len ≡ size)
character_unique wrong text at len start size h k =
    let cut = class_cut_unique wrong h.before k.before (h.character ∷ h.suffix) (k.character ∷ k.suffix) h.first k.first (inr h.found) (inr k.found) (sym h.joined ∙ k.joined) in
    (h.offset ∙ ap (λ x. length (encode_utf8_all x)) cut.0 ∙ sym k.offset, h.size ∙ ap (λ c. length (encode_utf8 c)) (heads cut.1) ∙ sym k.size)

-- so it is found at one place
pub one_character : (why : Reason) (wrong : ℕ → Bool) (text : List ℕ) → One (HasCharacter why wrong text)
one_character why wrong text p q h k =
    let same = character_unique wrong text p.at p.len q.at q.len h.stands k.stands in
    same_place p q (h.named ∙ sym k.named) same.0 same.1

-- a text has one first place of a byte
pub first_unique : (c : ℕ) (text : List ℕ) (at start : ℕ) → IsFirstAt c text at → IsFirstAt c text start → at ≡ start
first_unique c text at start h k =
    let cut = cut_unique c h.before k.before h.suffix k.suffix h.first k.first (sym h.joined ∙ k.joined) in
    h.offset ∙ ap length cut.0 ∙ sym k.offset

-- so a backslash is found at one place
pub one_backslash : (why : Reason) (text : List ℕ) → One (HasBackslash why text)
one_backslash why text p q h k = stands_alike p q (first_unique backslash text p.at q.at h.first k.first) refl h.stands k.stands

-- a sound text doesn't begin with a `%` that is broken in the whole
broken_apart : (d : ℕ) (b x y : List ℕ) → is_sound (d ∷ b) ≡ true → begins_with_digits x ≡ false → percent_sign ∷ x ≡ d ∷ (b ++ percent_sign ∷ y) → ⊥
broken_apart d b x y sound broken e =
    let digits : begins_with_digits b ≡ true = sound_head percent_sign b (subst (λ c. is_sound (c ∷ b) ≡ true) (sym (heads e)) sound) in
    both_ways (begins_with_digits x) broken (ap begins_with_digits (tails e) ∙ digits-append b (percent_sign ∷ y) digits)

-- the sound text before a broken escape is determined
broken_cut_unique : (a b x y : List ℕ) → is_sound a ≡ true → is_sound b ≡ true → begins_with_digits x ≡ false → begins_with_digits y ≡ false → a ++ percent_sign ∷ x ≡ b ++ percent_sign ∷ y → a ≡ b
broken_cut_unique [] [] x y f g h k e = refl
broken_cut_unique [] (d ∷ b) x y f g h k e = absurd (broken_apart d b x y g h e)
broken_cut_unique (c ∷ a) [] x y f g h k e = absurd (broken_apart c a y x f k (sym e))
broken_cut_unique (c ∷ a) (d ∷ b) x y f g h k e =
    let rest : a ≡ b = broken_cut_unique a b x y (sound_tail c a f) (sound_tail d b g) h k (tails e) in
    let first : c ≡ d = heads e in
    cc

-- so a text has one first broken escape
pub broken_unique : (text : List ℕ) (at start : ℕ) → IsBrokenAt text at → IsBrokenAt text start → at ≡ start
broken_unique text at start h k =
    h.offset ∙ ap length (broken_cut_unique h.before k.before h.suffix k.suffix h.first k.first h.broken k.broken (sym h.joined ∙ k.joined)) ∙ sym k.offset

-- which is found at one place
pub one_broken : (text : List ℕ) → One (HasBrokenEscape text)
one_broken text p q h k = stands_alike p q (broken_unique text p.at q.at h.first k.first) refl h.stands k.stands
