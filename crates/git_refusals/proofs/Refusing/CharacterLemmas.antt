-- Characters of a text: the first that may not be there, those before it, and texts that have none.
use Rattle.std.proofs.Common.{◌≡◌, ◌∙◌, ◌+◌, ◌<◌, ◌≤◌, ℕ, Bool, true, false, not, ◌||◌, inl, inr, List, [], ◌∷◌, ◌++◌, length, refl, sym, ap, subst, arith, append_assoc, length-append, IsUtf8, chars, encode_utf8, encode_utf8_all}
use Rattle.std.specs.List.{list_any, list_all}
use Rattle.std.proofs.lemmas.Bool.{cases_Bool, both_ways, false≢true, not-true, not-false, and_from}
use Rattle.std.proofs.lemmas.List.{append-nil}
use Rattle.std.proofs.lemmas.Str.{chars_from_encodes, chars-IsAscii, cons_from_encodes, encodes-append, encodes-chars, encodes-IsAscii}
use Rattle.git_syntax.specs.Bytes.{FreeOf}
use Rattle.git_syntax.proofs.Texts.CutLemmas.{free_of_all, lacks-cons, lacks_parts, lacks_head_tail, not_free}
use Rattle.git_syntax.proofs.Texts.EscapeLemmas.{ascii_class}
use Rattle.git_refusals.specs.Characters.{IsCharacterAt}

-- one more character
pub encodes_push : (seen : List ℕ) (c : ℕ) → encode_utf8_all (seen ++ c ∷ []) ≡ encode_utf8_all seen ++ encode_utf8 c
encodes_push seen c = encodes-append seen (c ∷ []) ∙ ap (λ t. encode_utf8_all seen ++ t) (append-nil (encode_utf8 c))

-- characters whose bytes begin with those of others begin with these
cut_from_encodes : (cs seen rest : List ℕ) → encode_utf8_all cs ≡ encode_utf8_all seen ++ rest → (suffix : List ℕ) × (cs ≡ seen ++ suffix) × (encode_utf8_all suffix ≡ rest)
cut_from_encodes cs [] rest e = (cs, refl, e)
cut_from_encodes cs (s ∷ seen) rest e =
    let (later, first, same) = cons_from_encodes cs (encode_utf8_all seen ++ rest) s (e ∙ append_assoc (encode_utf8 s) (encode_utf8_all seen) rest) in
    let (suffix, joined, left) = cut_from_encodes later seen rest same in
    (suffix, first ∙ ap (λ t. s ∷ t) joined, left)

-- a character that passes the test, after characters that don't, is the first
pub stands_character : (wrong : ℕ → Bool) (text seen rest : List ℕ) (c at len : ℕ) → IsUtf8 text → list_any wrong seen ≡ false → wrong c ≡ true → text ≡ encode_utf8_all seen ++ (encode_utf8 c ++ rest)
    → at ≡ length (encode_utf8_all seen) → len ≡ length (encode_utf8 c) → IsCharacterAt wrong text at len
stands_character wrong text seen rest c at len utf8 none found whole offset size =
    let (later, joined, left) = cut_from_encodes (chars text) seen (encode_utf8 c ++ rest) (encodes-chars text utf8 ∙ whole) in
    let (suffix, next, _) = cons_from_encodes later rest c left in
    record {
      before = seen;
      character = c;
      suffix = suffix;
      first = none;
      found = found;
      joined = joined ∙ ap (λ t. seen ++ t) next;
      offset = offset;
      size = size;
    }

-- it is within the text
pub character_within : (text seen rest : List ℕ) (c at len : ℕ) → text ≡ encode_utf8_all seen ++ (encode_utf8 c ++ rest) → at ≡ length (encode_utf8_all seen) → len ≡ length (encode_utf8 c) → at + len ≤ length text
character_within text seen rest c at len whole offset size =
    omega (arith, ap length whole, length-append (encode_utf8_all seen) (encode_utf8 c ++ rest), length-append (encode_utf8 c) rest, offset, size)

-- a text of characters that all fail the test has none that passes
pub none_stands : (wrong : ℕ → Bool) (text seen : List ℕ) → IsUtf8 text → encode_utf8_all seen ≡ text → list_any wrong seen ≡ false → list_any wrong (chars text) ≡ false
none_stands wrong text seen utf8 e none = sym (ap (λ t. list_any wrong t) (chars_from_encodes seen text utf8 e)) ∙ none

-- ---- texts with and without a wrong character

-- if no character passes the test, none is the first that does
pub no_character_stands : (wrong : ℕ → Bool) (text : List ℕ) (at len : ℕ) → list_any wrong (chars text) ≡ false → ¬ IsCharacterAt wrong text at len
no_character_stands wrong text at len none h =
    let (_, suffix) = lacks_parts wrong h.before (h.character ∷ h.suffix) (ap (list_any wrong) (sym h.joined) ∙ none) in
    both_ways _ (lacks_head_tail wrong h.character h.suffix suffix).0 h.found

-- characters of which one passes the test are those before the first that does, that one and others
first_passing : (wrong : ℕ → Bool) (cs : List ℕ) → list_any wrong cs ≡ true → (before : List ℕ) × (c : ℕ) × (suffix : List ℕ) × (list_any wrong before ≡ false) × (wrong c ≡ true) × (cs ≡ before ++ c ∷ suffix)
first_passing wrong [] h = absurd (false≢true h)
first_passing wrong (c ∷ cs) h =
    elim (cases_Bool (wrong c)) [
      | inl is ↦ ([], c, cs, refl, is, refl)
      | inr other ↦
          let (before, d, suffix, first, found, joined) = first_passing wrong cs (ap (λ head. head || list_any wrong cs) (sym other) ∙ h) in
          (c ∷ before, d, suffix, lacks-cons wrong c before other first, found, ap (λ t. c ∷ t) joined)
    ]

-- a text with a character that passes the test has a first one
pub character_stands : (wrong : ℕ → Bool) (text : List ℕ) → list_any wrong (chars text) ≡ true → (at : ℕ) × (len : ℕ) × IsCharacterAt wrong text at len
character_stands wrong text some =
    let (before, c, suffix, first, found, joined) = first_passing wrong (chars text) some in
    (_, _, record { before = before; character = c; suffix = suffix; first = first; found = found; joined = joined; offset = refl; size = refl })

-- ---- classes of ASCII

-- no character is outside a class of ASCII if each byte is in it
pub class_stands : (test : ℕ → Bool) → ((b : ℕ) → test b ≡ true → b < 128) → (text : List ℕ) (at len : ℕ) → list_all test text ≡ true → ¬ IsCharacterAt (λ c. not (test c)) text at len
class_stands test ascii text at len each h =
    let same = sym (chars-IsAscii text (ascii_class test ascii text each)) ∙ h.joined in
    not_free h.character h.before h.suffix (subst (λ t. FreeOf h.character t) same (free_of_all test h.character text each (not-true (test h.character) h.found)))

-- if no character is outside a class, each is in it
each_passes : (test : ℕ → Bool) (cs : List ℕ) → list_any (λ c. not (test c)) cs ≡ false → list_all test cs ≡ true
each_passes test [] none = refl
each_passes test (c ∷ cs) none =
    let (passes, more) = lacks_head_tail (λ d. not (test d)) c cs none in
    and_from _ _ (not-false (test c) passes) (each_passes test cs more)

-- so each byte of a text is in a class of ASCII if no character is outside it
pub class_bytes : (test : ℕ → Bool) → ((b : ℕ) → test b ≡ true → b < 128) → (text : List ℕ) → IsUtf8 text → list_any (λ c. not (test c)) (chars text) ≡ false → list_all test text ≡ true
class_bytes test ascii text utf8 none =
    let each = each_passes test (chars text) none in
    let same : chars text ≡ text = sym (encodes-IsAscii (chars text) (ascii_class test ascii (chars text) each)) ∙ encodes-chars text utf8 in
    subst (λ t. list_all test t ≡ true) same each
