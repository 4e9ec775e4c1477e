-- Stored locations: the new spelling of a legacy path is one, and
-- denotes the same bytes; a migrated record stays unchanged.
use Rattle.std.proofs.Common.{◌≡◌, ℕ, ◌<◌, ◌≤◌, ◌+◌, ◌*◌, Bool, true, false, ◌||◌, ◌==◌, nat_lt, ⊎_elim, List, [], ◌∷◌, ◌++◌, take, drop, length, All, Option, Some, None, refl, sym, ap, subst, ◌∙◌, arith, bytes_eq}
use Rattle.std.specs.Char.{is_digit, digit_value}
use Rattle.std.proofs.lemmas.Bool.{cond-true, cond-false, cases_Bool, and_parts, and_from, eqb-true, true≢false, and_right}
use Rattle.std.proofs.lemmas.Bool.Decides.{nat_tests}
use Rattle.std.proofs.lemmas.List.{append-nil}
use Rattle.std.proofs.lemmas.List.Elements.{All-nil, All-cons, All-head, All-tail}
use Rattle.std.proofs.lemmas.Slice.Eq.{bytes_eq-Decides}
use Rattle.percent_encoding.specs.AsciiSet.{should_percent_encode}
use Rattle.percent_encoding.specs.Percent.{percent_encode, percent_encode_byte, percent_decode}
use Rattle.percent_encoding.proofs.PercentLemmas.{percent_encode-nil, percent_encode_escaped, percent_encode_kept, round_trip}
use Rattle.git_syntax.specs.Location.{Location}
use Rattle.git_syntax.specs.Bytes.{percent_sign}
use Rattle.git_syntax.specs.Escapes.{begins_with_digits, is_path_escaped}
use Rattle.git_syntax.specs.declared.escape.TheConstants.{PATH}
use Rattle.git_laws.specs.Records.{written_in_path, begins_escape, Respells, new_spelling, SpellsFront, from_legacy, migrated_by, migrated, RespelledOnce, KeepsMeaning, Migrates, MigratedOnce}
use Rattle.git_laws.specs.Records.Respells.{nothing, escape, other}
use Rattle.git_syntax.proofs.Texts.EscapeSets.{path_holds}
use Rattle.git_syntax.proofs.Texts.EscapeLemmas.{decode_byte, decode_escape, decode_broken, decodes_in_parts, encode_sound, glyph_is_digit}

-- ---- one byte

-- the code's set and the test escape the same bytes
pub escaped_alike : (b : ℕ) → should_percent_encode PATH b ≡ (is_path_escaped b || nat_lt 127 b)
unfolding should_percent_encode
escaped_alike b = grind (arith, nat_tests, nat_lt, path_holds, cases_Bool)

-- a byte by itself is written as the code's set has it
written_alone : (b : ℕ) → written_in_path b ≡ percent_encode PATH (b ∷ [])
written_alone b = grind (arith, nat_tests, cond-true, escaped_alike, percent_encode_escaped, percent_encode-nil, append-nil, cond-false, percent_encode_kept, cases_Bool)

-- a byte that is written by itself is read back, whatever follows
written_back : (b : ℕ) (rest : List ℕ) → b < 256 → percent_decode (written_in_path b ++ rest) ≡ b ∷ percent_decode rest
written_back b rest h2 = grind (arith, nat_tests, round_trip, All-cons, All-nil, written_alone, decodes_in_parts, encode_sound)

-- a byte that begins no escape stays
byte_kept : (b : ℕ) (suffix : List ℕ) → begins_escape b suffix ≡ false → percent_decode (b ∷ suffix) ≡ b ∷ percent_decode suffix
byte_kept b suffix h2 = grind (arith, nat_tests, decode_broken, decode_byte, cases_Bool)

-- a hexadecimal digit is written as it is, and begins no escape
digit_written : (d : ℕ) → is_digit d 16 ≡ true → written_in_path d ≡ d ∷ []
digit_written d h1 = grind (arith, nat_tests, nat_lt, cond-false)

digit_begins_none : (d : ℕ) (suffix : List ℕ) → is_digit d 16 ≡ true → begins_escape d suffix ≡ false
digit_begins_none d suffix digit = let kept : (d == 37) ≡ false = grind (arith, nat_tests) in rw kept refl

-- ---- the new spelling

-- a byte that begins no escape is written as in a path
respelled_other : (b : ℕ) (path : List ℕ) → begins_escape b path ≡ false → new_spelling (b ∷ path) ≡ written_in_path b ++ new_spelling path
respelled_other b path none = ap (λ t. t ++ new_spelling path) (cond-false _ _ _ none)

-- a byte that begins an escape stays
respelled_begin : (b : ℕ) (path : List ℕ) → begins_escape b path ≡ true → new_spelling (b ∷ path) ≡ b ∷ new_spelling path
respelled_begin b path begins = ap (λ t. t ++ new_spelling path) (cond-true _ _ _ begins)

-- a digit stays
respelled_digit : (d : ℕ) (path : List ℕ) → is_digit d 16 ≡ true → new_spelling (d ∷ path) ≡ d ∷ new_spelling path
respelled_digit d path digit = respelled_other d path (digit_begins_none d path digit) ∙ ap (λ t. t ++ new_spelling path) (digit_written d digit)

-- so an escape stays
respelled_escape : (high low : ℕ) (path : List ℕ) → is_digit high 16 ≡ true → is_digit low 16 ≡ true → new_spelling (percent_sign ∷ high ∷ low ∷ path) ≡ percent_sign ∷ high ∷ low ∷ new_spelling path
respelled_escape high low path h3 h4 = grind (arith, nat_tests, respelled_begin, and_from, respelled_digit)

-- the front of a new spelling that has the byte as it is
front_itself : (b : ℕ) (path suffix front rest : List ℕ) → path ≡ b ∷ suffix → front ≡ take 1 path → rest ≡ drop 1 path → new_spelling (b ∷ suffix) ≡ b ∷ new_spelling suffix → SpellsFront path front rest
front_itself b path suffix front rest h5 h6 h7 h8 = grind (arith, nat_tests, take, drop, length)

-- a byte that begins an escape is there
pub front_begins : (b : ℕ) (path suffix front rest : List ℕ) → path ≡ b ∷ suffix → front ≡ take 1 path → rest ≡ drop 1 path → begins_escape b suffix ≡ true → SpellsFront path front rest
front_begins b path suffix front rest whole first last begins = front_itself b path suffix front rest whole first last (respelled_begin b suffix begins)

-- so does a byte that a path is written with
pub front_kept : (b : ℕ) (path suffix front rest : List ℕ) → path ≡ b ∷ suffix → front ≡ take 1 path → rest ≡ drop 1 path → begins_escape b suffix ≡ false → should_percent_encode PATH b ≡ false → SpellsFront path front rest
front_kept b path suffix front rest h5 h6 h7 h8 h9 = grind (arith, nat_tests, cond-false, escaped_alike, front_itself, respelled_other)

three_bytes : (b : ℕ) → length (percent_encode_byte b) ≤ 3
unfolding percent_encode_byte
three_bytes b = omega arith

-- any other byte has its escape there
pub front_escaped : (b : ℕ) (path suffix front : List ℕ) → path ≡ b ∷ suffix → front ≡ percent_encode_byte b → begins_escape b suffix ≡ false → should_percent_encode PATH b ≡ true → SpellsFront path front suffix
front_escaped b path suffix front h4 h5 h6 h7 = grind (arith, nat_tests, cond-true, escaped_alike, respelled_other, length, three_bytes)

-- one byte more, and one escape more
byte_more : (b : ℕ) (path : List ℕ) → begins_escape b path ≡ false → Respells path (new_spelling path) → Respells (b ∷ path) (new_spelling (b ∷ path))
byte_more b path none rest = subst (Respells (b ∷ path)) (sym (respelled_other b path none)) (other b path (new_spelling path) none rest)

escape_more : (b high low : ℕ) (path : List ℕ) → begins_escape b (high ∷ low ∷ path) ≡ true → Respells path (new_spelling path) → Respells (b ∷ high ∷ low ∷ path) (new_spelling (b ∷ high ∷ low ∷ path))
escape_more b high low path begins rest =
    let parts = and_parts _ _ begins in
    let digits = and_parts _ _ parts.1 in
    let is : percent_sign ≡ b = sym (eqb-true b 37 parts.0) in
    let whole = subst (Respells (percent_sign ∷ high ∷ low ∷ path)) (sym (respelled_escape high low path digits.0 digits.1)) (escape high low path (new_spelling path) digits.0 digits.1 rest) in
    subst (λ c. Respells (c ∷ high ∷ low ∷ path) (new_spelling (c ∷ high ∷ low ∷ path))) is whole

no_digits : (b : ℕ) (suffix : List ℕ) → begins_with_digits suffix ≡ false → begins_escape b suffix ≡ false
no_digits b suffix none = and_right _ _ none

-- each path has a new spelling
pub respells : (path : List ℕ) → Respells path (new_spelling path)
respells [] = nothing
respells (b ∷ []) = byte_more b [] (no_digits b [] refl) (respells [])
respells (b ∷ c ∷ []) = byte_more b (c ∷ []) (no_digits b (c ∷ []) refl) (respells (c ∷ []))
respells (b ∷ high ∷ low ∷ path) = ⊎_elim
    (λ begins. escape_more b high low path begins (respells path))
    (λ none. byte_more b (high ∷ low ∷ path) none (respells (high ∷ low ∷ path)))
    (cases_Bool (begins_escape b (high ∷ low ∷ path)))

-- and no other
pub respelled_by : (path spelling : List ℕ) → Respells path spelling → spelling ≡ new_spelling path
respelled_by path spelling nothing = refl
respelled_by path spelling (escape high low rest written h l r) =
    ap (λ t. percent_sign ∷ high ∷ low ∷ t) (respelled_by rest written r) ∙ sym (respelled_escape high low rest h l)
respelled_by path spelling (other b rest written none r) =
    ap (λ t. written_in_path b ++ t) (respelled_by rest written r) ∙ sym (respelled_other b rest none)

pub respelled_once : RespelledOnce
respelled_once path spelling = (respelled_by path spelling, λ e. subst (Respells path) (sym e) (respells path))

-- the new spelling decodes as the path does
pub keeps_meaning : KeepsMeaning
keeps_meaning path spelling small nothing = refl
keeps_meaning path spelling small (escape high low rest written h l r) =
    let last = All-tail (λ c. c < 256) low rest (All-tail (λ c. c < 256) high (low ∷ rest) (All-tail (λ c. c < 256) percent_sign (high ∷ low ∷ rest) small)) in
    let byte = 16 * digit_value high + digit_value low in
    decode_escape percent_sign high low written refl h l ∙ ap (λ t. byte ∷ t) (keeps_meaning rest written last r) ∙ sym (decode_escape percent_sign high low rest refl h l)
keeps_meaning path spelling small (other b rest written none r) =
    let suffix = All-tail (λ c. c < 256) b rest small in
    written_back b written (All-head (λ c. c < 256) b rest small) ∙ ap (λ t. b ∷ t) (keeps_meaning rest written suffix r) ∙ sym (byte_kept b rest none)

-- ---- the new spelling of a new spelling

-- an escape that is written stays, and so does a byte that a path is written with
escape_stays : (b : ℕ) (spelling : List ℕ) → new_spelling spelling ≡ spelling → new_spelling (percent_encode_byte b ++ spelling) ≡ percent_encode_byte b ++ spelling
unfolding percent_encode_byte
escape_stays b spelling h2 = grind (arith, nat_tests, respelled_escape, glyph_is_digit)

kept_stays : (b : ℕ) (spelling : List ℕ) → (is_path_escaped b || nat_lt 127 b) ≡ false → new_spelling spelling ≡ spelling → new_spelling (b ∷ spelling) ≡ b ∷ spelling
kept_stays b spelling h2 h3 = grind (arith, nat_tests, respelled_other, cond-false)

-- so a byte as it is written stays, whatever follows
written_stays : (b : ℕ) (spelling : List ℕ) → new_spelling spelling ≡ spelling → new_spelling (written_in_path b ++ spelling) ≡ written_in_path b ++ spelling
written_stays b spelling rest =
    let stays : List ℕ → Type 0 = λ t. new_spelling (t ++ spelling) ≡ t ++ spelling in
    ⊎_elim
    (λ escaped. subst stays (sym (cond-true _ _ _ escaped)) (escape_stays b spelling rest))
    (λ kept. subst stays (sym (cond-false _ _ _ kept)) (kept_stays b spelling kept rest))
    (cases_Bool (is_path_escaped b || nat_lt 127 b))

-- a new spelling stays
spelling_stays : (path spelling : List ℕ) → Respells path spelling → new_spelling spelling ≡ spelling
spelling_stays path spelling nothing = refl
spelling_stays path spelling (escape high low rest written h l r) =
    respelled_escape high low written h l ∙ ap (λ t. percent_sign ∷ high ∷ low ∷ t) (spelling_stays rest written r)
spelling_stays path spelling (other b rest written none r) = written_stays b written (spelling_stays rest written r)

-- ---- migration

-- a spelling that is the path makes a record legacy, and one that isn't doesn't
migrated_same : (spelling : Option (List ℕ)) (v : Location) → spelling ≡ Some v.path → migrated_by spelling v ≡ from_legacy v
migrated_same spelling v h2 = grind (arith, nat_tests, cond-true, bytes_eq-Decides)

unmigrated_by : (same : Bool) (s : List ℕ) (v : Location) → bytes_eq s v.path ≡ same → ¬ (s ≡ v.path) → migrated_by (Some s) v ≡ v
unmigrated_by true s v e differs = absurd (differs ((bytes_eq-Decides s v.path).0 e))
unmigrated_by false s v e differs = cond-false _ _ _ e

unmigrated_as : (spelling : Option (List ℕ)) (v : Location) → ¬ (spelling ≡ Some v.path) → migrated_by spelling v ≡ v
unmigrated_as None v differs = refl
unmigrated_as (Some s) v differs = unmigrated_by (bytes_eq s v.path) s v refl (λ e. differs (ap (λ t. Some t) e))

-- a location whose spelling isn't its path represents itself when it was stored
pub unmigrated : (v : Location) → ¬ (v.spelling ≡ Some v.path) → migrated v ≡ v
unmigrated v differs = unmigrated_as v.spelling v differs

-- a record of the legacy form is migrated
pub migrated_legacy : (v : Location) → v.spelling ≡ Some v.path → migrated v ≡ from_legacy v
migrated_legacy v same = migrated_same v.spelling v same

-- both cases
pub migrates : Migrates
migrates v = (
  λ spelling same r. migrated_legacy v same ∙ ap (λ s. record v { path = percent_decode v.path; spelling = Some s }) (sym (respelled_by v.path spelling r)),
  unmigrated v,
)

-- a legacy location that was migrated, and looks legacy again, stays
legacy_stays : (v : Location) → All (λ b. b < 256) v.path → new_spelling v.path ≡ percent_decode v.path → from_legacy (from_legacy v) ≡ from_legacy v
legacy_stays v h1 h2 = grind (arith, nat_tests, keeps_meaning, respells, spelling_stays)

-- a legacy location that was migrated stays, as its new spelling is its new path or isn't
again_legacy : (v : Location) → All (λ b. b < 256) v.path → migrated (from_legacy v) ≡ from_legacy v
again_legacy v h1 = grind (arith, nat_tests, cond-true, legacy_stays, bytes_eq-Decides, cond-false, cases_Bool, bytes_eq)

-- the location of a record with this spelling stays unchanged
again : (spelling : Option (List ℕ)) (v : Location) → v.spelling ≡ spelling → All (λ b. b < 256) v.path → migrated (migrated v) ≡ migrated v
again spelling v h2 h3 = grind (arith, nat_tests, unmigrated, migrated_legacy, bytes_eq-Decides, again_legacy, true≢false, cases_Bool, bytes_eq)

-- a migrated record stays unchanged
pub migrated_once : MigratedOnce
migrated_once v small = again v.spelling v refl small
