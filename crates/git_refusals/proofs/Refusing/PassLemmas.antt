-- Checks that find nothing in a piece without the bytes that they search for, and the form of a piece in
-- which they find nothing.
use Rattle.std.proofs.Common.{◌≡◌, ℕ, ◌<◌, Bool, true, false, inl, inr, List, length, drop, Option, Some, None, refl, sym, ap, ◌∙◌, arith, IsUtf8, chars}
use Rattle.std.specs.List.{list_any, list_all}
use Rattle.std.specs.Char.{is_ascii_alphabetic, is_ascii_digit}
use Rattle.std.specs.Str.{is_utf8}
use Rattle.std.specs.Str.Lossy.{utf8_valid_len, utf8_invalid_len}
use Rattle.std.proofs.lemmas.Bool.{and_parts, both_ways, cases_Bool, false≢true}
use Rattle.std.proofs.lemmas.Str.{IsUtf8-from_is_utf8, is_utf8-from_IsUtf8}
use Rattle.percent_encoding.specs.Percent.{percent_decode}
use Rattle.git_syntax.specs.Bytes.{backslash, percent_sign, FreeOf, is_name_byte, is_scheme_text}
use Rattle.git_syntax.specs.Escapes.{is_sound}
use Rattle.git_syntax.specs.Authority.{Fits}
use Rattle.git_syntax.proofs.Texts.CutLemmas.{helper_name_bytes, scheme_helper_name}
use Rattle.git_syntax.proofs.Texts.EscapeLemmas.{sound_head, sound_parts}
use Rattle.git_syntax.proofs.Parsing.ClassifierLemmas.{name_byte_ascii}
use Rattle.git_refusals.specs.declared.place.Place.{Place}
use Rattle.git_refusals.specs.declared.reason.Reason.{Reason}
use Rattle.git_refusals.specs.declared.reason.Reason.TheVariants as reason
use Rattle.git_refusals.specs.Reasons.{Shifted, Passes, Then, Undecodable, NotText, HasCharacter, HasBackslash, HasBrokenEscape, NoDigits, TooLong, BadScheme, NoScpPath, NoScpHost}
use Rattle.git_refusals.specs.Internal.Readable.{Checks}
use Rattle.git_refusals.proofs.Refusing.CharacterLemmas.{no_character_stands, class_stands}
use Rattle.git_refusals.proofs.Refusing.PlaceLemmas.{stands_not_free}

-- ---- the order of checks

-- a check that finds nothing in a piece finds nothing after another
pub after_passes : (before : ℕ) (check : Place → Type 0) → Passes check → Passes (Shifted before check)
after_passes before check none p h = none h.inside h.found

-- if the first check finds nothing, the second one answers
pub found_second : (piece : List ℕ) (first second : Place → Type 0) (before after : Type 0) (r : Option Place) → Passes first → (before → after) → Checks piece second before r → Checks piece (Then first second) after r
found_second piece first second before after None passes readable h = record { found = readable h.found; within = h.within }
found_second piece first second before after (Some p) passes readable h = record { found = Then.at_second passes h.found; within = h.within }

-- ---- texts

-- UTF-8 has no bytes that are none
pub text_passes : (b : List ℕ) → IsUtf8 b → Passes (NotText b)
text_passes b text p h = h.no_text text

-- bytes in which the check for UTF-8 finds nothing are UTF-8
pub passes_text : (b : List ℕ) → Passes (NotText b) → IsUtf8 b
passes_text b passes = elim (cases_Bool (is_utf8 b)) [
  | inl text ↦ IsUtf8-from_is_utf8 b text
  | inr other ↦
      let place : Place = record { reason = reason.NotUtf8; at = utf8_valid_len b; len = utf8_invalid_len (drop (utf8_valid_len b) b) } in
      absurd (passes place (record { no_text = λ text. both_ways _ other (is_utf8-from_IsUtf8 b text); stands = record { named = refl; start = refl; size = refl } }))
]

-- a text without a wrong character passes the search for one
pub character_passes : (why : Reason) (wrong : ℕ → Bool) (text : List ℕ) → list_any wrong (chars text) ≡ false → Passes (HasCharacter why wrong text)
character_passes why wrong text none p h = no_character_stands wrong text p.at p.len none h.stands

-- and one without a backslash passes that for a backslash
pub backslash_passes : (why : Reason) (text : List ℕ) → FreeOf backslash text → Passes (HasBackslash why text)
backslash_passes why text free p h = stands_not_free backslash text p.at h.first free

-- a sound text has no broken escape
pub sound_passes : (text : List ℕ) → is_sound text ≡ true → Passes (HasBrokenEscape text)
sound_passes text sound p h =
    let (_, tail) = sound_parts h.first.before h.first.suffix percent_sign refl (ap is_sound (sym h.first.joined) ∙ sound) in
    both_ways _ h.first.broken (sound_head percent_sign h.first.suffix tail)

-- a piece that decodes to text has nothing that doesn't
pub decoded_passes : (text : List ℕ) → IsUtf8 (percent_decode text) → Passes (Undecodable text)
decoded_passes text good p h = h.undecodable good

-- ---- parts of a location

-- if all bytes are decimal digits, the test for a decimal number finds nothing
pub digits_pass : (text : List ℕ) → list_all is_ascii_digit text ≡ true → Passes (NoDigits text)
digits_pass text each p h = both_ways _ h.other each

-- a URL that is short enough is not too long
pub fits_passes : (scheme rest : List ℕ) → Fits scheme rest → Passes (TooLong scheme rest)
fits_passes scheme rest fits p (TooLong.long_scheme long s) = absurd (omega (arith, long, fits.scheme_length))
fits_passes scheme rest fits p (TooLong.long_rest short unfit s) = unfit fits

-- the check of a scheme finds nothing in one
pub scheme_passes : (scheme : List ℕ) → is_scheme_text scheme ≡ true → Passes (BadScheme scheme)
scheme_passes scheme named p (BadScheme.missing e s) = false≢true (sym (ap is_scheme_text e) ∙ named)
scheme_passes scheme named p (BadScheme.bad_start c rest size e other h s) =
    both_ways _ other (and_parts (is_ascii_alphabetic c) (list_all is_name_byte rest) (sym (ap is_scheme_text e) ∙ named)).0
scheme_passes scheme named p (BadScheme.bad_character c rest e letter h) =
    class_stands is_name_byte name_byte_ascii scheme p.at p.len (helper_name_bytes scheme (scheme_helper_name scheme named)) h.stands

-- a path of the scp form that isn't empty isn't missing
pub scp_path_passes : (b path : List ℕ) → 0 < length path → Passes (NoScpPath b path)
scp_path_passes b path some p h = absurd (omega (arith, some, ap length h.empty))

-- nor is such a host
pub scp_host_passes : (host : List ℕ) → 0 < length host → Passes (NoScpHost host)
scp_host_passes host some p h = absurd (omega (arith, some, ap length h.empty))
