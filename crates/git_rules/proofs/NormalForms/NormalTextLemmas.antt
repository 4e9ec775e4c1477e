-- The normal form of a text, one byte or one escape after the other.
use Rattle.std.proofs.Common.{◌≡◌, ◌∙◌, ◌+◌, ◌-◌, ◌*◌, ◌≤◌, ◌∷◌, ◌++◌, ℕ, true, false, ◌&&◌, ◌==◌, List, [], length, take, drop, get_or, refl, sym, ap, arith}
use Rattle.std.proofs.lemmas.Bool.{and_parts}
use Rattle.std.proofs.lemmas.Bool.Decides.{nat_tests}
use Rattle.std.proofs.lemmas.List.{append-nil, take_rest}
use Rattle.std.specs.Char.{digit_value}
use Rattle.percent_encoding.specs.Percent.{percent_encode_byte}
use Rattle.git_syntax.specs.Bytes.{is_hexadecimal, percent_sign}
use Rattle.git_syntax.specs.Escapes.{is_sound}
use Rattle.git_syntax.proofs.Texts.EscapeLemmas.{sound_tail}
use Rattle.git_rules.specs.Normal.{normal_byte, normal_text}
use Rattle.git_rules.specs.NormalPieces.{SplitsNormal}
use Rattle.git_reads.specs.Git.{escaped_byte}

-- a byte that isn't `%` is written by itself
pub normal_kept : (b : ℕ) (rest : List ℕ) → (b == percent_sign) ≡ false → normal_text (b ∷ rest) ≡ normal_byte false b ++ normal_text rest
unfolding normal_text
normal_kept b [] other = sym (append-nil (normal_byte false b))
normal_kept b (c ∷ []) other = refl
normal_kept b (c ∷ d ∷ rest) other = grind arith

-- an escape becomes the normal form of its byte
pub normal_escape : (high low : ℕ) (rest : List ℕ) → normal_text (percent_sign ∷ high ∷ low ∷ rest) ≡ normal_byte true (escaped_byte high low) ++ normal_text rest
unfolding normal_text
normal_escape high low rest = refl

-- a first byte that isn't `%`
pub splits_kept : (text suffix : List ℕ) (b : ℕ) → text ≡ b ∷ suffix → (b == percent_sign) ≡ false → is_sound text ≡ true → SplitsNormal text b false suffix
splits_kept text suffix b e other sound = record {
  joined = ap normal_text e ∙ normal_kept b suffix other;
  sound = sound_tail b suffix (sym (ap is_sound e) ∙ sound);
  shorter = omega (arith, ap length e);
}

-- a sound escape has two digits
pub sound_escape : (high low : ℕ) (rest : List ℕ) → is_sound (percent_sign ∷ high ∷ low ∷ rest) ≡ true → (is_hexadecimal high ≡ true) × (is_hexadecimal low ≡ true) × (is_sound rest ≡ true)
sound_escape high low rest sound =
    let one = and_parts (is_hexadecimal high) (is_hexadecimal low && is_sound rest) sound in
    let two = and_parts (is_hexadecimal low) (is_sound rest) one.1 in
    (one.0, two.0, two.1)

-- the text after a `%` of a sound text has two bytes
pub sound_long : (suffix : List ℕ) → is_sound (percent_sign ∷ suffix) ≡ true → 2 ≤ length suffix
sound_long [] sound = grind (arith, nat_tests)
sound_long (b ∷ []) sound = grind (arith, nat_tests)
sound_long (b ∷ c ∷ rest) sound = omega arith

-- the escape that a sound text begins with
pub splits_escape : (suffix : List ℕ) (high low : ℕ) → is_sound (percent_sign ∷ suffix) ≡ true → high ≡ digit_value (get_or suffix 0 0) → low ≡ digit_value (get_or suffix 1 0)
    → SplitsNormal (percent_sign ∷ suffix) (high * 16 + low) true (take (length suffix - 2) (drop 2 suffix))
splits_escape [] high low sound one two = absurd (let long = sound_long [] sound in omega (arith, long))
splits_escape (b ∷ []) high low sound one two = absurd (let long = sound_long (b ∷ []) sound in omega (arith, long))
splits_escape (b ∷ c ∷ rest) high low sound one two =
    let left = take_rest (b ∷ c ∷ rest) 2 in
    let value : escaped_byte b c ≡ high * 16 + low = omega (arith, one, two) in record {
      joined = normal_escape b c rest ∙ ap (λ byte. normal_byte true byte ++ normal_text rest) value ∙ ap (λ r. normal_byte true (high * 16 + low) ++ normal_text r) (sym left);
      sound = ap is_sound left ∙ (sound_escape b c rest sound).2;
      shorter = omega (arith, ap length left);
    }

-- if nothing is left, all is written
pub all_normal : (done front rest text : List ℕ) → done ++ normal_text rest ≡ front ++ normal_text text → rest ≡ [] → done ≡ front ++ normal_text text
unfolding normal_text
all_normal done front rest text joined e = sym (append-nil done) ∙ sym (ap (λ left. done ++ normal_text left) e) ∙ joined

-- how long the escape of a byte makes a text
pub escaped_length : (text : List ℕ) (b : ℕ) → text ≡ percent_encode_byte b → length text ≡ 3
unfolding percent_encode_byte
escaped_length text b e = ap length e
