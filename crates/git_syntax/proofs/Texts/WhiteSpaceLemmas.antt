-- White space, as Unicode defines it, in the bytes of a text.
use Rattle.std.proofs.Common.{◌≡◌, ◌∙◌, ◌+◌, ◌*◌, ◌/◌, ◌%◌, ◌<◌, ◌≤◌, ◌||◌, ◌++◌, ◌∷◌, ℕ, Bool, true, false, List, [], get_or, refl, sym, ap, ⊎_elim, arith}
use Rattle.std.specs.Char.{encode_utf8, is_whitespace}
use Rattle.std.specs.List.{list_any}
use Rattle.std.specs.Str.{IsUtf8, chars, encode_utf8_all}
use Rattle.std.proofs.lemmas.Bool.{and_parts, cases_lt, cond-true, cond-false, or_parts}
use Rattle.std.proofs.lemmas.Bool.Decides.{nat_tests}
use Rattle.std.proofs.lemmas.Str.{chars-encodes}
use lib.Dec.{ltb}
use lib.Utf8.{scalar, scalars, scalar_cases}
use Rattle.git_syntax.specs.Internal.WhiteSpace.{are_space, holds_space, may_begin_space}

-- a continuation byte begins no white space
within : (b c d : ℕ) → 128 ≤ b → b < 192 → are_space b c d ≡ false
within b c d low high = grind (arith, nat_tests)

one_byte : (b c d : ℕ) → b < 128 → are_space b c d ≡ is_whitespace b
one_byte b c d low = grind (arith, nat_tests)

-- the character of two bytes whose last six bits are r
two_2 : (r d : ℕ) → r < 64 → are_space 194 (128 + r) d ≡ is_whitespace (128 + r)
two_2 r d six = grind (arith, nat_tests)

two_3 : (b c x d : ℕ) → 195 ≤ b → b < 224 → 192 ≤ c → c < 2048 → are_space b x d ≡ is_whitespace c
two_3 b c x d lead high low wide = grind (arith, nat_tests)

two_bytes : (c d : ℕ) → 128 ≤ c → c < 2048 → are_space (192 + c / 64) (128 + c % 64) d ≡ is_whitespace c
two_bytes c d low high =
    ⊎_elim
    (λ first.
    let lead : 192 + c / 64 ≡ 194 = omega arith in
    let e : 128 + c % 64 ≡ c = omega arith in
    ap (λ b. are_space b (128 + c % 64) d) lead ∙ two_2 (c % 64) d (omega arith) ∙ ap is_whitespace e)
    (λ later. two_3 (192 + c / 64) c (128 + c % 64) d (omega arith) (omega arith) later high)
    (cases_lt c 192)

-- the character of three bytes by its bits
three_1 : (q r : ℕ) → q < 64 → r < 64 → are_space 225 (128 + q) (128 + r) ≡ is_whitespace (4096 + (64 * q + r))
three_1 q r five six = grind (arith, nat_tests)

three_2_0 : (r : ℕ) → r < 64 → are_space 226 128 (128 + r) ≡ is_whitespace (8192 + r)
three_2_0 r six = grind (arith, nat_tests)

three_2_1 : (r : ℕ) → r < 64 → are_space 226 129 (128 + r) ≡ is_whitespace (8256 + r)
three_2_1 r six = grind (arith, nat_tests)

three_2 : (q r : ℕ) → 2 ≤ q → q < 64 → r < 64 → are_space 226 (128 + q) (128 + r) ≡ is_whitespace (8192 + (64 * q + r))
three_2 q r more five six = grind (arith, nat_tests)

three_3 : (q r : ℕ) → q < 64 → r < 64 → are_space 227 (128 + q) (128 + r) ≡ is_whitespace (12288 + (64 * q + r))
three_3 q r five six = grind (arith, nat_tests)

three_0 : (c x y : ℕ) → 2048 ≤ c → c < 4096 → are_space 224 x y ≡ is_whitespace c
three_0 c x y low high = grind (arith, nat_tests)

three_4 : (b c x y : ℕ) → 228 ≤ b → 16384 ≤ c → are_space b x y ≡ is_whitespace c
three_4 b c x y lead high = grind (arith, nat_tests)

-- the bits of a character of three bytes
bits : (k q r c : ℕ) → c / 4096 ≡ k → (c / 64) % 64 ≡ q → c % 64 ≡ r → 4096 * k + (64 * q + r) ≡ c
bits k q r c top middle last = omega (arith, top, middle, last)

three_bytes : (c : ℕ) → 2048 ≤ c → c < 65536 → are_space (224 + c / 4096) (128 + (c / 64) % 64) (128 + c % 64) ≡ is_whitespace c
three_bytes c low high =
    let q = (c / 64) % 64 in
    let r = c % 64 in
    let five : q < 64 = omega arith in
    let six : r < 64 = omega arith in
    ⊎_elim
    (λ none. let lead : 224 + c / 4096 ≡ 224 = omega arith in ap (λ b. are_space b (128 + q) (128 + r)) lead ∙ three_0 c (128 + q) (128 + r) low none)
    (λ past.
    ⊎_elim
    (λ first.
    let top : c / 4096 ≡ 1 = omega arith in
    ap (λ k. are_space (224 + k) (128 + q) (128 + r)) top ∙ three_1 q r five six ∙ ap is_whitespace (bits 1 q r c top refl refl))
    (λ past_first.
    ⊎_elim
    (λ second. let top : c / 4096 ≡ 2 = omega arith in ap (λ k. are_space (224 + k) (128 + q) (128 + r)) top ∙ second_block q r five six ∙ ap is_whitespace (bits 2 q r c top refl refl))
    (λ past_second.
    ⊎_elim
    (λ third. let top : c / 4096 ≡ 3 = omega arith in ap (λ k. are_space (224 + k) (128 + q) (128 + r)) top ∙ three_3 q r five six ∙ ap is_whitespace (bits 3 q r c top refl refl))
    (λ more. three_4 (224 + c / 4096) c (128 + q) (128 + r) (omega arith) more)
    (cases_lt c 16384))
    (cases_lt c 12288))
    (cases_lt c 8192))
    (cases_lt c 4096)
  where
    second_block : (q r : ℕ) → q < 64 → r < 64 → are_space 226 (128 + q) (128 + r) ≡ is_whitespace (8192 + (64 * q + r))
    second_block q r five six =
        ⊎_elim
        (λ low.
        let none : 128 + q ≡ 128 = omega arith in
        let e : 8192 + r ≡ 8192 + (64 * q + r) = omega arith in
        ap (λ x. are_space 226 x (128 + r)) none ∙ three_2_0 r six ∙ ap is_whitespace e)
        (λ past.
        ⊎_elim
        (λ one.
        let first : 128 + q ≡ 129 = omega arith in
        let e : 8256 + r ≡ 8192 + (64 * q + r) = omega arith in
        ap (λ x. are_space 226 x (128 + r)) first ∙ three_2_1 r six ∙ ap is_whitespace e)
        (λ more. three_2 q r more five six)
        (cases_lt q 2))
        (cases_lt q 1)

four_bytes : (b c d e : ℕ) → 65536 ≤ c → 240 ≤ b → are_space b d e ≡ is_whitespace c
four_bytes b c d e low high = grind (arith, nat_tests)

-- one character more in front
held : (b : ℕ) (bs : List ℕ) (is : Bool) → are_space b (get_or bs 0 0) (get_or bs 1 0) ≡ is → holds_space (b ∷ bs) ≡ (is || holds_space bs)
held b bs is e = ap (λ first. first || holds_space bs) e

-- the bytes of a character after the first
skip_one : (b : ℕ) (bs : List ℕ) → 128 ≤ b → b < 192 → holds_space (b ∷ bs) ≡ holds_space bs
skip_one b bs low high = held b bs false (within b (get_or bs 0 0) (get_or bs 1 0) low high)

by : (A : Type 0) → A → A
by A a = a

-- one character, with bytes after it
character : (c : ℕ) (rest : List ℕ) → scalar c ≡ true → holds_space (encode_utf8 c ++ rest) ≡ (is_whitespace c || holds_space rest)
unfolding encode_utf8
character c rest is =
    let range = scalar_cases c is in
    let d = 128 + c % 64 in
    let m = 128 + (c / 64) % 64 in
    let n = 128 + (c / 4096) % 64 in
    ⊎_elim
    (λ one.
    let e : encode_utf8 c ≡ c ∷ [] = cond-true _ _ _ (by (ltb c 128 ≡ true) (grind (arith, nat_tests))) in
    ap (λ l. holds_space (l ++ rest)) e ∙ held c rest (is_whitespace c) (one_byte c (get_or rest 0 0) (get_or rest 1 0) one))
    (λ more.
    let not_one : ltb c 128 ≡ false = grind (arith, nat_tests) in
    ⊎_elim
    (λ two.
    let e : encode_utf8 c ≡ (192 + c / 64) ∷ d ∷ [] = cond-false _ _ _ not_one ∙ cond-true _ _ _ (by (ltb c 2048 ≡ true) (grind (arith, nat_tests))) in
    ap (λ l. holds_space (l ++ rest)) e ∙ held (192 + c / 64) (d ∷ rest) (is_whitespace c) (two_bytes c (get_or rest 0 0) more two)
    ∙ ap (λ b. is_whitespace c || b) (skip_one d rest (omega arith) (omega arith)))
    (λ wide.
    let not_two : ltb c 2048 ≡ false = grind (arith, nat_tests) in
    ⊎_elim
    (λ three.
    let e : encode_utf8 c ≡ (224 + c / 4096) ∷ m ∷ d ∷ [] = cond-false _ _ _ not_one ∙ cond-false _ _ _ not_two ∙ cond-true _ _ _ (by (ltb c 65536 ≡ true) (grind (arith, nat_tests))) in
    ap (λ l. holds_space (l ++ rest)) e ∙ held (224 + c / 4096) (m ∷ d ∷ rest) (is_whitespace c) (three_bytes c wide three)
    ∙ ap (λ b. is_whitespace c || b) (skip_one m (d ∷ rest) (omega arith) (omega arith) ∙ skip_one d rest (omega arith) (omega arith)))
    (λ four.
    let not_three : ltb c 65536 ≡ false = grind (arith, nat_tests) in
    let e : encode_utf8 c ≡ (240 + c / 262144) ∷ n ∷ m ∷ d ∷ [] = cond-false _ _ _ not_one ∙ cond-false _ _ _ not_two ∙ cond-false _ _ _ not_three in
    ap (λ l. holds_space (l ++ rest)) e ∙ held (240 + c / 262144) (n ∷ m ∷ d ∷ rest) (is_whitespace c) (four_bytes (240 + c / 262144) c n m four (omega arith))
    ∙ ap (λ b. is_whitespace c || b) (skip_one n (m ∷ d ∷ rest) (omega arith) (omega arith) ∙ skip_one m (d ∷ rest) (omega arith) (omega arith) ∙ skip_one d rest (omega arith) (omega arith)))
    (cases_lt c 65536))
    (cases_lt c 2048))
    (cases_lt c 128)

-- the bytes of characters hold white space if one of the characters is
characters : (cs : List ℕ) → scalars cs ≡ true → holds_space (encode_utf8_all cs) ≡ list_any is_whitespace cs
characters [] all = refl
characters (c ∷ cs) all =
    let (first, others) = and_parts (scalar c) (scalars cs) all in
    character c (encode_utf8_all cs) first ∙ ap (λ b. is_whitespace c || b) (characters cs others)

-- so do the bytes of a text
pub space_in_bytes : (t : List ℕ) → IsUtf8 t → holds_space t ≡ list_any is_whitespace (chars t)
space_in_bytes t utf8 =
    let cs = utf8.0 in
    let spelled = utf8.1.1 in
    ap holds_space (sym spelled) ∙ characters cs utf8.1.0 ∙ ap (list_any is_whitespace) (sym (ap chars (sym spelled) ∙ chars-encodes cs utf8.1.0))

-- ---- a text without a byte that white space may begin with

-- the first byte of white space
pub first_of_space : (b c d : ℕ) → may_begin_space b ≡ false → are_space b c d ≡ false
first_of_space b c d other = grind (arith, nat_tests)

-- such a text holds no white space
pub none_begins : (t : List ℕ) → list_any may_begin_space t ≡ false → holds_space t ≡ false
none_begins [] none = refl
none_begins (b ∷ bs) none =
    let (first, others) = or_parts (may_begin_space b) (list_any may_begin_space bs) none in
    held b bs false (first_of_space b (get_or bs 0 0) (get_or bs 1 0) first) ∙ none_begins bs others
