-- The last name of a path with one byte more, and the bytes of it that are kept.
use Rattle.std.proofs.Common.{◌≡◌, ◌∙◌, ℕ, zero, suc, ◌+◌, ◌<◌, ◌≤◌, true, false, cond, ◌==◌, List, [], ◌∷◌, ◌++◌, length, take, refl, sym, ap, arith, bytes_eq, codes, lit<}
use Rattle.std.specs.Prelude.{reverse, slice_set}
use Rattle.std.specs.List.{take_while}
use Rattle.std.proofs.lemmas.Bool.{ne_eqb}
use Rattle.std.proofs.lemmas.List.{length-append, length-map, length-set, length-take, reverse-append, take-append-le, take-map, take_all, take_more_set}
use Rattle.std.proofs.lemmas.List.Sums.{take_while-cons}
use Rattle.std.specs.Char.{to_ascii_lowercase}
use Rattle.git_syntax.specs.Bytes.{begins_with, lowercase, slash}
use Rattle.git_rules.specs.Words.{is_word}
use Rattle.git_rules.specs.CommandLines.{base_name, is_no_slash, name_back}
use Rattle.git_rules.specs.SshPrograms.{variant_named}
use Rattle.git_rules.specs.BaseNames.{IsNameOf}
use Rattle.git_rules.specs.declared.ssh.program.name.BaseName.{BaseName}

-- ---- the name

-- read from its end, a path with one byte more begins with the byte
reverse-push : (path : List ℕ) (b : ℕ) → reverse (path ++ b ∷ []) ≡ b ∷ reverse path
reverse-push path b = reverse-append path (b ∷ [])

-- whether a slash ends it
ended-push : (path : List ℕ) (b : ℕ) → begins_with slash (reverse (path ++ b ∷ [])) ≡ (b == slash)
ended-push path b = ap (begins_with slash) (reverse-push path b)

-- another byte is the last of the name
name-byte : (path : List ℕ) (b : ℕ) → (b == slash) ≡ false → base_name (path ++ b ∷ []) ≡ reverse (b ∷ take_while is_no_slash (reverse path))
name-byte path b other = ap (λ r. reverse (name_back r)) (reverse-push path b) ∙ rw other refl

-- after a slash it is the first one
none_before : (back : List ℕ) → begins_with slash back ≡ true → take_while is_no_slash back ≡ []
none_before [] h = absurd (cc)
none_before (c ∷ back) h = rw h refl

-- and else it follows those of the name
some_before : (back : List ℕ) → begins_with slash back ≡ false → name_back back ≡ take_while is_no_slash back
some_before [] h = refl
some_before (c ∷ back) h =
    let left : name_back (c ∷ back) ≡ c ∷ take_while is_no_slash back = rw h refl in
    let right : cond (is_no_slash c) (c ∷ take_while is_no_slash back) [] ≡ c ∷ take_while is_no_slash back = rw h refl in
    left ∙ sym (take_while-cons is_no_slash c back ∙ right)

name_started : (path : List ℕ) (b : ℕ) → begins_with slash (reverse path) ≡ true → (b == slash) ≡ false → base_name (path ++ b ∷ []) ≡ b ∷ []
name_started path b ended other = name-byte path b other ∙ ap (λ t. reverse (b ∷ t)) (none_before (reverse path) ended)

name_more : (path : List ℕ) (b : ℕ) → begins_with slash (reverse path) ≡ false → (b == slash) ≡ false → base_name (path ++ b ∷ []) ≡ base_name path ++ b ∷ []
name_more path b going other = name-byte path b other ∙ ap (λ t. reverse (b ∷ t)) (sym (some_before (reverse path) going)) ∙ reverse-append (b ∷ []) (name_back (reverse path))

-- ---- the bytes that are kept

-- a byte more is kept if fewer are than may be
kept_more : (n : ℕ) (kept name : List ℕ) (b : ℕ) → kept ≡ take n name → length kept < n → kept ++ b ∷ [] ≡ take n (name ++ b ∷ [])
kept_more n kept name b is few =
    let short : length name < n = omega (arith, ap length is, length-take n name) in
    let long : length (name ++ b ∷ []) ≤ n = omega (arith, length-append name (b ∷ [])) in
    ap (λ t. t ++ b ∷ []) (is ∙ take_all n name (omega arith)) ∙ sym (take_all n (name ++ b ∷ []) long)

-- and none if as many are
kept_same : (n : ℕ) (kept name : List ℕ) (b : ℕ) → kept ≡ take n name → n ≤ length kept → kept ≡ take n (name ++ b ∷ [])
kept_same n kept name b is many =
    let long : n ≤ length name = omega (arith, ap length is, length-take n name) in
    is ∙ sym (take-append-le n name (b ∷ []) long)

-- the first byte
kept_first : (n : ℕ) (bytes : List ℕ) (b : ℕ) → 0 < length bytes → 1 ≤ n → take 1 (slice_set bytes 0 b) ≡ take n (b ∷ [])
kept_first n [] b some h = absurd (omega (arith, some))
kept_first n (x ∷ bytes) b some h = sym (take_all n (b ∷ []) h)

-- ---- a byte more

-- after a slash
pub write_first : (n : BaseName) (path : List ℕ) (b : ℕ) → n.is_ended ≡ true → (b ≡ 47 → ⊥) → IsNameOf n path → IsNameOf (record { bytes = slice_set n.bytes 0 b; len = 1; is_ended = false }) (path ++ b ∷ [])
write_first n path b ended other h =
    let no_slash : (b == slash) ≡ false = ne_eqb b 47 other in
    record {
      whole = length-set n.bytes 0 b ∙ h.whole;
      within = omega arith;
      kept = kept_first 18 n.bytes b (omega (arith, h.whole)) (omega arith) ∙ ap (λ t. take 18 t) (sym (name_started path b (sym h.ended ∙ ended) no_slash));
      ended = sym (ended-push path b ∙ no_slash);
    }

-- in a name of which not too many bytes are kept
pub write_more : (n : BaseName) (path : List ℕ) (b : ℕ) → n.is_ended ≡ false → (b ≡ 47 → ⊥) → n.len < 18 → IsNameOf n path → IsNameOf (record { bytes = slice_set n.bytes n.len b; len = n.len + 1; is_ended = n.is_ended }) (path ++ b ∷ [])
write_more n path b going other few h =
    let no_slash : (b == slash) ≡ false = ne_eqb b 47 other in
    let fits : n.len < length n.bytes = omega (arith, h.whole) in
    let short : length (take n.len n.bytes) < 18 = omega (arith, length-take n.len n.bytes) in
    record {
      whole = length-set n.bytes n.len b ∙ h.whole;
      within = omega arith;
      kept = take_more_set n.bytes n.len b fits ∙ kept_more 18 (take n.len n.bytes) (base_name path) b h.kept short ∙ ap (λ t. take 18 t) (sym (name_more path b (sym h.ended ∙ going) no_slash));
      ended = going ∙ sym (ended-push path b ∙ no_slash);
    }

-- and in one of which as many are kept as may be
pub write_over : (n : BaseName) (path : List ℕ) (b : ℕ) → n.is_ended ≡ false → (b ≡ 47 → ⊥) → 18 ≤ n.len → IsNameOf n path → IsNameOf n (path ++ b ∷ [])
write_over n path b going other many h =
    let no_slash : (b == slash) ≡ false = ne_eqb b 47 other in
    let long : 18 ≤ length (take n.len n.bytes) = omega (arith, length-take n.len n.bytes, h.whole) in
    record {
      whole = h.whole;
      within = h.within;
      kept = kept_same 18 (take n.len n.bytes) (base_name path) b h.kept long ∙ ap (λ t. take 18 t) (sym (name_more path b (sym h.ended ∙ going) no_slash));
      ended = going ∙ sym (ended-push path b ∙ no_slash);
    }

-- ---- the variant

-- a front that is longer than a word is the word if the text is
eq_front : (n : ℕ) (xs ys : List ℕ) → length ys < n → bytes_eq (take n xs) ys ≡ bytes_eq xs ys
eq_front zero xs ys h = absurd (omega (arith, h))
eq_front (suc n) [] ys h = refl
eq_front (suc n) (x ∷ xs) [] h = refl
eq_front (suc n) (x ∷ xs) (y ∷ ys) h =
    let rest : bytes_eq (take n xs) ys ≡ bytes_eq xs ys = eq_front n xs ys (omega (arith, h)) in
    rw rest refl

word_front : (n : ℕ) (text word : List ℕ) → length word < n → is_word (take n text) word ≡ is_word text word
word_front n text word h =
    ap (λ t. bytes_eq t (lowercase word)) (sym (take-map to_ascii_lowercase n text)) ∙ eq_front n (lowercase text) (lowercase word) (omega (arith, h, length-map word to_ascii_lowercase))

-- so the variant is that of the bytes that are kept
pub named_front : (text : List ℕ) → variant_named (take 18 text) ≡ variant_named text
named_front text =
    let ssh = word_front 18 text (codes "ssh") (lit< tt) in
    let ssh_exe = word_front 18 text (codes "ssh.exe") (lit< tt) in
    let plink = word_front 18 text (codes "plink") (lit< tt) in
    let plink_exe = word_front 18 text (codes "plink.exe") (lit< tt) in
    let tortoise = word_front 18 text (codes "tortoiseplink") (lit< tt) in
    let tortoise_exe = word_front 18 text (codes "tortoiseplink.exe") (lit< tt) in
    rw (ssh, ssh_exe, plink, plink_exe, tortoise, tortoise_exe) refl
