-- Names in which each byte may follow the one before it: they are plain.
use Rattle.std.proofs.Common.{◌≡◌, ◌∙◌, ◌≤◌, ◌+◌, ◌==◌, ◌&&◌, ◌||◌, not, zero, suc, ℕ, Bool, true, false, List, [], ◌∷◌, ◌++◌, inl, inr, refl, ap, subst, arith, length}
use Rattle.std.proofs.lemmas.Bool.{and_from, and_parts, false≢true}
use Rattle.std.proofs.lemmas.Bool.Decides.{nat_tests}
use Rattle.std.proofs.lemmas.List.{length-append}
use Rattle.std.specs.List.{list_all}
use Rattle.std.specs.Char.{is_ascii_digit, is_ascii_lowercase}
use Rattle.git_syntax.specs.Bytes.{dot, hyphen, FreeOf, begins_by}
use Rattle.git_syntax.proofs.Texts.CutLemmas.{free_head_tail, free_or_cut}
use Rattle.git_readers.specs.Unambiguous.{AreLabels, BeginsWithNumbers, IsPlainLabel, IsPlainName, is_label_byte, is_label_end}

-- the byte may follow the one before it in a common name
abbrev pub may_follow : ℕ → ℕ → Bool
may_follow before b = is_ascii_lowercase b || (is_ascii_digit b && not (before == dot) || (b == hyphen || b == dot) && is_label_end before)

-- each byte may follow the one before it, and the last one may end a label
abbrev pub follows : ℕ → List ℕ → Bool
follows before [] = is_label_end before
follows before (b ∷ bs) = may_follow before b && follows b bs

-- a name is cut at a dot
cut_at_dot : (a : ℕ) (label rest : List ℕ) → follows a (label ++ dot ∷ rest) ≡ true → (follows a label ≡ true) × (follows dot rest ≡ true)
cut_at_dot a [] rest h = and_parts (may_follow a dot) (follows dot rest) h
cut_at_dot a (b ∷ label) rest h =
    let parts = and_parts (may_follow a b) (follows b (label ++ dot ∷ rest)) h in
    let later = cut_at_dot b label rest parts.1 in
    (and_from (may_follow a b) (follows b label) parts.0 later.0, later.1)

-- a byte that may follow and isn't a dot is one of a label
label_byte : (a b : ℕ) → may_follow a b ≡ true → (b == dot) ≡ false → is_label_byte b ≡ true
label_byte a b h other = grind (arith, nat_tests)

-- so are the bytes between dots
label_bytes : (a : ℕ) (t : List ℕ) → FreeOf dot t → follows a t ≡ true → list_all is_label_byte t ≡ true
label_bytes a [] free h = refl
label_bytes a (b ∷ bs) free h =
    let parts = and_parts (may_follow a b) (follows b bs) h in
    let apart = free_head_tail dot b bs free in
    and_from (is_label_byte b) (list_all is_label_byte bs) (label_byte a b parts.0 apart.0) (label_bytes b bs apart.1 parts.1)

-- only a letter may follow a dot
letter_follows : (b : ℕ) → may_follow dot b ≡ true → is_ascii_lowercase b ≡ true
letter_follows b h = grind (arith, nat_tests)

letter_first : (t : List ℕ) → follows dot t ≡ true → begins_by is_ascii_lowercase t ≡ true
letter_first [] h = h
letter_first (b ∷ bs) h = letter_follows b (and_parts (may_follow dot b) (follows b bs) h).0

-- a letter may end a label
letter_ends : (t : List ℕ) → begins_by is_ascii_lowercase t ≡ true → begins_by is_label_end t ≡ true
letter_ends [] h = h
letter_ends (b ∷ bs) h = grind (arith, nat_tests)

-- a hyphen may not end one
no_hyphen : (a : ℕ) (front : List ℕ) → ¬ (follows a (front ++ hyphen ∷ []) ≡ true)
no_hyphen a [] h = false≢true (and_parts (may_follow a hyphen) (follows hyphen []) h).1
no_hyphen a (b ∷ front) h = no_hyphen b front (and_parts (may_follow a b) (follows b (front ++ hyphen ∷ [])) h).1

-- the text between dots is a plain label
plain_label : (t : List ℕ) → FreeOf dot t → follows dot t ≡ true → length t ≤ 63 → IsPlainLabel t
plain_label t free h short = record {
  bytes = label_bytes dot t free h;
  begins = letter_ends t (letter_first t h);
  ends = λ front e. no_hyphen dot front (subst (λ x. follows dot x ≡ true) e h);
  short = short;
  no_punycode = λ (rest, e). false≢true (subst (λ x. follows dot x ≡ true) e h);
}

-- the labels of a name of at most n bytes are plain
plain_labels : (n : ℕ) (t : List ℕ) → length t ≤ n → length t ≤ 63 → follows dot t ≡ true → AreLabels t
plain_labels zero [] within short h = absurd (false≢true h)
plain_labels zero (b ∷ bs) within short h = absurd (omega (arith, within))
plain_labels (suc n) t within short h = elim (free_or_cut dot t) [
  | inl free ↦ AreLabels.last t (plain_label t free h short) (letter_first t h)
  | inr (label, rest, free, joined) ↦
      let parts = cut_at_dot dot label rest (subst (λ x. follows dot x ≡ true) joined h) in
      let size : length t ≡ length label + length (dot ∷ rest) = ap length joined ∙ length-append label (dot ∷ rest) in
      AreLabels.more t label rest (plain_label label free parts.0 (omega (arith, size, short))) (plain_labels n rest (omega (arith, size, within)) (omega (arith, size, short)) parts.1) joined
]

-- a name that begins with a letter doesn't begin with digits
letter_no_digits : (digits rest : List ℕ) → list_all is_ascii_digit digits ≡ true → ¬ (begins_by is_ascii_lowercase (digits ++ dot ∷ rest) ≡ true)
letter_no_digits [] rest all letter = false≢true letter
letter_no_digits (b ∷ digits) rest all letter = grind (arith, nat_tests)

no_numbers : (t : List ℕ) → begins_by is_ascii_lowercase t ≡ true → ¬ BeginsWithNumbers t
no_numbers t letter has = letter_no_digits has.first _ has.first_digits (subst (λ x. begins_by is_ascii_lowercase x ≡ true) has.joined letter)

-- a short name in which each byte may follow the one before it is plain
pub common_name : (t : List ℕ) → follows dot t ≡ true → length t ≤ 63 → IsPlainName t
common_name t h short = record {
  labels = plain_labels (length t) t (omega arith) short h;
  short = omega (arith, short);
  no_numbers = no_numbers t (letter_first t h);
}
