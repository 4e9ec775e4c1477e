-- Where two texts meet without a cut in a word that is a token.
use Rattle.std.proofs.Common.{◌≡◌, ◌∙◌, ℕ, ◌<◌, ◌⊎◌, inl, inr, Bool, true, ◌&&◌, List, [], ◌∷◌, ◌++◌, codes, length, refl, sym, ap, subst, append_assoc, arith, length-append, nat_le}
use Rattle.std.specs.List.{list_all}
use Rattle.std.proofs.lemmas.Bool.{and_parts, both_ways, leb-true, not_from_true}
use Rattle.git_syntax.specs.Bytes.{begins_by, colon}
use Rattle.git_syntax.proofs.Texts.CutLemmas.{heads, tails}
use Rattle.git_secrets.specs.Tokens.{begins_as_token, is_gap, is_token_byte, is_token_word, least_token}
use Rattle.git_secrets.specs.OnlyLaws.{IsColon}
use Rattle.git_secrets.specs.TokenLaws.{BeginsApart, EndsApart}

-- ---- tokens

-- the word is a token, and consists of bytes of tokens
abbrev pub IsToken : List ℕ → Type 0
IsToken word = (is_token_word word ≡ true) × (list_all is_token_byte word ≡ true)

-- what a token is
word_parts : (word : List ℕ) → is_token_word word ≡ true → (nat_le least_token (length word) ≡ true) × (begins_as_token word ≡ true)
unfolding is_token_word
word_parts word is = and_parts (nat_le least_token (length word)) (begins_as_token word) is

-- a token has more than a byte
pub token_long : (word : List ℕ) → IsToken word → 1 < length word
token_long word is = omega (arith, leb-true least_token (length word) ((word_parts word is.0).0))

-- a token begins as one
pub token_begins : (word : List ℕ) → IsToken word → begins_as_token word ≡ true
token_begins word is = (word_parts word is.0).1

-- a byte of a token is not a gap
pub token_no_gap : (b : ℕ) → is_token_byte b ≡ true → is_gap b ≡ true → ⊥
token_no_gap b is gap = both_ways (is_gap b) (not_from_true (is_token_byte b) is) gap

-- both parts of a text are of the bytes that the text is of
all_both : (test : ℕ → Bool) (x y : List ℕ) → list_all test (x ++ y) ≡ true → (list_all test x ≡ true) × (list_all test y ≡ true)
all_both test [] y h = (refl, h)
all_both test (b ∷ x) y h =
    let parts = and_parts (test b) (list_all test (x ++ y)) h in
    let rest = all_both test x y parts.1 in
    (ap (λ t. t && list_all test x) parts.0 ∙ rest.0, rest.1)

-- ---- ends

-- the text ends with a byte that no token contains
abbrev pub EndsInGap : List ℕ → Type 0
EndsInGap text = (front : List ℕ) × (b : ℕ) × (text ≡ front ++ b ∷ []) × (is_gap b ≡ true)

-- a text is empty, or ends with a byte
last_of : (text : List ℕ) → (text ≡ []) ⊎ ((front : List ℕ) × (b : ℕ) × (text ≡ front ++ b ∷ []))
last_of [] = inl refl
last_of (b ∷ bs) = elim (last_of bs) [
  | inl none ↦ inr ([], b, ap (λ t. b ∷ t) none)
  | inr (front, c, e) ↦ inr (b ∷ front, c, ap (λ t. b ∷ t) e)
]

-- texts with a last byte that are equal have the same
same_last : (x y : List ℕ) (b c : ℕ) → x ++ b ∷ [] ≡ y ++ c ∷ [] → b ≡ c
same_last [] [] b c e = heads e
same_last [] (d ∷ y) b c e = absurd (omega (arith, ap length e, length-append y (c ∷ [])))
same_last (d ∷ x) [] b c e = absurd (omega (arith, ap length e, length-append x (b ∷ [])))
same_last (d ∷ x) (k ∷ y) b c e = same_last x y b c (tails e)

-- the rest of a text that ends with a byte that no token contains is empty, or ends so
ends_rest : (x y text : List ℕ) → text ≡ x ++ y → EndsInGap text → EndsApart y
ends_rest x y text cut (front, b, e, gap) = elim (last_of y) [
  | inl none ↦ inl none
  | inr (more, c, last) ↦
      let same : c ≡ b = same_last (x ++ more) front c b (append_assoc x more (c ∷ []) ∙ ap (λ t. x ++ t) (sym last) ∙ sym cut ∙ e) in
      inr (more, c, last, ap is_gap same ∙ gap)
]

-- the same of a text that is empty or ends so
pub apart_rest : (x y text : List ℕ) → text ≡ x ++ y → EndsApart text → EndsApart y
apart_rest [] y text cut ends = subst EndsApart cut ends
apart_rest (b ∷ x) y text cut (inl none) = cc
apart_rest (b ∷ x) y text cut (inr ends) = ends_rest (b ∷ x) y text cut ends

-- no text of the bytes of tokens ends with another byte
no_end : (text : List ℕ) → list_all is_token_byte text ≡ true → EndsInGap text → ⊥
no_end text all (front, b, e, gap) =
    let last = (all_both is_token_byte front (b ∷ []) (subst (λ t. list_all is_token_byte t ≡ true) e all)).1 in
    token_no_gap b ((and_parts (is_token_byte b) true last).0) gap

-- ---- cuts

-- two texts that are the same as two others: one of the two fronts is that of the other
pub cut_two : (a b c d : List ℕ) → a ++ b ≡ c ++ d → ((m : List ℕ) × (a ≡ c ++ m) × (d ≡ m ++ b)) ⊎ ((m : List ℕ) × (c ≡ a ++ m) × (b ≡ m ++ d))
cut_two a b [] d e = inl (a, refl, sym e)
cut_two [] b (k ∷ c) d e = inr (k ∷ c, refl, e)
cut_two (h ∷ a) b (k ∷ c) d e = elim (cut_two a b c d (tails e)) [
  | inl (m, front, rest) ↦ inl (m, ap (λ t. h ∷ t) front ∙ ap (λ t. t ∷ (c ++ m)) (heads e), rest)
  | inr (m, front, rest) ↦ inr (m, ap (λ t. k ∷ t) front ∙ ap (λ t. t ∷ (a ++ m)) (sym (heads e)), rest)
]

-- no token is cut between two texts
abbrev pub Apart : List ℕ → List ℕ → Type 0
Apart a b = (front m n rest : List ℕ) → IsToken (m ++ n) → EndsApart front → a ≡ front ++ m → b ≡ n ++ rest → 0 < length m → 0 < length n → ⊥

-- none is, if the first is empty or ends with a byte that no token contains
pub apart_ends : (a b : List ℕ) → EndsApart a → Apart a b
apart_ends a b ends front [] n rest is before first second some more = omega (arith, some)
apart_ends a b ends front (c ∷ m) n rest is before first second some more = elim (apart_rest front (c ∷ m) a first ends) [
  | inl none ↦ cc
  | inr last ↦ no_end (c ∷ m) ((all_both is_token_byte (c ∷ m) n is.1).0) last
]

-- none is, if the second is empty or begins with such a byte
pub apart_begins : (a b : List ℕ) → BeginsApart b → Apart a b
apart_begins a b begins front m [] rest is before first second some more = omega (arith, more)
apart_begins a b (inl none) front m (c ∷ n) rest is before first second some more = cc
apart_begins a b (inr begins) front m (c ∷ n) rest is before first second some more =
    let last = (all_both is_token_byte m (c ∷ n) is.1).1 in
    token_no_gap c ((and_parts (is_token_byte c) (list_all is_token_byte n) last).0) (ap (begins_by is_gap) (sym second) ∙ begins)

-- ---- the escape of a colon

-- a text that begins with the rest of an escaped `:` begins as no token
no_token : (a b : ℕ) (n : List ℕ) → a ≡ 51 → begins_as_token (a ∷ b ∷ n) ≡ true → ⊥
no_token a b n e begins =
    both_ways (begins_as_token (a ∷ b ∷ n)) (ap (λ k. begins_as_token (k ∷ b ∷ n)) e) begins

-- the byte `%` is in no token
no_percent : (x y n : List ℕ) → list_all is_token_byte ((x ++ 37 ∷ y) ++ n) ≡ true → ⊥
no_percent x y n all =
    let last = (all_both is_token_byte x (37 ∷ y) ((all_both is_token_byte (x ++ 37 ∷ y) n all).0)).1 in
    both_ways (is_token_byte 37) refl ((and_parts (is_token_byte 37) (list_all is_token_byte y) last).0)

-- no text that is empty or ends with a byte that no token contains ends with `%3`
no_three : (z k : List ℕ) → EndsApart (z ++ k) → k ≡ codes "%3" → ⊥
no_three z k ends e = elim (apart_rest (z ++ 37 ∷ []) (51 ∷ []) (z ++ k) (ap (λ t. z ++ t) e ∙ sym (append_assoc z (37 ∷ []) (51 ∷ []))) ends) [
  | inl none ↦ cc
  | inr (front, b, last, gap) ↦
      let same : 51 ≡ b = same_last [] front 51 b last in
      both_ways (is_gap 51) refl (ap is_gap same ∙ gap)
]

-- no token is cut by an escape that ends a text: not behind its front
escape_after : (z k m n : List ℕ) (b : ℕ) → EndsApart (z ++ k) → 37 ∷ 51 ∷ b ∷ [] ≡ k ++ m → IsToken (m ++ n) → 0 < length m → ⊥
escape_after z [] m n b ends e is some =
    no_percent [] (51 ∷ b ∷ []) n (subst (λ t. list_all is_token_byte (t ++ n) ≡ true) (sym e) is.1)
escape_after z (c ∷ []) m n b ends e is some =
    no_token 51 b n refl (subst (λ t. begins_as_token (t ++ n) ≡ true) (sym (tails e)) (token_begins (m ++ n) is))
escape_after z (c ∷ d ∷ []) m n b ends e is some =
    no_three z (c ∷ d ∷ []) ends (ap (λ t. t ∷ d ∷ []) (sym (heads e)) ∙ ap (λ t. 37 ∷ t ∷ []) (sym (heads (tails e))))
escape_after z (c ∷ d ∷ f ∷ k) m n b ends e is some =
    omega (arith, some, ap length e, length-append k m)

-- none is cut after an escape
apart_escape : (z : List ℕ) (b : ℕ) (next : List ℕ) → Apart (z ++ 37 ∷ 51 ∷ b ∷ []) next
apart_escape z b next front m n rest is before first second some more = elim (cut_two z (37 ∷ 51 ∷ b ∷ []) front m first) [
  | inl (k, cut, end) ↦ no_percent k (51 ∷ b ∷ []) n (subst (λ t. list_all is_token_byte (t ++ n) ≡ true) end is.1)
  | inr (k, cut, end) ↦ escape_after z k m n b (subst EndsApart cut before) end is some
]

-- ---- marks

-- a text after which no token goes on: it ends with a byte that no token contains, or is the escape of a `:`
abbrev pub IsSeam : List ℕ → Type 0
IsSeam mark = EndsInGap mark ⊎ ((b : ℕ) × (mark ≡ 37 ∷ 51 ∷ b ∷ []))

-- a `:` is such a text, and so is its escape
pub colon_seam : (mark : List ℕ) → IsColon mark → IsSeam mark
colon_seam mark (inl one) = inl ([], colon, one, refl)
colon_seam mark (inr (inl upper)) = inr (65, upper)
colon_seam mark (inr (inr lower)) = inr (97, lower)

-- no token is cut after such a text
pub apart_seam : (z mark next : List ℕ) → IsSeam mark → Apart (z ++ mark) next
apart_seam z mark next (inl (front, b, e, gap)) =
    apart_ends (z ++ mark) next (inr (z ++ front, b, ap (λ t. z ++ t) e ∙ sym (append_assoc z front (b ∷ [])), gap))
apart_seam z mark next (inr (b, e)) = subst (λ t. Apart (z ++ t) next) (sym e) (apart_escape z b next)
