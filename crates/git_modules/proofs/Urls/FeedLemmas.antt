-- Line feeds in decoded texts.
use Rattle.std.proofs.Common.{◌≡◌, ◌∙◌, ℕ, Bool, true, false, not, ◌==◌, ◌||◌, ◌&&◌, ◌⊎◌, inl, inr, List, [], ◌∷◌, ◌++◌, refl, sym, ap, subst, arith}
use Rattle.std.specs.Char.{is_digit}
use Rattle.std.proofs.lemmas.Bool.{both_ways, cases_Bool, cond-false, cond-true, eqb-true, and_parts}
use Rattle.std.proofs.lemmas.Bool.Decides.{nat_tests}
use Rattle.std.proofs.lemmas.List.Folds.{list_any-append}
use Rattle.percent_encoding.specs.Percent.{is_escape, percent_decode}
use Rattle.git_syntax.specs.Bytes.{newline, colon, FreeOf}
use Rattle.git_reads.specs.Git.{escaped_byte, is_git_escape, git_decode}
use Rattle.git_reads.specs.Credentials.{CredentialDecodes}
use Rattle.git_syntax.proofs.Texts.CutLemmas.{cut_unique, not_free}
use Rattle.git_modules.specs.SubmoduleUrls.{DecodesToLines, has_feed}
use Rattle.git_modules.specs.SubmoduleInternal.{TestsFeed}

-- ---- truths

-- a fact that holds and doesn't
pub clash : (t : Bool) → t ≡ true → t ≡ false → ⊥
clash t so_it_is it_isnt = both_ways t it_isnt so_it_is

-- one of two holds if either does
pub one_holds : (a b : Bool) → (a || b) ≡ true → (a ≡ true) ⊎ (b ≡ true)
one_holds true b h = inl refl
one_holds false b h = inr h

-- the first of two holds, so either does
pub short_or : (a b : Bool) → a ≡ true → (a || b) ≡ a
short_or true b h = refl
short_or false b h = absurd (clash false h refl)

-- the first doesn't, so it is the second
pub other_or : (a b : Bool) → a ≡ false → (a || b) ≡ b
other_or true b h = absurd (clash true refl h)
other_or false b h = refl

-- ---- escapes

-- three bytes that begin with another byte than `%` aren't an escape
plain_escape : (b high low : ℕ) → (b == 37) ≡ false → is_git_escape b high low ≡ false
plain_escape b high low h = ap (λ x. ((x && is_digit high 16) && is_digit low 16) && not (escaped_byte high low == 0)) h

-- another byte than `%` stays
pub kept_plain : (b : ℕ) (rest : List ℕ) → (b == 37) ≡ false → git_decode (b ∷ rest) ≡ b ∷ git_decode rest
kept_plain b [] h = refl
kept_plain b (c ∷ []) h = refl
kept_plain b (c ∷ d ∷ rest) h = cond-false _ _ _ (plain_escape b c d h)

-- a digit is none of the bytes that aren't digits
digit_other : (b c : ℕ) → is_digit c 16 ≡ false → is_digit b 16 ≡ true → (b == c) ≡ false
digit_other b c other digit =
    elim (cases_Bool (b == c)) [
      | inl is ↦ absurd (clash (is_digit c 16) (subst (λ x. is_digit x 16 ≡ true) (eqb-true b c is) digit) other)
      | inr it_isnt ↦ it_isnt
    ]

-- no escape: the first byte stays
kept_same : (b high low : ℕ) (rest : List ℕ) → is_escape b high low ≡ false → has_feed (percent_decode (high ∷ low ∷ rest)) ≡ has_feed (git_decode (high ∷ low ∷ rest)) → has_feed (percent_decode (b ∷ high ∷ low ∷ rest)) ≡ has_feed (git_decode (b ∷ high ∷ low ∷ rest))
unfolding percent_decode
kept_same b high low rest it_isnt so =
    let git : is_git_escape b high low ≡ false = ap (λ x. x && not (escaped_byte high low == 0)) it_isnt in
    ap has_feed (cond-false _ _ _ it_isnt) ∙ ap (λ x. (b == newline) || x) so ∙ sym (ap has_feed (cond-false _ _ _ git))

-- the escape of byte 0: it has no line feed, decoded or not
zero_same : (b high low : ℕ) (rest : List ℕ) → is_escape b high low ≡ true → (escaped_byte high low == 0) ≡ true → has_feed (git_decode (b ∷ high ∷ low ∷ rest)) ≡ has_feed (git_decode rest)
zero_same b high low rest so_it_is zero =
    let parts = and_parts (b == 37 && is_digit high 16) (is_digit low 16) so_it_is in
    let front = and_parts (b == 37) (is_digit high 16) parts.0 in
    let git : is_git_escape b high low ≡ false = ap (λ x. is_escape b high low && not x) zero ∙ ap (λ x. x && false) so_it_is in
    let second = kept_plain high (low ∷ rest) (digit_other high 37 refl front.1) in
    let third = kept_plain low rest (digit_other low 37 refl parts.1) in
    let whole : git_decode (b ∷ high ∷ low ∷ rest) ≡ b ∷ high ∷ low ∷ git_decode rest = cond-false _ _ _ git ∙ ap (λ x. b ∷ x) (second ∙ ap (λ x. high ∷ x) third) in
    let percent : (b == newline) ≡ false = subst (λ x. (x == newline) ≡ false) (sym (eqb-true b 37 front.0)) refl in
    ap has_feed whole
    ∙ ap (λ x. x || ((high == newline) || ((low == newline) || has_feed (git_decode rest)))) percent
    ∙ ap (λ x. x || ((low == newline) || has_feed (git_decode rest))) (digit_other high newline refl front.1)
    ∙ ap (λ x. x || has_feed (git_decode rest)) (digit_other low newline refl parts.1)

-- an escape
escape_same : (b high low : ℕ) (rest : List ℕ) → is_escape b high low ≡ true → has_feed (percent_decode rest) ≡ has_feed (git_decode rest) → has_feed (percent_decode (b ∷ high ∷ low ∷ rest)) ≡ has_feed (git_decode (b ∷ high ∷ low ∷ rest))
unfolding percent_decode
escape_same b high low rest so_it_is so =
    let decoded : has_feed (percent_decode (b ∷ high ∷ low ∷ rest)) ≡ ((escaped_byte high low == newline) || has_feed (percent_decode rest)) = ap has_feed (cond-true _ _ _ so_it_is) in
    elim (cases_Bool (escaped_byte high low == 0)) [
      | inl zero ↦
          let none : (escaped_byte high low == newline) ≡ false = subst (λ x. (x == newline) ≡ false) (sym (eqb-true _ 0 zero)) refl in
          decoded ∙ ap (λ x. x || has_feed (percent_decode rest)) none ∙ so ∙ sym (zero_same b high low rest so_it_is zero)
      | inr other ↦
          let git : is_git_escape b high low ≡ true = ap (λ x. x && not (escaped_byte high low == 0)) so_it_is ∙ ap not other in
          decoded ∙ ap (λ x. (escaped_byte high low == newline) || x) so ∙ sym (ap has_feed (cond-true _ _ _ git))
    ]

-- Git, which leaves the escape of byte 0, finds a line feed if there is one with all escapes decoded
pub feeds_same : (t : List ℕ) → has_feed (percent_decode t) ≡ has_feed (git_decode t)
unfolding percent_decode
feeds_same [] = refl
feeds_same (b ∷ []) = refl
feeds_same (b ∷ c ∷ []) = refl
feeds_same (b ∷ high ∷ low ∷ rest) =
    let after_escape = feeds_same rest in
    let after_byte = feeds_same (high ∷ low ∷ rest) in
    elim (cases_Bool (is_escape b high low)) [
      | inl so_it_is ↦ escape_same b high low rest so_it_is after_escape
      | inr it_isnt ↦ kept_same b high low rest it_isnt after_byte
    ]

-- ---- pieces

-- the text before the first colon and the text after it
pub feed_after : (front rest : List ℕ) → has_feed (front ++ colon ∷ rest) ≡ (has_feed front || has_feed rest)
feed_after front rest = list_any-append (λ b. b == newline) front (colon ∷ rest)

-- the text before the first colon has a line feed if it isn't one line
not_line : (front : List ℕ) (line : Bool) → (line ≡ true → FreeOf newline front) × (FreeOf newline front → line ≡ true) → not line ≡ has_feed front
not_line front true k = sym (k.0 refl)
not_line front false k =
    elim (cases_Bool (has_feed front)) [
      | inl so_it_is ↦ sym so_it_is
      | inr it_isnt ↦ absurd (clash false (k.1 it_isnt) refl)
    ]

-- and is one line if it has none
pub line_tells : (front : List ℕ) (line : Bool) → (line ≡ true → FreeOf newline front) × (FreeOf newline front → line ≡ true) → line ≡ not (has_feed front)
line_tells front true k = sym (ap not (k.0 refl))
line_tells front false k =
    elim (cases_Bool (has_feed front)) [
      | inl so_it_is ↦ sym (ap not so_it_is)
      | inr it_isnt ↦ absurd (clash false (k.1 it_isnt) refl)
    ]

-- the line feeds of a piece with a colon
pub feed_cut : (piece front rest : List ℕ) (line inner : Bool) → FreeOf colon front → piece ≡ front ++ colon ∷ rest → (line ≡ true → FreeOf newline front) × (FreeOf newline front → line ≡ true) → inner ≡ has_feed (git_decode rest) → TestsFeed piece (not line || inner)
feed_cut piece front rest line inner free e k so =
    (front ++ colon ∷ git_decode rest, CredentialDecodes.suffix front rest free e refl, ap (λ x. x || inner) (not_line front line k) ∙ ap (λ x. has_feed front || x) so ∙ sym (feed_after front (git_decode rest)))

-- the decoding of a piece has a line feed or has none
same_feed : (piece one two : List ℕ) → CredentialDecodes piece one → CredentialDecodes piece two → has_feed one ≡ has_feed two
same_feed piece one two h k =
    let same : one ≡ two = grind (arith, nat_tests, cut_unique, not_free) in
    ap has_feed same

-- there are several lines if there is a line feed
pub tells_lines : (t : List ℕ) (feed : Bool) → TestsFeed t feed → (feed ≡ true → DecodesToLines t) × (DecodesToLines t → feed ≡ true)
tells_lines t feed h =
    (λ e. (h.0, h.1, sym h.2 ∙ e), λ k. h.2 ∙ same_feed t h.0 k.0 h.1 k.1 ∙ k.2)

-- all escapes decoded, there is a line feed if Git has one
pub feeds_of : (t bytes : List ℕ) → bytes ≡ percent_decode t → has_feed (git_decode t) ≡ has_feed bytes
feeds_of t bytes e = sym (feeds_same t) ∙ ap has_feed (sym e)
