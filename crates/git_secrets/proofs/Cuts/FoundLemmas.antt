-- The marks that are found in a text: a `:` in its front, an `@` at the front of its rest, and the end of a user.
use Rattle.std.proofs.Common.{◌≡◌, ◌∙◌, ℕ, ◌+◌, ◌<◌, ◌≤◌, inl, inr, Bool, true, false, ◌||◌, if◌then◌else◌, List, [], ◌∷◌, ◌++◌, codes, length, take, drop, Option, Some, None, refl, sym, ap, subst, append_assoc, append-nil, arith, suc}
use Rattle.std.specs.Option.{unwrap_or}
use Rattle.std.proofs.lemmas.Bool.{false≢true, or_cases}
use Rattle.std.proofs.lemmas.Bool.Decides.{Decides-eqb}
use Rattle.std.proofs.lemmas.List.{length-append, length-take-le, take-append-drop}
use Rattle.std.proofs.lemmas.Slice.Eq.{starts_is}
use Rattle.git_syntax.specs.Bytes.{colon, at_sign, begins_with}
use Rattle.git_syntax.proofs.Texts.CutLemmas.{begins_cut}
use Rattle.git_secrets.specs.Tokens.{has_front}
use Rattle.git_secrets.specs.declared.mark.Mark.{Mark}
use Rattle.git_secrets.specs.declared.mark.Mark.TheVariants as mark
use Rattle.git_secrets.specs.Secrets.{begins_as, begins_as_at, begins_as_colon, first_mark, last_mark, later_mark, mark_end, user_len}
use Rattle.git_secrets.specs.OnlyLaws.{Has, IsAt, IsColon}
use Rattle.git_secrets.proofs.Cuts.CutLemmas.{one_less}
use Rattle.git_secrets.proofs.Cuts.MarkLemmas.{first_here, first_step}

-- ---- texts with a mark

-- a mark of a text is one of the text after another
pub has_before : (IsMark : List ℕ → Type 0) (x t : List ℕ) → Has IsMark t → Has IsMark (x ++ t)
has_before IsMark x t (front, mark, rest, e, is) =
    (x ++ front, mark, rest, ap (λ u. x ++ u) e ∙ sym (append_assoc x front (mark ++ rest)), is)

-- a mark of a text is one of the text before another
pub has_after : (IsMark : List ℕ → Type 0) (t y : List ℕ) → Has IsMark t → Has IsMark (t ++ y)
has_after IsMark t y (front, mark, rest, e, is) =
    (front, mark, rest ++ y, ap (λ u. u ++ y) e ∙ append_assoc front (mark ++ rest) y ∙ ap (λ u. front ++ u) (append_assoc mark rest y), is)

-- a text has the mark at its end
has_at_end : (IsMark : List ℕ → Type 0) (front mark : List ℕ) → IsMark mark → Has IsMark (front ++ mark)
has_at_end IsMark front mark is = (front, mark, [], ap (λ u. front ++ u) (sym (append-nil mark)), is)

-- ---- a mark at the front

-- the text begins with such a mark, which is as long as this
abbrev pub BeginsBy : (List ℕ → Type 0) → List ℕ → ℕ → Type 0
BeginsBy IsMark text width = (mark : List ℕ) × (rest : List ℕ) × (text ≡ mark ++ rest) × (width ≡ length mark) × IsMark mark

-- a text that is found to begin with another is that and the rest
pub cut_front : (text front : List ℕ) → has_front text front ≡ true → (rest : List ℕ) × (text ≡ front ++ rest)
cut_front text front h = (_, (starts_is Decides-eqb text front true (sym h)).0 refl)

-- a text that begins with a `:` or its escape, if it is known with which
pub colon_by : (text : List ℕ) (is : Bool) → begins_with colon text ≡ is → begins_as_colon text ≡ true → BeginsBy IsColon text (if is then 1 else 3)
colon_by text true e h = let (rest, cut) = begins_cut colon text e in (colon ∷ [], rest, cut, refl, inl refl)
colon_by text false e h =
    elim (or_cases (begins_with colon text || has_front text (codes "%3A")) (has_front text (codes "%3a")) h) [
      | inr lower ↦ let (rest, cut) = cut_front text (codes "%3a") lower in (codes "%3a", rest, cut, refl, inr (inr refl))
      | inl other ↦ elim (or_cases (begins_with colon text) (has_front text (codes "%3A")) other) [
        | inl wrong ↦ absurd (false≢true (sym e ∙ wrong))
        | inr upper ↦ let (rest, cut) = cut_front text (codes "%3A") upper in (codes "%3A", rest, cut, refl, inr (inl refl))
      ]
    ]

-- a text that begins with an `@` or its escape, if it is known with which
pub at_by : (text : List ℕ) (is : Bool) → begins_with at_sign text ≡ is → begins_as_at text ≡ true → BeginsBy IsAt text (if is then 1 else 3)
at_by text true e h = let (rest, cut) = begins_cut at_sign text e in (at_sign ∷ [], rest, cut, refl, inl refl)
at_by text false e h =
    elim (or_cases (begins_with at_sign text) (has_front text (codes "%40")) h) [
      | inl wrong ↦ absurd (false≢true (sym e ∙ wrong))
      | inr escape ↦ let (rest, cut) = cut_front text (codes "%40") escape in (codes "%40", rest, cut, refl, inr refl)
    ]

-- ---- the first mark

-- a mark begins at this place, which is in the text
abbrev pub BeginsAt : Mark → List ℕ → ℕ → Type 0
BeginsAt m text n = (begins_as m (drop n text) ≡ true) × (n < length text)

-- the first mark of a text with a first byte begins where it is found, if that of the rest does
first_by : (m : Mark) (b : ℕ) (bs : List ℕ) (n : ℕ) (is : Bool) → begins_as m (b ∷ bs) ≡ is → first_mark m (b ∷ bs) ≡ Some n → ((k : ℕ) → first_mark m bs ≡ Some k → BeginsAt m bs k) → BeginsAt m (b ∷ bs) n
first_by m b bs n true is e rest =
    let both : ◌≡◌ {A = Option ℕ} (Some 0) (Some n) = sym (first_here m b bs is) ∙ e in
    let same : 0 ≡ n = cc in
    subst (BeginsAt m (b ∷ bs)) same (is, omega arith)
first_by m b bs n false is e rest =
    let (k, found, same) = one_less (first_mark m bs) n (sym (first_step m b bs is) ∙ e) in
    let (begins, within) = rest k found in
    subst (BeginsAt m (b ∷ bs)) same (begins, omega (arith, within))

-- a mark begins at the first place at which one is found
pub first_begins : (m : Mark) (text : List ℕ) (n : ℕ) → first_mark m text ≡ Some n → BeginsAt m text n
first_begins m [] n e = cc
first_begins m (b ∷ bs) n e = first_by m b bs n (begins_as m (b ∷ bs)) refl e (first_begins m bs)

-- ---- the last mark

-- the last mark of a text begins at its first byte, if it has none after that
last_here : (m : Mark) (b : ℕ) (bs : List ℕ) (n : ℕ) (is : Bool) → begins_as m (b ∷ bs) ≡ is → later_mark None is ≡ Some n → begins_as m (drop n (b ∷ bs)) ≡ true
last_here m b bs n true is e = let same : 0 ≡ n = cc in ap (λ k. begins_as m (drop k (b ∷ bs))) (sym same) ∙ is
last_here m b bs n false is e = cc

-- the last mark of a text with a first byte begins where it is found, if that of the rest does
last_by : (m : Mark) (b : ℕ) (bs : List ℕ) (n : ℕ) (found : Option ℕ) → last_mark m bs ≡ found → later_mark found (begins_as m (b ∷ bs)) ≡ Some n → ((k : ℕ) → last_mark m bs ≡ Some k → begins_as m (drop k bs) ≡ true) → begins_as m (drop n (b ∷ bs)) ≡ true
last_by m b bs n None none e rest = last_here m b bs n (begins_as m (b ∷ bs)) refl e
last_by m b bs n (Some k) some e rest =
    let numbers : k + 1 ≡ n = cc in
    let same : suc k ≡ n = omega (arith, numbers) in
    ap (λ j. begins_as m (drop j (b ∷ bs))) (sym same) ∙ rest k some

-- a mark begins at the last place at which one is found
pub last_begins : (m : Mark) (text : List ℕ) (n : ℕ) → last_mark m text ≡ Some n → begins_as m (drop n text) ≡ true
last_begins m [] n e = cc
last_begins m (b ∷ bs) n e = last_by m b bs n (last_mark m bs) refl e (last_begins m bs)

-- ---- answers

-- a text in which a `:` is found is a front that has it, up to its end, and the rest
pub colon_found : (text : List ℕ) (n : ℕ) → first_mark mark.Colon text ≡ Some n → (front : List ℕ) × (rest : List ℕ) × (text ≡ front ++ rest) × (length front ≡ mark_end mark.Colon text n) × Has IsColon front
colon_found text n e =
    let (begins, within) = first_begins mark.Colon text n e in
    let (colons, rest, cut, width, is) = colon_by (drop n text) (begins_with colon (drop n text)) refl begins in
    let before : length (take n text) ≡ n = length-take-le n text (omega (arith, within)) in (
      take n text ++ colons,
      rest,
      sym (take-append-drop n text) ∙ ap (λ u. take n text ++ u) cut ∙ sym (append_assoc (take n text) colons rest),
      length-append (take n text) colons ∙ ap (λ k. k + length colons) before ∙ ap (λ k. n + k) (sym width),
      has_at_end IsColon (take n text) colons is,
    )

-- a text in which an `@` is found last has it from there
pub at_found : (text : List ℕ) (n : ℕ) → last_mark mark.At text ≡ Some n → Has IsAt (drop n text)
at_found text n e =
    let (sign, rest, cut, width, is) = at_by (drop n text) (begins_with at_sign (drop n text)) refl (last_begins mark.At text n e) in
    ([], sign, rest, cut, is)

-- a user is no longer than the text, whether its end is found or not
user_by : (text : List ℕ) (found : Option ℕ) → first_mark mark.UserEnd text ≡ found → unwrap_or found (length text) ≤ length text
user_by text None e = omega arith
user_by text (Some n) e = let (begins, within) = first_begins mark.UserEnd text n e in omega (arith, within)

-- a user at the front of a text is no longer than it
pub user_within : (text : List ℕ) → user_len text ≤ length text
user_within text = user_by text (first_mark mark.UserEnd text) refl
