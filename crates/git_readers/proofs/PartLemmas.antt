-- Labels and segments by the dots and slashes between them.
use Rattle.std.proofs.Common.{◌≡◌, ◌∙◌, ◌<◌, ◌==◌, ◌&&◌, ◌||◌, Bool, not, zero, suc, ◌⊎◌, ℕ, true, false, List, [], ◌∷◌, ◌++◌, inl, inr, refl, sym, ap, subst, arith, codes, length, append_assoc}
use Rattle.std.proofs.lemmas.Bool.{both_ways, false≢true, or_right}
use Rattle.std.proofs.lemmas.List.{append-nil}
use Rattle.std.proofs.lemmas.Bool.Decides.{nat_tests}
use Rattle.std.specs.List.{list_all}
use Rattle.std.specs.Char.{is_ascii_digit, is_ascii_lowercase}
use Rattle.git_syntax.specs.Bytes.{dot, slash, FreeOf, Holds, begins_by, begins_with}
use Rattle.git_syntax.proofs.Texts.CutLemmas.{cut_unique, free_head_tail, free_of_all, free_or_cut, not_free}
use Rattle.git_readers.specs.Unambiguous.{AreLabels, HasDots, HasSlashBefore, IsPlainLabel, is_label_byte, slashes}
use Rattle.git_class.specs.WebClass.{IsDots}

-- ---- labels

-- a plain label is free of dots
pub label_free : (label : List ℕ) → IsPlainLabel label → FreeOf dot label
label_free label plain = free_of_all is_label_byte dot label plain.bytes refl

-- labels are cut at the first dot
pub labels_cut : (t label rest : List ℕ) → FreeOf dot label → t ≡ label ++ dot ∷ rest → AreLabels t → IsPlainLabel label × AreLabels rest
labels_cut t label rest free joined (AreLabels.last _ plain letter) =
    absurd (not_free dot label rest (subst (λ y. FreeOf dot y) joined (label_free t plain)))
labels_cut t label rest free joined (AreLabels.more x l r plain others e) =
    let same = cut_unique dot l label r rest (label_free l plain) free (sym e ∙ joined) in
    (subst IsPlainLabel same.0 plain, subst AreLabels same.1 others)

-- without a dot there is one label
pub label_alone : (t : List ℕ) → FreeOf dot t → AreLabels t → IsPlainLabel t × (begins_by is_ascii_lowercase t ≡ true)
label_alone t free (AreLabels.last x plain letter) = (plain, letter)
label_alone t free (AreLabels.more x l r plain others e) = absurd (not_free dot l r (subst (λ y. FreeOf dot y) e free))

-- ---- numbers

-- digits before a byte that is none are the text before the first such byte
pub number_same : (c : ℕ) (digits rest front suffix : List ℕ) → is_ascii_digit c ≡ false → list_all is_ascii_digit digits ≡ true → FreeOf c front → digits ++ c ∷ rest ≡ front ++ c ∷ suffix → digits ≡ front
number_same c digits rest front suffix other all free joined =
    (cut_unique c digits front rest suffix (free_of_all is_ascii_digit c digits all other) free joined).0

-- so that is of digits
pub number_first : (c : ℕ) (digits rest front suffix : List ℕ) → is_ascii_digit c ≡ false → list_all is_ascii_digit digits ≡ true → FreeOf c front → digits ++ c ∷ rest ≡ front ++ c ∷ suffix → list_all is_ascii_digit front ≡ true
number_first c digits rest front suffix other all free joined =
    subst (λ x. list_all is_ascii_digit x ≡ true) (number_same c digits rest front suffix other all free joined) all

-- and the rest is the rest
pub number_rest : (c : ℕ) (digits rest front suffix : List ℕ) → is_ascii_digit c ≡ false → list_all is_ascii_digit digits ≡ true → FreeOf c front → digits ++ c ∷ rest ≡ front ++ c ∷ suffix → rest ≡ suffix
number_rest c digits rest front suffix other all free joined =
    (cut_unique c digits front rest suffix (free_of_all is_ascii_digit c digits all other) free joined).1

-- ---- segments

-- a text with a byte isn't empty
pub no_cons : {b : ℕ} {x : List ℕ} → ¬ (b ∷ x ≡ [])
no_cons e = absurd (omega (arith, ap length e))

-- `.` and `..` are free of slashes
pub dots_free : (segment : List ℕ) → IsDots segment → FreeOf slash segment
dots_free segment (inl one) = subst (λ y. FreeOf slash y) (sym one) refl
dots_free segment (inr two) = subst (λ y. FreeOf slash y) (sym two) refl

-- nothing isn't such a segment
pub no_empty_dots : ¬ IsDots []
no_empty_dots (inl one) = no_cons (sym one)
no_empty_dots (inr two) = no_cons (sym two)

-- a segment after a `/` is in the rest after the first one
later_dots : (segment rest front r : List ℕ) → FreeOf slash segment → segment ++ slash ∷ rest ≡ front ++ slash ∷ r → HasDots r → HasDots rest
later_dots segment rest front r free joined has = elim (free_or_cut slash front) [
  | inl none ↦ subst HasDots (sym (cut_unique slash segment front rest r free none joined).1) has
  | inr (x, y, none, e) ↦
      let whole = joined ∙ ap (λ z. z ++ slash ∷ r) e ∙ append_assoc x (slash ∷ y) (slash ∷ r) in
      HasDots.later rest y r has (cut_unique slash segment x rest (y ++ slash ∷ r) free none whole).1
]

-- segments are cut at the first `/`
pub dots_cut : (t segment rest : List ℕ) → FreeOf slash segment → t ≡ segment ++ slash ∷ rest → HasDots t → IsDots segment ⊎ HasDots rest
dots_cut t segment rest free joined (HasDots.whole x dots) =
    absurd (not_free slash segment rest (subst (λ y. FreeOf slash y) joined (dots_free t dots)))
dots_cut t segment rest free joined (HasDots.first x s r dots e) =
    inl (subst IsDots (cut_unique slash s segment r rest (dots_free s dots) free (sym e ∙ joined)).0 dots)
dots_cut t segment rest free joined (HasDots.later x f r has e) = inr (later_dots segment rest f r free (sym joined ∙ e) has)

-- without a `/` there is one segment
pub dots_alone : (t : List ℕ) → FreeOf slash t → HasDots t → IsDots t
dots_alone t free (HasDots.whole x dots) = dots
dots_alone t free (HasDots.first x s r dots e) = absurd (not_free slash s r (subst (λ y. FreeOf slash y) e free))
dots_alone t free (HasDots.later x f r has e) = absurd (not_free slash f r (subst (λ y. FreeOf slash y) e free))

-- a segment, or the text before another dot, ends before the text
abbrev stops : List ℕ → Bool
stops [] = true
stops (b ∷ bs) = b == slash || b == dot

-- a dot is in the text with such an end after it
abbrev holds_end_dot : List ℕ → Bool
holds_end_dot [] = false
holds_end_dot (b ∷ bs) = (b == dot && stops bs) || holds_end_dot bs

-- so it is in a text that has such a rest
end_dot_later : (front rest : List ℕ) → holds_end_dot rest ≡ true → holds_end_dot (front ++ slash ∷ rest) ≡ true
end_dot_later [] rest h = h
end_dot_later (b ∷ front) rest h = or_right (b == dot && stops (front ++ slash ∷ rest)) (holds_end_dot (front ++ slash ∷ rest)) (end_dot_later front rest h)

-- a segment of dots has one
dots_end : (path : List ℕ) → HasDots path → holds_end_dot path ≡ true
dots_end path (HasDots.whole _ (inl one)) = ap holds_end_dot one
dots_end path (HasDots.whole _ (inr two)) = ap holds_end_dot two
dots_end path (HasDots.first _ segment rest (inl one) e) = ap holds_end_dot (e ∙ ap (λ x. x ++ slash ∷ rest) one)
dots_end path (HasDots.first _ segment rest (inr two) e) = ap holds_end_dot (e ∙ ap (λ x. x ++ slash ∷ rest) two)
dots_end path (HasDots.later _ front rest has e) = ap holds_end_dot e ∙ end_dot_later front rest (dots_end rest has)

-- a text without a dot has none before the text after it
end_dot_after : (t rest : List ℕ) → FreeOf dot t → holds_end_dot (t ++ rest) ≡ holds_end_dot rest
end_dot_after [] rest free = refl
end_dot_after (b ∷ bs) rest free =
    let apart = free_head_tail dot b bs free in
    ap (λ x. (x && stops (bs ++ rest)) || holds_end_dot (bs ++ rest)) apart.0 ∙ end_dot_after bs rest apart.1

-- a path that has no dot but that of `.git` at its end has no segment of dots
pub no_dots_git : (path t : List ℕ) → path ≡ t ++ codes ".git" → FreeOf dot t → ¬ HasDots path
no_dots_git path t e free has = both_ways _ (ap holds_end_dot e ∙ end_dot_after t (codes ".git") free) (dots_end path has)

-- nor has one without a dot
pub no_dots_free : (path : List ℕ) → FreeOf dot path → ¬ HasDots path
no_dots_free path free has = both_ways _ (ap holds_end_dot (sym (append-nil path)) ∙ end_dot_after path [] free) (dots_end path has)

-- ---- two slashes

-- `//` begins at the first `/`, or is after it
pub slashes_cut : (t front suffix : List ℕ) → FreeOf slash front → t ≡ front ++ slash ∷ suffix → Holds slashes t → (begins_with slash suffix ≡ true) ⊎ Holds slashes suffix
slashes_cut t front suffix free joined (x, y, e) = elim (free_or_cut slash x) [
  | inl none ↦ inl (ap (λ z. begins_with slash z) (cut_unique slash front x suffix (slash ∷ y) free none (sym joined ∙ e)).1)
  | inr (p, q, none, cut) ↦
      let whole = sym joined ∙ e ∙ ap (λ z. z ++ (slashes ++ y)) cut ∙ append_assoc p (slash ∷ q) (slashes ++ y) in
      inr (q, y, (cut_unique slash front p suffix (q ++ (slashes ++ y)) free none whole).1)
]

-- `//` after a `/` is in the whole
pub slashes_later : (t front suffix : List ℕ) → t ≡ front ++ slash ∷ suffix → Holds slashes suffix → Holds slashes t
slashes_later t front suffix joined (x, y, e) =
    (front ++ slash ∷ x, y, joined ∙ ap (λ z. front ++ slash ∷ z) e ∙ sym (append_assoc front (slash ∷ x) (slashes ++ y)))

-- ---- a byte after a `/`

-- a text with a byte in it isn't empty
some_length : (q : List ℕ) (c : ℕ) (x : List ℕ) → 0 < length (q ++ c ∷ x)
some_length [] c x = omega arith
some_length (d ∷ q) c x = omega arith

-- the first `/` has a byte after it if one does
pub before_cut : (t front suffix : List ℕ) → FreeOf slash front → t ≡ front ++ slash ∷ suffix → HasSlashBefore t → 0 < length suffix
before_cut t front suffix free joined has = elim (free_or_cut slash has.front) [
  | inl none ↦ subst (λ x. 0 < length x) (sym (cut_unique slash front has.front suffix has.suffix free none (sym joined ∙ has.joined)).1) has.nonempty
  | inr (p, q, none, cut) ↦
      let whole = sym joined ∙ has.joined ∙ ap (λ z. z ++ slash ∷ has.suffix) cut ∙ append_assoc p (slash ∷ q) (slash ∷ has.suffix) in
      subst (λ x. 0 < length x) (sym (cut_unique slash front p suffix (q ++ slash ∷ has.suffix) free none whole).1) (some_length q slash has.suffix)
]

-- a length that isn't 0
pub some_from : (n : ℕ) → not (n == 0) ≡ true → 0 < n
some_from zero none = absurd (false≢true none)
some_from (suc n) some = omega arith

pub some_to : (n : ℕ) → 0 < n → not (n == 0) ≡ true
some_to zero none = absurd (omega (arith, none))
some_to (suc n) some = grind (arith, nat_tests)
