-- The rest of a parent is a front of it.
use Rattle.std.proofs.Common.{◌≡◌, ℕ, ◌==◌, ◌⊎◌, inl, inr, suc, zero, Bool, true, false, List, [], ◌∷◌, ◌++◌, Option, Some, None, IfSome, bytes_eq, refl, sym, ap, subst, ◌∙◌, append_assoc}
use Rattle.std.proofs.lemmas.Bool.{cases_Bool, eqb-true}
use Rattle.std.proofs.lemmas.Option.{option_and_then_some, same_Some}
use Rattle.git_syntax.specs.Bytes.{colon, dot, slash, FreeOf, begins_with}
use Rattle.git_syntax.proofs.Texts.CutLemmas.{free-cons, free_parts, not_free}
use Rattle.git_rules.specs.Patterns.{without_last_slash}
use Rattle.git_modules.specs.declared.resolve.left.ParentForm.{ParentForm}
use Rattle.git_modules.specs.declared.resolve.left.ParentForm.TheVariants.{Rooted, Upward, Downward}
use Rattle.git_modules.specs.ResolveParents.{LeftOver, before_last, chop, chop_by, chop_element, chopped, or_before, without_colon}

-- nothing is before a last byte: it isn't there
or_before_none : (c b : ℕ) (found : Option (List ℕ)) → or_before c b found ≡ None → (found ≡ None) × ((b == c) ≡ false)
or_before_none c b (Some front) e = cc
or_before_none c b None e =
    elim (cases_Bool (b == c)) [
      | inl same ↦ let wrong : Some [] ≡ None = rw same at e in cc
      | inr differs ↦ (refl, differs)
    ]

pub before_last_none : (c : ℕ) (text : List ℕ) → before_last c text ≡ None → FreeOf c text
before_last_none c [] e = refl
before_last_none c (b ∷ bs) e =
    let parts = or_before_none c b (before_last c bs) e in free-cons c b bs parts.1 (before_last_none c bs parts.0)

-- something is before a last byte: in the text after, or the byte is the first
or_before_some : (c b : ℕ) (found : Option (List ℕ)) (front : List ℕ) → or_before c b found ≡ Some front → ((rest : List ℕ) × (found ≡ Some rest) × (front ≡ b ∷ rest)) ⊎ ((b ≡ c) × (front ≡ []))
or_before_some c b (Some rest) front e = inl (rest, refl, sym (same_Some (b ∷ rest) front e))
or_before_some c b None front e =
    elim (cases_Bool (b == c)) [
      | inl same ↦ let none : Some [] ≡ Some front = rw same at e in inr (eqb-true b c same, sym (same_Some [] front none))
      | inr differs ↦ let wrong : None ≡ Some front = rw differs at e in cc
    ]

pub before_last_some : (c : ℕ) (text front : List ℕ) → before_last c text ≡ Some front → (rest : List ℕ) × (text ≡ front ++ c ∷ rest)
before_last_some c [] front e = cc
before_last_some c (b ∷ bs) front e =
    elim (or_before_some c b (before_last c bs) front e) [
      | inl (first, found, joined) ↦
          let cut = before_last_some c bs first found in
          (cut.0, ap (λ z. b ∷ z) cut.1 ∙ ap (λ z. z ++ c ∷ cut.0) (sym joined))
      | inr (same, none) ↦ (bs, ap (λ z. z ∷ bs) same ∙ ap (λ z. z ++ c ∷ bs) (sym none))
    ]

-- the text that was removed begins with a `:` if a `:` was removed, and else with a `/`, if the text ends so
-- too
abbrev pub Follows : List ℕ → Bool → List ℕ → Type 0
Follows whole true rest = begins_with colon rest ≡ true
Follows whole false rest = ((rest ≡ []) × (without_last_slash whole ≡ whole)) ⊎ (begins_with slash rest ≡ true)

-- the rest is a front of the whole, and has no `/` if a `:` was taken off
pub record IsLeftOf (whole : List ℕ) (left : LeftOver) : Type 0 where
  pub front : IfSome left.text (λ text. (rest : List ℕ) × (whole ≡ text ++ rest) × Follows whole left.by_colon rest)
  pub no_slash : left.by_colon ≡ true → IfSome left.text (λ text. FreeOf slash text)

-- a front of a front is one
shorter : (whole text rest front suffix : List ℕ) (c : ℕ) → whole ≡ text ++ rest → text ≡ front ++ c ∷ suffix → whole ≡ front ++ c ∷ (suffix ++ rest)
shorter whole text rest front suffix c e f = e ∙ ap (λ z. z ++ rest) f ∙ append_assoc front (c ∷ suffix) rest

-- a `/` is taken off if no `:` was
follows_slash : (whole rest : List ℕ) (by_colon : Bool) → (by_colon ≡ true → ⊥) → Follows whole by_colon (slash ∷ rest)
follows_slash whole rest true no_colon = absurd (no_colon refl)
follows_slash whole rest false no_colon = inr refl

-- a `:` is taken off a text without `/`
colon_left : (whole text rest : List ℕ) (by_colon : Bool) (found : Option (List ℕ)) (left : LeftOver) → whole ≡ text ++ rest → FreeOf slash text → before_last colon text ≡ found → without_colon found text by_colon ≡ Some left → IsLeftOf whole left
colon_left whole text rest by_colon (Some front) left e free f h =
    let cut = before_last_some colon text front f in
    let parts = free_parts slash front (colon ∷ cut.0) (subst (λ z. FreeOf slash z) cut.1 free) in
    let is : LeftOver = record { text = Some front; by_colon = true } in
    subst (λ z. IsLeftOf whole z) (same_Some is left h) (record { front = (colon ∷ (cut.0 ++ rest), shorter whole text rest front cut.0 colon e cut.1, refl); no_slash = λ _. parts.0 })
colon_left whole text rest by_colon None left e free f h =
    elim (cases_Bool (bytes_eq text (dot ∷ []))) [
      | inl same ↦ let wrong : None ≡ Some left = rw same at h in cc
      | inr differs ↦
          let is : LeftOver = record { text = None; by_colon = by_colon } in
          let some : Some is ≡ Some left = rw differs at h in
          subst (λ z. IsLeftOf whole z) (same_Some is left some) (record { front = tt; no_slash = λ _. tt })
    ]

-- an element is taken off a text without `/`
element_left : (form : ParentForm) (whole text rest : List ℕ) (by_colon : Bool) (left : LeftOver) → whole ≡ text ++ rest → FreeOf slash text → chop_element form text by_colon ≡ Some left → IsLeftOf whole left
element_left Upward whole text rest by_colon left e free h = cc
element_left Downward whole text rest by_colon left e free h =
    let is : LeftOver = record { text = None; by_colon = by_colon } in
    subst (λ z. IsLeftOf whole z) (same_Some is left h) (record { front = tt; no_slash = λ _. tt })
element_left Rooted whole text rest by_colon left e free h =
    colon_left whole text rest by_colon (before_last colon text) left e free refl h

-- a `../` takes off the last `/`, or an element
by_left : (form : ParentForm) (whole text rest : List ℕ) (by_colon : Bool) (found : Option (List ℕ)) (left : LeftOver) → whole ≡ text ++ rest → (by_colon ≡ true → FreeOf slash text) → before_last slash text ≡ found → chop_by form text by_colon found ≡ Some left → IsLeftOf whole left
by_left form whole text rest by_colon (Some front) left e free f h =
    let cut = before_last_some slash text front f in
    let is : LeftOver = record { text = Some front; by_colon = by_colon } in
    subst (λ z. IsLeftOf whole z) (same_Some is left h) (record {
      front = (slash ∷ (cut.0 ++ rest), shorter whole text rest front cut.0 slash e cut.1, follows_slash whole (cut.0 ++ rest) by_colon (λ c. not_free slash front cut.0 (subst (λ z. FreeOf slash z) cut.1 (free c))));
      no_slash = λ c. absurd (not_free slash front cut.0 (subst (λ z. FreeOf slash z) cut.1 (free c)));
    })
by_left form whole text rest by_colon None left e free f h =
    element_left form whole text rest by_colon left e (before_last_none slash text f) h

-- one `../` leaves a front
chop_left : (form : ParentForm) (whole : List ℕ) (text : Option (List ℕ)) (by_colon : Bool) (left : LeftOver) → IsLeftOf whole (record { text = text; by_colon = by_colon }) → chop form (record { text = text; by_colon = by_colon }) ≡ Some left → IsLeftOf whole left
chop_left form whole None by_colon left h e = cc
chop_left form whole (Some text) by_colon left h e =
    by_left form whole text h.front.0 by_colon (before_last slash text) left h.front.1 h.no_slash refl e

-- and so do many
pub chopped_left : (form : ParentForm) (whole : List ℕ) (n : ℕ) (from left : LeftOver) → IsLeftOf whole from → chopped form n from ≡ Some left → IsLeftOf whole left
chopped_left form whole zero from left h e = subst (λ z. IsLeftOf whole z) (same_Some from left e) h
chopped_left form whole (suc n) from left h e =
    option_and_then_some (chopped form n) (chop form from) left e (λ next f g.
    chopped_left form whole n next left (chop_left form whole from.text from.by_colon next h f) g)
