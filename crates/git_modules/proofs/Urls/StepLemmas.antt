-- Steps at the front of a URL: which they are, and that the text determines them.
use Rattle.std.proofs.Common.{◌≡◌, ◌∙◌, ℕ, Bool, true, false, ◌==◌, ◌||◌, ◌&&◌, ◌⊎◌, inl, inr, List, [], ◌∷◌, ◌++◌, refl, sym, ap, subst, append_assoc, append-nil, bytes_eq, codes}
use Rattle.std.specs.List.{concat, list_all, list_any}
use Rattle.std.proofs.Math.Bool.{or-false}
use Rattle.std.proofs.lemmas.Bool.{eqb-true, and_parts, and_from}
use Rattle.std.proofs.lemmas.List.Folds.{list_any-append}
use Rattle.std.proofs.lemmas.Slice.Eq.{bytes_eq-Decides}
use Rattle.git_syntax.specs.Bytes.{dot, slash, backslash, begins_by, is_option_like, is_any_slash}
use Rattle.git_syntax.proofs.Texts.CutLemmas.{heads, tails}
use Rattle.git_modules.proofs.Urls.FeedLemmas.{clash, one_holds}
use Rattle.git_modules.specs.SubmoduleUrls.{DecodesToLines, IsOwnUrl, IsRefusedUrl, IsRelative, LacksHost, ReplacesHost, is_colon_or_slash, is_step, is_step_up}

-- a step by its form: the separator, with one dot before it or two
pub data StepForm (s : List ℕ) : Type 0 where
  one_dot : (x : ℕ) → is_any_slash x ≡ true → s ≡ dot ∷ x ∷ [] → is_step_up s ≡ false → StepForm s
  two_dots : (x : ℕ) → is_any_slash x ≡ true → s ≡ dot ∷ dot ∷ x ∷ [] → is_step_up s ≡ true → StepForm s

-- the text that a word is
is_text : (s word : List ℕ) → bytes_eq s word ≡ true → s ≡ word
is_text s word h = (bytes_eq-Decides s word).0 h

-- each step has its form
pub step_form : (s : List ℕ) → is_step s ≡ true → StepForm s
step_form s h =
    elim (one_holds (is_step_up s) (bytes_eq s (codes "./") || bytes_eq s (codes ".\\")) h) [
      | inl is_up ↦ elim (one_holds (bytes_eq s (codes "../")) (bytes_eq s (codes "..\\")) is_up) [
        | inl e ↦ StepForm.two_dots slash refl (is_text s (codes "../") e) is_up
        | inr e ↦ StepForm.two_dots backslash refl (is_text s (codes "..\\") e) is_up
      ]
      | inr is_here ↦ elim (one_holds (bytes_eq s (codes "./")) (bytes_eq s (codes ".\\")) is_here) [
        | inl e ↦ StepForm.one_dot slash refl (is_text s (codes "./") e) (ap is_step_up (is_text s (codes "./") e))
        | inr e ↦ StepForm.one_dot backslash refl (is_text s (codes ".\\") e) (ap is_step_up (is_text s (codes ".\\") e))
      ]
    ]

-- a separator is one of two bytes
separators : (x : ℕ) → is_any_slash x ≡ true → (x ≡ slash) ⊎ (x ≡ backslash)
separators x h =
    elim (one_holds (x == slash) (x == backslash) h) [
      | inl e ↦ inl (eqb-true x slash e)
      | inr e ↦ inr (eqb-true x backslash e)
    ]

-- a text that has the form of a step is one
pub step_here : (x : ℕ) → is_any_slash x ≡ true → (is_step (dot ∷ x ∷ []) ≡ true) × (false ≡ is_step_up (dot ∷ x ∷ []))
step_here x h =
    elim (separators x h) [
      | inl e ↦ subst (λ y. (is_step (dot ∷ y ∷ []) ≡ true) × (false ≡ is_step_up (dot ∷ y ∷ []))) (sym e) (refl, refl)
      | inr e ↦ subst (λ y. (is_step (dot ∷ y ∷ []) ≡ true) × (false ≡ is_step_up (dot ∷ y ∷ []))) (sym e) (refl, refl)
    ]

pub step_up : (x : ℕ) → is_any_slash x ≡ true → (is_step (dot ∷ dot ∷ x ∷ []) ≡ true) × (true ≡ is_step_up (dot ∷ dot ∷ x ∷ []))
step_up x h =
    elim (separators x h) [
      | inl e ↦ subst (λ y. (is_step (dot ∷ dot ∷ y ∷ []) ≡ true) × (true ≡ is_step_up (dot ∷ dot ∷ y ∷ []))) (sym e) (refl, refl)
      | inr e ↦ subst (λ y. (is_step (dot ∷ dot ∷ y ∷ []) ≡ true) × (true ≡ is_step_up (dot ∷ dot ∷ y ∷ []))) (sym e) (refl, refl)
    ]

-- a dot isn't a separator
dot_apart : {A : Type 0} (x : ℕ) → is_any_slash x ≡ true → x ≡ dot → A
dot_apart x h e = absurd (clash (is_any_slash dot) (subst (λ y. is_any_slash y ≡ true) e h) refl)

-- a text begins with one step at most
pub step_same : (s other x y : List ℕ) → StepForm s → StepForm other → s ++ x ≡ other ++ y → (s ≡ other) × (x ≡ y)
step_same s other x y (StepForm.one_dot a h e n) (StepForm.one_dot b k e' n') whole =
    let joined : dot ∷ a ∷ x ≡ dot ∷ b ∷ y = ap (λ t. t ++ x) (sym e) ∙ whole ∙ ap (λ t. t ++ y) e' in
    (e ∙ ap (λ c. dot ∷ c ∷ []) (heads (tails joined)) ∙ sym e', tails (tails joined))
step_same s other x y (StepForm.two_dots a h e n) (StepForm.two_dots b k e' n') whole =
    let joined : dot ∷ dot ∷ a ∷ x ≡ dot ∷ dot ∷ b ∷ y = ap (λ t. t ++ x) (sym e) ∙ whole ∙ ap (λ t. t ++ y) e' in
    (e ∙ ap (λ c. dot ∷ dot ∷ c ∷ []) (heads (tails (tails joined))) ∙ sym e', tails (tails (tails joined)))
step_same s other x y (StepForm.one_dot a h e n) (StepForm.two_dots b k e' n') whole =
    let joined : dot ∷ a ∷ x ≡ dot ∷ dot ∷ b ∷ y = ap (λ t. t ++ x) (sym e) ∙ whole ∙ ap (λ t. t ++ y) e' in
    dot_apart a h (heads (tails joined))
step_same s other x y (StepForm.two_dots a h e n) (StepForm.one_dot b k e' n') whole =
    let joined : dot ∷ dot ∷ a ∷ x ≡ dot ∷ b ∷ y = ap (λ t. t ++ x) (sym e) ∙ whole ∙ ap (λ t. t ++ y) e' in
    dot_apart b k (sym (heads (tails joined)))

-- steps and one more are steps
all_push : (steps : List (List ℕ)) (step : List ℕ) → list_all is_step steps ≡ true → is_step step ≡ true → list_all is_step (steps ++ step ∷ []) ≡ true
all_push [] step h k = and_from _ _ k refl
all_push (s ∷ steps) step h k =
    let parts = and_parts (is_step s) (list_all is_step steps) h in
    and_from _ _ parts.0 (all_push steps step parts.1 k)

-- so are they joined
concat_push : (steps : List (List ℕ)) (step : List ℕ) → concat (steps ++ step ∷ []) ≡ concat steps ++ step
concat_push [] step = append-nil step
concat_push (s ∷ steps) step = ap (λ x. s ++ x) (concat_push steps step) ∙ sym (append_assoc s (concat steps) step)

-- a step begins with a dot, so a text that begins with a `:` or a `/` doesn't begin with one
pub no_step : {A : Type 0} (s rest t : List ℕ) → is_step s ≡ true → t ≡ s ++ rest → begins_by is_colon_or_slash t ≡ true → A
no_step s rest t h e begins =
    elim (step_form s h) [
      | StepForm.one_dot x is form n ↦ absurd (clash (begins_by is_colon_or_slash (dot ∷ x ∷ rest)) (subst (λ u. begins_by is_colon_or_slash u ≡ true) (e ∙ ap (λ u. u ++ rest) form) begins) refl)
      | StepForm.two_dots x is form n ↦ absurd (clash (begins_by is_colon_or_slash (dot ∷ dot ∷ x ∷ rest)) (subst (λ u. begins_by is_colon_or_slash u ≡ true) (e ∙ ap (λ u. u ++ rest) form) begins) refl)
    ]

-- the steps before a rest that begins with none are all that precede a `:` or a `/`
pub steps_same : (steps others : List (List ℕ)) (x y : List ℕ) → list_all is_step steps ≡ true → list_all is_step others ≡ true → ((s rest : List ℕ) → is_step s ≡ true → ¬ (x ≡ s ++ rest)) → begins_by is_colon_or_slash y ≡ true → concat steps ++ x ≡ concat others ++ y → (steps ≡ others) × (x ≡ y)
steps_same [] [] x y h k none begins e = (refl, e)
steps_same [] (s ∷ others) x y h k none begins e =
    let parts = and_parts (is_step s) (list_all is_step others) k in
    absurd (none s (concat others ++ y) parts.0 (e ∙ append_assoc s (concat others) y))
steps_same (s ∷ steps) [] x y h k none begins e =
    let parts = and_parts (is_step s) (list_all is_step steps) h in
    no_step s (concat steps ++ x) y parts.0 (sym e ∙ append_assoc s (concat steps) x) begins
steps_same (s ∷ steps) (other ∷ others) x y h k none begins e =
    let parts = and_parts (is_step s) (list_all is_step steps) h in
    let parts' = and_parts (is_step other) (list_all is_step others) k in
    let one = step_same s other (concat steps ++ x) (concat others ++ y) (step_form s parts.0) (step_form other parts'.0) (sym (append_assoc s (concat steps) x) ∙ e ∙ append_assoc other (concat others) y) in
    let rest = steps_same steps others x y parts.1 parts'.1 none begins one.1 in
    (ap (λ a. a ∷ steps) one.0 ∙ ap (λ a. other ∷ a) rest.0, rest.1)

-- a step of one dot, and the text after it
pub found_here : (t suffix rest : List ℕ) (x : ℕ) → t ≡ dot ∷ suffix → is_any_slash x ≡ true → suffix ≡ x ∷ rest → (step : List ℕ) × (is_step step ≡ true) × (false ≡ is_step_up step) × (t ≡ step ++ rest)
found_here t suffix rest x e is e' = (dot ∷ x ∷ [], (step_here x is).0, (step_here x is).1, e ∙ ap (λ u. dot ∷ u) e')

-- a step up, and the text after it
pub found_up : (t suffix more rest : List ℕ) (x : ℕ) → t ≡ dot ∷ suffix → suffix ≡ dot ∷ more → is_any_slash x ≡ true → more ≡ x ∷ rest → (step : List ℕ) × (is_step step ≡ true) × (true ≡ is_step_up step) × (t ≡ step ++ rest)
found_up t suffix more rest x e e' is e'' = (dot ∷ dot ∷ x ∷ [], (step_up x is).0, (step_up x is).1, e ∙ ap (λ u. dot ∷ u) (e' ∙ ap (λ u. dot ∷ u) e''))

-- a text is steps and a rest, and this is whether one of the steps goes up
abbrev pub HasSteps : List ℕ → List ℕ → Bool → Type 0
HasSteps t rest up = (steps : List (List ℕ)) × (list_all is_step steps ≡ true) × (up ≡ list_any is_step_up steps) × (t ≡ concat steps ++ rest)

-- one step more
pub steps_more : (t rest suffix : List ℕ) (up is_up : Bool) → (steps : List (List ℕ)) × (list_all is_step steps ≡ true) × (up ≡ list_any is_step_up steps) × (t ≡ concat steps ++ rest) → (step : List ℕ) × (is_step step ≡ true) × (is_up ≡ is_step_up step) × (rest ≡ step ++ suffix) → (steps : List (List ℕ)) × (list_all is_step steps ≡ true) × ((up || is_up) ≡ list_any is_step_up steps) × (t ≡ concat steps ++ suffix)
steps_more t rest suffix up is_up (steps, all, some, joined) (step, is, this, here) = (
  steps ++ step ∷ [],
  all_push steps step all is,
  ap (λ x. x || is_up) some ∙ ap (λ x. list_any is_step_up steps || x) (this ∙ sym (or-false (is_step_up step))) ∙ sym (list_any-append is_step_up steps (step ∷ [])),
  joined ∙ ap (λ x. concat steps ++ x) here ∙ sym (append_assoc (concat steps) step suffix) ∙ ap (λ x. x ++ suffix) (sym (concat_push steps step)),
)

-- whether the steps replace a host
pub steps_tell : (t rest : List ℕ) (up : Bool) → (steps : List (List ℕ)) × (list_all is_step steps ≡ true) × (up ≡ list_any is_step_up steps) × (t ≡ concat steps ++ rest) → ((step more : List ℕ) → is_step step ≡ true → ¬ (rest ≡ step ++ more)) → ((up && begins_by is_colon_or_slash rest) ≡ true → ReplacesHost t) × (ReplacesHost t → (up && begins_by is_colon_or_slash rest) ≡ true)
steps_tell t rest up (steps, all, some, joined) none = (
  λ e.
      let both = and_parts up (begins_by is_colon_or_slash rest) e in
      record { steps = steps; rest = rest; joined = joined; are = all; up = sym some ∙ both.0; begins = both.1 },
  λ h.
      let same = steps_same steps h.steps rest h.rest all h.are none h.begins (sym joined ∙ h.joined) in
      and_from _ _ (some ∙ ap (list_any is_step_up) same.0 ∙ h.up) (ap (begins_by is_colon_or_slash) same.1 ∙ h.begins),
)

last_of_all : (t : List ℕ) (a b c d : Bool) → a ≡ is_option_like t → (b ≡ true → (IsRelative t ⊎ IsOwnUrl t) × DecodesToLines t) × ((IsRelative t ⊎ IsOwnUrl t) × DecodesToLines t → b ≡ true) → (c ≡ true → ReplacesHost t) × (ReplacesHost t → c ≡ true) → (d ≡ true → LacksHost t) × (LacksHost t → d ≡ true) → a ≡ false → b ≡ false → c ≡ false → IsRefusedUrl t → d ≡ true
last_of_all t a b c d same second third fourth p q r (IsRefusedUrl.option h) = absurd (clash a (same ∙ h) p)
last_of_all t a b c d same second third fourth p q r (IsRefusedUrl.several_lines h k) = absurd (clash b (second.1 (h, k)) q)
last_of_all t a b c d same second third fourth p q r (IsRefusedUrl.other_host h) = absurd (clash c (third.1 h) r)
last_of_all t a b c d same second third fourth p q r (IsRefusedUrl.no_host h) = fourth.1 h

-- a URL is refused for the last of four reasons if it isn't for another
pub refused_last : (t : List ℕ) (a b c d : Bool) → a ≡ is_option_like t → (b ≡ true → (IsRelative t ⊎ IsOwnUrl t) × DecodesToLines t) × ((IsRelative t ⊎ IsOwnUrl t) × DecodesToLines t → b ≡ true) → (c ≡ true → ReplacesHost t) × (ReplacesHost t → c ≡ true) → (d ≡ true → LacksHost t) × (LacksHost t → d ≡ true) → a ≡ false → b ≡ false → c ≡ false → (d ≡ true → IsRefusedUrl t) × (IsRefusedUrl t → d ≡ true)
refused_last t a b c d same second third fourth p q r = (λ e. IsRefusedUrl.no_host (fourth.0 e), λ h. last_of_all t a b c d same second third fourth p q r h)
