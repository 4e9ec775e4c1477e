-- A path without one `/` at its end, and the paths below a path.
use Rattle.std.proofs.Common.{◌≡◌, ℕ, ◌==◌, ◌↔◌, ◌⊎◌, inl, inr, List, [], ◌∷◌, ◌++◌, length, refl, sym, ap, ◌∙◌, append-nil, Bool, true, false, IsTrue}
use Rattle.std.proofs.lemmas.Bool.{both_ways, cases_Bool, eqb-true}
use Rattle.std.proofs.lemmas.List.{append_cancel_left}
use Rattle.git_syntax.specs.Bytes.{slash, begins_with}
use Rattle.git_syntax.proofs.Texts.CutLemmas.{begins_cut}
use Rattle.git_rules.specs.Patterns.{IsBelow, without_last_slash}
use Rattle.git_rules.proofs.Entries.KeyLemmas.{empty_is}

-- a last `/` is left out
pub without-slash : (front : List ℕ) → without_last_slash (front ++ slash ∷ []) ≡ front
without-slash [] = refl
without-slash (b ∷ []) = refl
without-slash (b ∷ c ∷ bs) = ap (λ z. b ∷ z) (without-slash (c ∷ bs))

-- a path with another end is left as it is
pub without-other : (path : List ℕ) → ((front : List ℕ) → ¬ (path ≡ front ++ slash ∷ [])) → without_last_slash path ≡ path
without-other [] other = refl
without-other (b ∷ []) other =
    elim (cases_Bool (b == slash)) [
      | inl same ↦ absurd (other [] (ap (λ d. d ∷ []) (eqb-true b slash same)))
      | inr differs ↦ rw differs refl
    ]
without-other (b ∷ c ∷ bs) other =
    ap (λ z. b ∷ z) (without-other (c ∷ bs) (λ front e. other (b ∷ front) (ap (λ z. b ∷ z) e)))

-- a path below a path begins with it
pub below_begins : (front path : List ℕ) → IsBelow front path → (rest : List ℕ) × (path ≡ front ++ rest)
below_begins front path (inl same) = ([], same ∙ sym (append-nil front))
below_begins front path (inr (rest, joined)) = (slash ∷ rest, joined)

-- a text that begins with a path is below it if it ends there, or goes on with a `/`
pub below_rest : (front path rest : List ℕ) → path ≡ front ++ rest → IsBelow front path ↔ ((rest ≡ []) ⊎ (begins_with slash rest ≡ true))
below_rest front path rest joined = (
  λ below. elim below [
    | inl same ↦ inl (append_cancel_left front rest [] (sym joined ∙ same ∙ sym (append-nil front)))
    | inr (suffix, cut) ↦ inr (ap (begins_with slash) (append_cancel_left front rest (slash ∷ suffix) (sym joined ∙ cut)))
  ],
  λ ends. elim ends [
    | inl none ↦ inl (joined ∙ ap (λ z. front ++ z) none ∙ append-nil front)
    | inr more ↦ let cut = begins_cut slash rest more in inr (cut.0, joined ∙ ap (λ z. front ++ z) cut.1)
  ],
)

-- nothing that doesn't begin with a path is below it
pub below_none : (front path : List ℕ) → ((rest : List ℕ) → ¬ (path ≡ front ++ rest)) → IsTrue false ↔ IsBelow front path
below_none front path never = (
  λ wrong. absurd (both_ways false refl wrong),
  λ below. let begins = below_begins front path below in absurd (never begins.0 begins.1),
)

-- if nothing is left, it is the path
pub below_ends : (front path rest : List ℕ) (r : Bool) → path ≡ front ++ rest → r ≡ (length rest == 0) → r ≡ true → IsTrue r ↔ IsBelow front path
below_ends front path rest r joined test all = (
  λ same. (below_rest front path rest joined).1 (inl (empty_is rest (sym test ∙ all))),
  λ below. all,
)

-- if something is left, it is below the path if it begins with a `/`
pub below_goes_on : (front path rest : List ℕ) (r more : Bool) → path ≡ front ++ rest → r ≡ (length rest == 0) → r ≡ false → more ≡ begins_with slash rest → IsTrue more ↔ IsBelow front path
below_goes_on front path rest r more joined test some begins = (
  λ goes. (below_rest front path rest joined).1 (inr (sym begins ∙ goes)),
  λ below.
      elim ((below_rest front path rest joined).0 below) [
        | inl none ↦ absurd (both_ways r some (test ∙ ap (λ z. length z == 0) none))
        | inr goes ↦ begins ∙ goes
      ],
)
