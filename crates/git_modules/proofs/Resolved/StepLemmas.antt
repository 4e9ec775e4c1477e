-- The steps at the front of a URL: the rest after one of them.
use Rattle.std.proofs.Common.{◌≡◌, ℕ, ◌==◌, inl, inr, suc, List, [], ◌∷◌, Option, Some, None, option_map, refl, sym, ap, ◌∙◌}
use Rattle.std.proofs.lemmas.Bool.{cases_Bool, eqb-true, eq-eqb}
use Rattle.std.proofs.lemmas.Option.{option_and_then_some, same_Some}
use Rattle.std.specs.Borrow.{Bor}
use Rattle.git_syntax.specs.Bytes.{dot, slash}
use Rattle.git_syntax.specs.Internal.Cuts.{StripsFirst}
use Rattle.git_syntax.proofs.Texts.CutLemmas.{heads, tails}
use Rattle.git_modules.specs.ResolveSteps.{past_byte, after_here, after_steps, after_up, ups}

-- the text that is cut after a first byte
pub strips_first : (c : ℕ) (text : List ℕ) (found : Option (Bor (List ℕ))) → StripsFirst c text found → option_map (λ t. t.now) found ≡ past_byte c text
strips_first c [] None h = refl
strips_first c (b ∷ bs) None h = rw h refl
strips_first c [] (Some rest) h = cc
strips_first c (b ∷ bs) (Some rest) h = rw (eq-eqb b c (heads h)) (ap (λ r. Some r) (sym (tails h)))

-- a text begins with the byte that is cut off
pub after_byte_begins : (c : ℕ) (text rest : List ℕ) → past_byte c text ≡ Some rest → text ≡ c ∷ rest
after_byte_begins c [] rest e = cc
after_byte_begins c (b ∷ bs) rest e =
    elim (cases_Bool (b == c)) [
      | inl same ↦ let cut : Some bs ≡ Some rest = rw same at e in ap (λ d. d ∷ bs) (eqb-true b c same) ∙ ap (λ r. c ∷ r) (same_Some bs rest cut)
      | inr differs ↦ let cut : None ≡ Some rest = rw differs at e in cc
    ]

-- the same of a `./`
pub after_here_joined : (text rest : List ℕ) → after_here text ≡ Some rest → text ≡ dot ∷ (slash ∷ rest)
after_here_joined text rest e =
    option_and_then_some (past_byte slash) (past_byte dot text) rest e (λ x f g.
    after_byte_begins dot text x f ∙ ap (λ z. dot ∷ z) (after_byte_begins slash x rest g))
