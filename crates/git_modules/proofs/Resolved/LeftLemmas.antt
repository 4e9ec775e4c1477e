-- The text before a last byte.
use Rattle.std.proofs.Common.{◌≡◌, ℕ, List, [], ◌∷◌, ◌++◌, Option, Some, None, option_map, refl, sym, ap, ◌∙◌}
use Rattle.std.proofs.lemmas.Bool.{eq-eqb}
use Rattle.std.specs.Borrow.{Bor}
use Rattle.git_syntax.specs.Bytes.{FreeOf}
use Rattle.git_syntax.specs.Internal.Cuts.{CutsAtLast}
use Rattle.git_syntax.proofs.Texts.CutLemmas.{free_head_tail}
use Rattle.git_modules.specs.ResolveParents.{before_last}

-- nothing precedes a byte that isn't there
pub before_last_free : (c : ℕ) (text : List ℕ) → FreeOf c text → before_last c text ≡ None
before_last_free c [] free = refl
before_last_free c (b ∷ bs) free =
    let parts = free_head_tail c b bs free in rw (before_last_free c bs parts.1) (rw parts.0 refl)

-- the text before the last byte
pub before_last_cut : (c : ℕ) (front rest : List ℕ) → FreeOf c rest → before_last c (front ++ c ∷ rest) ≡ Some front
before_last_cut c [] rest free = rw (before_last_free c rest free) (rw (eq-eqb c c refl) refl)
before_last_cut c (b ∷ front) rest free = rw (before_last_cut c front rest free) refl

-- a cut at the last byte finds it
pub cuts_at_last : (c : ℕ) (text : List ℕ) (found : Option (Bor (List ℕ) × Bor (List ℕ))) → CutsAtLast c text found → option_map (λ p. p.0.now) found ≡ before_last c text
cuts_at_last c text None free = sym (before_last_free c text free)
cuts_at_last c text (Some p) (free, joined) = sym (ap (before_last c) joined ∙ before_last_cut c p.0.now p.1.now free)
