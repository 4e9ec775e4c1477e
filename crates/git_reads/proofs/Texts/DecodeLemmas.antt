-- Escapes as Git decodes them, one byte at a time.
use Rattle.std.proofs.Common.{◌≡◌, ◌∙◌, ℕ, ◌<◌, List, [], ◌∷◌, ◌++◌, length, sym, ap, arith, append_assoc}
use Rattle.std.proofs.lemmas.Bool.{cond-false}
use Rattle.git_reads.specs.Git.{git_decode}
use Rattle.git_reads.specs.Internal.{LacksEscape}

-- a text that begins with no escape keeps its first byte
pub first_kept : (t suffix : List ℕ) (b : ℕ) → LacksEscape t → t ≡ b ∷ suffix → git_decode t ≡ b ∷ git_decode suffix
first_kept t [] b none e = ap git_decode e
first_kept t (c ∷ []) b none e = ap git_decode e
first_kept t (c ∷ d ∷ rest) b none e = ap git_decode e ∙ cond-false _ _ _ (none b c d rest e)

-- a text with something in its decoding isn't empty
pub decoded_some : (t : List ℕ) → 0 < length (git_decode t) → 0 < length t
decoded_some [] some = some
decoded_some (b ∷ t) some = omega arith

-- one byte more is decoded
pub one_more : (done more t suffix whole : List ℕ) (byte : ℕ) → done ++ git_decode t ≡ whole → git_decode t ≡ byte ∷ git_decode suffix → more ≡ done ++ byte ∷ [] → more ++ git_decode suffix ≡ whole
one_more done more t suffix whole byte so_far step pushed =
    ap (λ x. x ++ git_decode suffix) pushed ∙ append_assoc done (byte ∷ []) (git_decode suffix) ∙ ap (λ x. done ++ x) (sym step) ∙ so_far
