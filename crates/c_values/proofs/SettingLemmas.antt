-- The longest subsection of entries.
use Rattle.std.proofs.Common.{◌≡◌, ◌∙◌, ℕ, ◌+◌, ◌<◌, max, List, [], ◌∷◌, ◌++◌, length, take, get_or, ap, sym, arith}
use Rattle.std.proofs.lemmas.List.{take_more}
use Rattle.git_rules.specs.Config.{ConfigEntry}
use Rattle.c_values.specs.Output.{or_nothing}
use Rattle.c_values.specs.SettingNumbers.{longest_subsection}

-- one entry further back
longest-push : (done : List ConfigEntry) (e : ConfigEntry)
    → longest_subsection (done ++ e ∷ []) ≡ max (longest_subsection done) (length (or_nothing e.subsection))
longest-push [] e = omega (arith)
longest-push (d ∷ done) e = let more = longest-push done e in omega (arith, more)

-- one entry more
pub longest_more : (entries : List ConfigEntry) (i : ℕ) (e : ConfigEntry) → i < length entries → e ≡ get_or entries i e
    → longest_subsection (take (i + 1) entries)
    ≡ max (longest_subsection (take i entries)) (length (or_nothing e.subsection))
longest_more entries i e within at =
    ap longest_subsection (take_more entries i e within ∙ ap (λ x. take i entries ++ x ∷ []) (sym at))
    ∙ longest-push (take i entries) e
