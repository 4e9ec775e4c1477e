-- The location that is read from the text of a settled location.
use Rattle.std.proofs.Common.{◌≡◌, ℕ, List, Ok, Err, subst, arith}
use Rattle.std.proofs.lemmas.Bool.Decides.{nat_tests}
use Rattle.git_location.specs.declared.write_error.WriteFault.{WriteFault}
use Rattle.git_syntax.specs.Location.{Location}
use Rattle.git_location.specs.Text.{text}
use Rattle.git_location.specs.Settled.{IsValue, IsSettled}
use Rattle.git_laws.specs.Laws.{ReadAgain}
use Rattle.git_location.specs.Readings.{IsAgain, SpellsAgain}
use Rattle.git_syntax.proofs.Unique.UniqueLemmas.{spells_unique}
use Rattle.git_laws.proofs.Writing.AgainLemmas.{settled_again}
use Rattle.git_location.proofs.Writing.WrittenAsUrlLemmas.{one_text}

-- the text of a settled location spells it again
pub text_again : (v : Location) (s : List ℕ) → IsValue v → IsSettled v → text v ≡ Ok s → SpellsAgain v s
text_again v s is h written = grind (arith, nat_tests, one_text, settled_again)

-- and whatever else is read of it is that location too
pub read_alone : ReadAgain
read_alone v w t is h written spelled =
    let again = text_again v t is h written in
    subst (IsAgain v) (spells_unique t again.back w again.spelled spelled) again.again

-- a settled location has a text
pub settled_has_text : (v : Location) (f : WriteFault) → IsValue v → IsSettled v → Err f ≡ text v → ⊥
settled_has_text v f is h fault = grind arith
