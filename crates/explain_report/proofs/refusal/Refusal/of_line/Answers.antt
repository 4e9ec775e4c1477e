-- The refusal that is reported is the one that the error of the line returns.
use Rattle.std.proofs.Common.{◌≡◌, refl, ap, ◌∙◌, subst, List, ℕ, Some, option_map, string_bytes}
use Rattle.git_refusals.specs.declared.refusal.Refusal as library
use Rattle.git_refusals.specs.Words.{reason_name, reason_words}
use Rattle.gix_url.specs.Flaws.{ReturnsRefusal, Refused}
use Rattle.explain_report.specs.declared.refusal.Refusal.{Refusal}
use Rattle.explain_report.specs.Refusals.{ReportsRefusal}
use Rattle.explain_report.proofs.refusal.Refusal.of_line.Goals as goal

-- the reported refusal is the one that was returned
reported : (line : List ℕ) (refusal : library.Refusal) (report : Refusal) → ReturnsRefusal line (Some refusal)
    → report.at ≡ Some refusal.at → report.len ≡ Some refusal.len
    → option_map (λ name. name.now) report.reason ≡ Some (reason_name refusal.reason)
    → string_bytes report.words ≡ reason_words refusal.reason → ReportsRefusal line report
reported line refusal report returned at len reason words =
    let same : returned.0 ≡ refusal = cc in
    record { refusal = refusal; refused = subst (Refused line) same returned.2; at = at; len = len; reason = reason; words = words }

-- an error of reading has a refusal
pub returns-in_default : goal.returns-in_default
returns-in_default c = λ line named flaw. let returned = c.refusal.ensures.read line named flaw in absurd (c.in_default.not-Some returned.0 returned.1)

pub returns : goal.returns
returns c = λ line named flaw. reported line c.in-Some.refusal _ (c.in-Some.ensures.read line named flaw) refl refl (ap Some c.name.ensures)
    (ap string_bytes c.in_words.ensures ∙ c.in_ok-words.ensures.ok ∙ c.words.ensures)
