-- the report of a refused line: the place, the reason and the words of its only refusal
use Rattle.std.specs.Prelude.{◌≡◌, ℕ, List, Some, option_map, string_bytes}
use Rattle.git_refusals.specs.declared.refusal.Refusal as library
use Rattle.git_refusals.specs.Words.{reason_name, reason_words}
use Rattle.gix_url.specs.Flaws.{Refused}
use Rattle.explain_report.specs.declared.refusal.Refusal.{Refusal}

pub record ReportsRefusal (line : List ℕ) (report : Refusal) : Type 0 where
  pub refusal : library.Refusal
  pub refused : Refused line refusal
  pub at : report.at ≡ Some refusal.at
  pub len : report.len ≡ Some refusal.len
  pub reason : option_map (λ name. name.now) report.reason ≡ Some (reason_name refusal.reason)
  pub words : string_bytes report.words ≡ reason_words refusal.reason
