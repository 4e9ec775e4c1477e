-- The facts of a location for its report: its text, and two verdicts of the library.
use Rattle.std.specs.Prelude.{◌≡◌, ◌↔◌, IsTrue, Result, Ok, Err}
use Rattle.bstr.specs.declared.bstring.BString.{BString}
use Rattle.bstr.specs.Owned.{bstring_bytes}
use Rattle.git_location.specs.declared.write_error.WriteFault.{WriteFault}
use Rattle.gix_url.specs.GitClass.{AgreesWithGit}
use Rattle.gix_url.specs.Location.{Location}
use Rattle.gix_url.specs.Settled.{IsSettled}
use Rattle.gix_url.specs.Text.{text}
use Rattle.explain_report.specs.declared.facts.Facts.{Facts}

-- the text of the location, or the fault because of which it has none
abbrev pub IsTextOf : Location → Result BString WriteFault → Type 0
IsTextOf v (Ok bytes) = text v ≡ Ok (bstring_bytes bytes)
IsTextOf v (Err fault) = text v ≡ Err fault

-- the facts are those of the location
pub record AreFactsOf (v : Location) (facts : Facts) : Type 0 where
  pub text : IsTextOf v facts.text
  pub settled : IsTrue facts.is_settled ↔ IsSettled v
  pub agrees : IsTrue facts.agrees_with_git ↔ AgreesWithGit v
