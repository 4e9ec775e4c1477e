-- The statements of a report about a location, besides its fields.
use Rattle.std.specs.Prelude.{◌≡◌, ◌↔◌, ℕ, IsTrue, List, Option, None, IfSome, IsNone, IsSome}
use Rattle.git_location.specs.declared.argument.ArgumentSafety.{ArgumentSafety}
use Rattle.git_location.specs.declared.argument.ArgumentSafety.TheVariants as judged
use Rattle.gix_url.specs.Location.{Location}
use Rattle.gix_url.specs.Settled.{IsSettled}
use Rattle.explain_report.specs.declared.difference.Reread.{Reread}
use Rattle.explain_report.specs.declared.git_report.GitReads.{GitReads}
use Rattle.explain_report.specs.declared.location_report.Safety.{Safety}
use Rattle.explain_report.specs.declared.location_report.Safety.TheVariants as safety
use Rattle.explain_report.specs.Differences.{ReportsReread}
use Rattle.explain_report.specs.Secrets.{has_secret}

-- if the location has a password, the report shows no user, host and path that Git reads
abbrev pub WithholdsPlace : Location → Option GitReads → Type 0
WithholdsPlace v reads = IfSome reads (λ it.
    IsSome v.password → (it.user ≡ None) × (it.host ≡ None) × (it.path ≡ None))

-- if a part of a refused text may be a secret, the report shows no user, host and path that Git reads
abbrev pub WithholdsSecret : List ℕ → Option GitReads → Type 0
WithholdsSecret text reads = IfSome reads (λ it.
    IsTrue (has_secret text) → (it.user ≡ None) × (it.host ≡ None) × (it.path ≡ None))

-- there is a report of the reading of the location's text exactly if the location isn't settled, and a difference in it
-- is one between the location and the one that this text spells
pub record ReportsAgain (v : Location) (reread : Option Reread) : Type 0 where
  pub settled : IsNone reread ↔ IsSettled v
  pub difference : IfSome reread (λ it. IfSome it.difference (ReportsReread v))

-- the safety of a user or a host, as a word
abbrev pub safety_of : ArgumentSafety → Safety
safety_of judged.Absent = safety.Absent
safety_of (judged.Usable part) = safety.Usable
safety_of (judged.Dangerous part) = safety.Dangerous
