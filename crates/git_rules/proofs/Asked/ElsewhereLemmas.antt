-- A subsection that names another host fits no request.
use Rattle.std.proofs.Common.{◌≡◌, ℕ, true, false, inl, inr, List, Option, Some, None, subst}
use Rattle.git_reads.specs.Credentials.{CredentialReading}
use Rattle.git_rules.specs.CredentialEntries.{FitsSubsection, IsFormOf, MatchesForm}
use Rattle.git_rules.specs.CredentialUrls.{credential_url}
use Rattle.git_rules.specs.Normal.{IsNormalOf, NormalPlace}
use Rattle.git_rules.specs.OtherHosts.{IsElsewhere, NamesOtherHost}
use Rattle.git_rules.proofs.Asked.AppliedLemmas.{form_unique}

-- the URL doesn't match the place as a pattern
elsewhere_unmatched : (url host : List ℕ) (place : Option NormalPlace) (n : NormalPlace) → IsElsewhere url host place → IsNormalOf true url n → MatchesForm n place → ⊥
elsewhere_unmatched url host None n other h matches = matches
elsewhere_unmatched url host (Some place) n other h matches = other.1.pattern n h matches.host

-- nor do its parts
elsewhere_named : (url host : List ℕ) (place : Option NormalPlace) → IsElsewhere url host place → NamesOtherHost url host
elsewhere_named url host None other = other
elsewhere_named url host (Some place) other = other.0

-- the subsection doesn't fit the request
pub elsewhere_unfit : (url : List ℕ) (r : CredentialReading) (user : Option (List ℕ)) (place : Option NormalPlace) → IsFormOf false (credential_url r) place → IsElsewhere url r.host place → FitsSubsection (Some url) r user → ⊥
elsewhere_unfit url r user place form other (inl (found, also, (pattern, is, matches))) =
    elsewhere_unmatched url r.host place pattern other is (subst (MatchesForm pattern) (form_unique false (credential_url r) found place also form) matches)
elsewhere_unfit url r user place form other (inr (none, (wanted, reads, lines, parts))) =
    (elsewhere_named url r.host place other).parts wanted reads parts.host
