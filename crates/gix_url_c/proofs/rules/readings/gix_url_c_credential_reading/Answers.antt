-- A request that is put is the one that the credential code reads.
use Rattle.std.specs.Prelude.{MatchOption}
use Rattle.std.proofs.Common.{subst}
use mathlib.Core.Logic.{inr}
use Rattle.git_reads.specs.Credentials.{CredentialReads}
use Rattle.git_reads.specs.Views.{credential_reading}
use Rattle.c_values.specs.ReadingNumbers.{LacksRequest}
use Rattle.c_values.proofs.CallLemmas.{unless_memory}
use Rattle.gix_url_c.proofs.rules.readings.gix_url_c_credential_reading.Goals as goal

pub returns-in-Ok-Some-clause-reported : goal.returns-in-Ok-Some-clause-reported
returns-in-Ok-Some-clause-reported c =
    let text = c.args.text.now in
    let found = c.in-Ok-Some in
    let reads = subst
    (λ request. MatchOption request (LacksRequest text) (λ it. CredentialReads text (credential_reading it)))
    found.field-0-is found.ensures in
    unless_memory c.write_request.result (λ put. inr (credential_reading found.request, reads, put)) c.write_request.ensures.reported
