-- The report for the entries is the report for the passed entries.
use Rattle.std.proofs.Common.{◌∙◌, subst}
use Rattle.c_values.specs.Codes.{UnlessMemory}
use Rattle.c_values.specs.CredentialNumbers.{ReportsCredentials}
use Rattle.gix_url_c.proofs.rules.credentials.gix_url_c_credentials.Goals as goal

pub returns-in-Ok-clause-reported : goal.returns-in-Ok-clause-reported
returns-in-Ok-clause-reported c =
    let new = c.write_for_text.new in
    let code = c.write_for_text.result in
    let buffer = c.args.buffer.now in
    let indices = c.args.indices.now in
    subst
    (λ config. UnlessMemory code (ReportsCredentials config c.args.text.now new.built buffer new.buffer indices new.indices new.stop code))
    (c.deref.ensures.value ∙ c.in-Ok.ensures) c.write_for_text.ensures.reported
