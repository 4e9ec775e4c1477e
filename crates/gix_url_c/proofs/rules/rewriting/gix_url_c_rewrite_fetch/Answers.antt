-- The report for the entries is the report for the passed entries.
use Rattle.std.proofs.Common.{◌∙◌, subst}
use Rattle.git_rules.specs.RewriteEntries.{rules_of}
use Rattle.git_rules.specs.Rewrites.{IsRewritten}
use Rattle.c_values.specs.Codes.{UnlessMemory}
use Rattle.c_values.specs.Rewriting.{ReportsRewriting}
use Rattle.gix_url_c.proofs.rules.rewriting.gix_url_c_rewrite_fetch.Goals as goal

pub returns-in-Ok-clause-reported : goal.returns-in-Ok-clause-reported
returns-in-Ok-clause-reported c =
    let new = c.fetch.new in
    let code = c.fetch.result in
    let buffer = c.args.buffer.now in
    subst
    (λ config. UnlessMemory code (ReportsRewriting config
    (IsRewritten (rules_of config).fetching c.args.text.now) new.built buffer new.buffer new.stop code))
    (c.deref.ensures.value ∙ c.in-Ok.ensures) c.fetch.ensures.reported
