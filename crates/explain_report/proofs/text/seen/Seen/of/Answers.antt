use Rattle.std.proofs.Common.{◌∙◌, sym}
use Rattle.explain_report.proofs.Secrets.PieceLemmas.{shown_whole}
use Rattle.explain_report.proofs.text.seen.Seen.of.Goals as goal

pub returns-then-not-has_secret : goal.returns-then-not-has_secret
returns-then-not-has_secret c =
    shown_whole c.args.marked.bytes.now (c.law_secrets.ensures.whole c.args.marked.bytes.now) (sym c.has_secret.ensures ∙ c.if-not-has_secret.true)
