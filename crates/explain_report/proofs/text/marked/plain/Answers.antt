use Rattle.std.proofs.Common.{sym}
use Rattle.explain_report.proofs.Secrets.PieceLemmas.{shown_plain}
use Rattle.explain_report.proofs.text.marked.plain.Goals as goal

pub returns : goal.returns
returns c = sym (shown_plain c.args.line.bytes.now (c.law_secrets.ensures.whole c.args.line.bytes.now) c.requires)
