use Rattle.explain_report.proofs.Secrets.PieceLemmas.{leaves_secrets_out}
use Rattle.explain_report.proofs.text.secret.law_shown.Goals as goal

pub returns : goal.returns
returns c = leaves_secrets_out
