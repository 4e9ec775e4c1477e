use Rattle.std.proofs.Common.{◌∙◌, sym}
use Rattle.explain_report.proofs.Secrets.PieceLemmas.{shown_alone}
use Rattle.explain_report.proofs.text.seen.is_around_password.Goals as goal

pub returns-in-None : goal.returns-in-None
returns-in-None c = λ same. shown_alone c.args.line.now (sym (c.is_same.ensures same ∙ c.requires))
