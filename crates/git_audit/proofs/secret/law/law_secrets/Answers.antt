-- A text is whole.
use Rattle.git_audit.proofs.Secrets.JoinLemmas.{whole_text}
use Rattle.git_audit.proofs.secret.law.law_secrets.Goals as goal

pub returns : goal.returns
returns c = record { whole = whole_text }
