-- Each law is a lemma.
use Rattle.git_secrets.proofs.Cuts.HiddenLemmas.{passwords_hidden}
use Rattle.git_secrets.proofs.Cuts.JoinLemmas.{whole_text}
use Rattle.git_secrets.proofs.Cuts.OnlyLemmas.{only_secrets}
use Rattle.git_secrets.proofs.Cuts.TokenLemmas.{tokens_hidden}
use Rattle.git_secrets.proofs.laws.law_secrets.Goals as goal

pub returns : goal.returns
returns c = record { whole = whole_text; passwords = passwords_hidden; tokens = tokens_hidden; only = only_secrets }
