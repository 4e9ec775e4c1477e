use Rattle.git_rules.proofs.Shell.GivenLemmas.{own_words}
use Rattle.git_rules.proofs.ssh.law_git_words.Goals as goal

pub returns : goal.returns
returns c = record { own = own_words c.law_git.ensures.alike }
