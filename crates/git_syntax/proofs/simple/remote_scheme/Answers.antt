-- Four names.
use Rattle.std.proofs.Common.{arith}
use Rattle.std.proofs.lemmas.Grind.{common_steps}
use Rattle.git_syntax.specs.SimpleTexts.IsRemoteScheme.{of_git, of_ssh, of_http, of_https}
use Rattle.git_syntax.proofs.simple.remote_scheme.Goals as goal

pub returns-in-https-clause-remote : goal.returns-in-https-clause-remote
returns-in-https-clause-remote c = of_https

pub returns-in-ssh-clause-remote : goal.returns-in-ssh-clause-remote
returns-in-ssh-clause-remote c = of_ssh

pub returns-in-http-clause-remote : goal.returns-in-http-clause-remote
returns-in-http-clause-remote c = of_http

pub returns-in-git-clause-remote : goal.returns-in-git-clause-remote
returns-in-git-clause-remote c = of_git

pub returns-in-https-clause-text : goal.returns-in-https-clause-text
returns-in-https-clause-text c = grind (arith, common_steps)
