-- There is a host, or none, in the URL that curl would get, if the URL is for curl.
use Rattle.git_modules.proofs.Urls.HostLemmas.{lacks_host}
use Rattle.git_modules.proofs.submodules.url.lacks_host.Goals as goal

pub returns-in-Some : goal.returns-in-Some
returns-in-Some c = lacks_host c.args.url.now c.in-Some.text.now c.finds_host.result c.in-Some.ensures c.finds_host.ensures

pub returns-in-None : goal.returns-in-None
returns-in-None c = (λ e. cc, λ h. absurd (c.in-None.ensures h.0 h.1))
