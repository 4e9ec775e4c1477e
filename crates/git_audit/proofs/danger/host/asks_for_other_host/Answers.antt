-- Git's credential code asks for the one host that it reads.
use Rattle.git_reads.specs.Views.{credential_reading}
use Rattle.git_audit.proofs.Dangers.HostLemmas.{asked, none_of, not_asked, some_of}
use Rattle.git_audit.proofs.danger.host.asks_for_other_host.Goals as goal

pub returns-in-Some : goal.returns-in-Some
returns-in-Some c =
    asked c.args.text.now c.args.url.now (credential_reading c.in-Some.request) c.names_own_host.result (some_of _ _ _ c.in-Some.request c.in-Some.is c.in_ok-request.ensures) c.names_own_host.ensures

pub returns : goal.returns
returns c = not_asked c.args.text.now c.args.url.now (none_of _ _ _ c.in-None.is c.in_ok-request.ensures)
