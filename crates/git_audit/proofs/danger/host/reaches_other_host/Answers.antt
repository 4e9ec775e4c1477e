-- A transport reaches the one host that it reads.
use Rattle.git_reads.specs.Views.{git_reading}
use Rattle.git_audit.proofs.Dangers.HostLemmas.{not_reached_by, reached}
use Rattle.git_audit.proofs.danger.host.reaches_other_host.Goals as goal

pub returns-in-Ok : goal.returns-in-Ok
returns-in-Ok c =
    reached c.args.text.now c.args.url.now (git_reading c.in-Ok.place) c.is_other_host.result c.in-Ok.ensures.read c.is_other_host.ensures

pub returns : goal.returns
returns c =
    not_reached_by c.args.text.now c.args.url.now c.in-Err.why c.without_reading.result c.in-Err.ensures.none c.without_reading.ensures
