-- The host in brackets, or the text before a port.
use Rattle.std.proofs.Common.{◌∙◌, ◌++◌, ap}
use Rattle.git_reads.specs.Git.{HostAndPort}
use Rattle.git_reads.proofs.place.host_and_port.Goals as goal

pub returns-in_default-clause-found : goal.returns-in_default-clause-found
returns-in_default-clause-found c = HostAndPort.none c.in_default.ensures c.before_port.ensures

pub returns-clause-found : goal.returns-clause-found
returns-clause-found c =
    let found = c.in-Some.found in
    let written =
    c.as_slice.ensures.value ∙ c.in_ok-extend_from_slice-2.ensures.items ∙ ap (λ x. x ++ found.inside.now) (c.in_ok-extend_from_slice.ensures.items ∙ ap (λ x. x ++ found.front.now) c.clear.ensures.items) in
    HostAndPort.brackets found.front.now found.inside.now found.suffix.now c.before_port-2.result.0.now c.in-Some.ensures written c.before_port-2.ensures
