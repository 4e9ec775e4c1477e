-- Both tests decide whether the names are equal.
use Rattle.std.proofs.Common.{bytes_eq}
use Rattle.std.proofs.lemmas.Bool.Decides.{same_from_decides}
use Rattle.std.proofs.lemmas.Slice.Eq.{bytes_eq-Decides}
use Rattle.git_rules.specs.SameHost.{host_name}
use Rattle.explain_report.proofs.readers.taken.is_same.Goals as goal

pub returns : goal.returns
returns c =
    let own = host_name c.args.own.now in
    let named = host_name c.args.named.now in
    same_from_decides c.is_same_host.result (bytes_eq own named) c.is_same_host.ensures (bytes_eq-Decides own named)
