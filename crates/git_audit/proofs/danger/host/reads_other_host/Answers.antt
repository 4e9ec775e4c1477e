-- Which of Git's readings counts.
use Rattle.std.proofs.Common.{true, false, sym, ◌∙◌}
use Rattle.git_audit.proofs.Dangers.HostLemmas.{by_reading}
use Rattle.git_audit.proofs.danger.host.reads_other_host.Goals as goal

pub returns-then-is_over_http : goal.returns-then-is_over_http
returns-then-is_over_http c =
    by_reading c.args.text.now c.args.url.now true c.asks_for_other_host.result (sym c.if-is_over_http.true ∙ c.is_over_http.ensures) c.asks_for_other_host.ensures

pub returns-else-is_over_http : goal.returns-else-is_over_http
returns-else-is_over_http c =
    by_reading c.args.text.now c.args.url.now false c.reaches_other_host.result (sym c.if-is_over_http.false ∙ c.is_over_http.ensures) c.reaches_other_host.ensures
