use Rattle.std.proofs.Common.{sym, ap, subst}
use Rattle.git_rules.specs.Remotes.{AddsRuled, AreRuled, url_key}
use Rattle.git_rules.proofs.Remoted.UrlLemmas.{ruled-push}
use Rattle.git_rules.proofs.Remoted.ValueLemmas.{values_more, values_same}
use Rattle.git_rules.proofs.remote.ruled_urls.Goals.{in-Some+in_ok-push_ruled, in_default}
use Rattle.git_rules.proofs.remote.ruled_urls.Goals as goal

pub loop-entry-preserved : goal.loop-entry-preserved
loop-entry-preserved c =
    let rules = c.args.rules.now.pushing in
    elim c.match-value_for.branch [
      | in-Some+in_ok-push_ruled w ↦
          let more = values_more c.args.name.now url_key c.args.entries.now c.loop-entry.entry-index c.entry-item.result w.in-Some.value.now c.loop-entry-test.true c.entry-item.is w.in-Some.ensures in
          let added = subst (AddsRuled rules w.in-Some.value.now c.loop-entry.found.items) (sym (ap (λ v. v.items) w.found-is)) w.in_ok-push_ruled.ensures in
          subst (λ texts. AreRuled rules texts c.match-value_for.found.items) (sym more) (ruled-push rules _ w.in-Some.value.now c.loop-entry.found.items c.match-value_for.found.items c.loop-entry.invariant added)
      | in_default w ↦
          let same = values_same c.args.name.now url_key c.args.entries.now c.loop-entry.entry-index c.entry-item.result c.loop-entry-test.true c.entry-item.is w.in_default.ensures in
          subst (λ texts. AreRuled rules texts c.match-value_for.found.items) (sym same) (subst (AreRuled rules _) (sym (ap (λ v. v.items) w.found-is)) c.loop-entry.invariant)
    ]
