-- By the permission that is returned, and the entry that is found at its place.
use Rattle.std.proofs.Common.{Option, option_map, subst, sym}
use Rattle.git_rules.specs.Policies.{Policy}
use Rattle.explain_report.specs.Rules.{IsEntryAt, place_of}
use Rattle.explain_report.specs.declared.rules.setting.Setting.{Setting}
use Rattle.explain_report.proofs.rules.transports.Transport.named.Goals as goal

pub returns-clause-decides : goal.returns-clause-decides
returns-clause-decides c =
    let found = subst (λ (p : Policy). IsEntryAt p.entries c.place_of.result (option_map (λ (e : Setting). e.at) c.in_ok-entry.entry)) c.protocols.view_is c.in_ok-entry.ensures in
    let decided = subst (λ place. IsEntryAt c.args.protocols.now.entries place (option_map (λ (e : Setting). e.at) c.in_ok-entry.entry)) c.place_of.ensures found in
    record {
      permission = c.permission-permission.result;
      decides = c.permission-permission.ensures;
      verdict = c.verdict_of.ensures;
      by_variable = c.variable_of.ensures;
      by_entry = subst (λ (s : Option Setting). IsEntryAt c.args.protocols.now.entries (place_of c.permission-permission.result) (option_map (λ (e : Setting). e.at) s)) (sym c.in_ok-entry-2.ensures.0) decided;
    }
