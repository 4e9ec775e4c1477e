-- Without a list the entry that counts decides, or the default.
use Rattle.std.proofs.Common.{ℕ, List, Option, Bor, ap, option_map, subst}
use Rattle.git_rules.specs.Config.{ConfigEntry}
use Rattle.git_rules.specs.PolicyView.{policy}
use Rattle.git_rules.specs.Protocols.{Decides}
use Rattle.git_rules.proofs.Allowed.DecisionLemmas.{decides-by_entry}
use Rattle.git_rules.proofs.protocols.Protocols.permission.Goals as goal

pub returns-in-None : goal.returns-in-None
returns-in-None c =
    let chosen = option_map (λ (e : Bor ConfigEntry). e.now) c.counting.result in
    let unset = ap (λ (o : Option (Bor (List ℕ))). option_map (λ (t : Bor (List ℕ)). t.now) o) c.in-None.is in
    subst (λ p. Decides p c.args.name.now c.by_entry.result) c.self.view_is (decides-by_entry (policy c.self.inside) c.args.name.now c.by_entry.result chosen unset c.counting.ensures c.by_entry.ensures)
