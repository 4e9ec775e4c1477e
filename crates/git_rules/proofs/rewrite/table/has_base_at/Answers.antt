use Rattle.std.proofs.Common.{false, refl}
use Rattle.std.proofs.lemmas.Bool.{both_ways}
use Rattle.std.proofs.lemmas.Bool.Decides.{Decides-eqb}
use Rattle.std.proofs.lemmas.Option.{slice_get_within}
use Rattle.std.proofs.lemmas.Slice.Eq.{slice_eq-Decides}
use Rattle.git_rules.proofs.Rules.RankLemmas.{base_here, base_there}
use Rattle.git_rules.proofs.rewrite.table.has_base_at.Goals as goal

pub returns-in-Some : goal.returns-in-Some
returns-in-Some c =
    let r = c.in-Some.rule.now in
    let look = c.in-Some.ensures.lookup in
    let is = slice_eq-Decides Decides-eqb r.base.now c.args.base.now c.eq.result c.eq.ensures in
    (λ same. base_here c.args.rules.now c.args.at r c.args.base.now look.0 look.1 (is.0 same), λ h. is.1 (base_there c.args.rules.now c.args.at r c.args.base.now look.0 look.1 h))

pub returns-in-None : goal.returns-in-None
returns-in-None c =
    (λ never. absurd (both_ways false refl never), λ (r, found, same). c.in-None.ensures.lookup.2 (slice_get_within c.args.rules.now c.args.at r found))
