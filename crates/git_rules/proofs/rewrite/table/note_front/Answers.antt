use Rattle.std.proofs.Common.{◌∙◌, subst}
use Rattle.std.proofs.lemmas.Map.Text.{btree_map_updates_str}
use Rattle.git_rules.specs.RuleTable.{IsLowerOf}
use Rattle.git_rules.proofs.rewrite.table.note_front.Goals as goal

pub returns-clause-noted : goal.returns-clause-noted
returns-clause-noted c =
    let known = c.copied.ensures ∙ c.get.ensures.value in
    (c.lower_of-lower.result, subst (λ entry. IsLowerOf entry c.args.base c.lower_of-lower.result) known c.lower_of-lower.ensures, btree_map_updates_str c.args.front.now c.args.fronts.now c.insert.new.self _ c.in_ok-insert.ensures.updates)
