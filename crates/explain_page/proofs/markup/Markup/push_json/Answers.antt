use Rattle.std.proofs.Common.{rules, ◌≡◌, ◌++◌, OnOk}
use Rattle.std.specs.Prelude.{flat_map}
use Rattle.explain_page.specs.Markup.{island_byte}
use Rattle.explain_page.proofs.Escaped.MarkupLemmas.{added_island}
use Rattle.explain_page.proofs.markup.Markup.push_json.Goals as goal

pub returns-clause-no_tag : goal.returns-clause-no_tag
returns-clause-no_tag c =
    let whole : OnOk c.push_island.result (c.push_island.new.out.items ≡ c.args.self.now ++ flat_map island_byte c.args.text.now) = search rules in
    added_island _ _ _ c.args.text.now whole
