use Rattle.std.proofs.Common.{rules, ◌≡◌, ◌++◌, OnOk}
use Rattle.std.specs.Prelude.{flat_map}
use Rattle.explain_page.specs.Markup.{escaped_byte}
use Rattle.explain_page.proofs.Escaped.MarkupLemmas.{added_text}
use Rattle.explain_page.proofs.markup.Markup.push_shown.Goals as goal

pub returns-then-all-clause-no_markup : goal.returns-then-all-clause-no_markup
returns-then-all-clause-no_markup c =
    let whole : OnOk c.push_escaped.result (c.push_escaped.new.out.items ≡ c.args.self.now ++ flat_map escaped_byte c.args.text.now) = search rules in
    added_text _ _ _ c.args.text.now whole
