use Rattle.std.proofs.Common.{sym, ◌∙◌}
use Rattle.git_rules.proofs.Entries.KeyLemmas.{empty_is, no_name, no_section}
use Rattle.git_rules.proofs.config.read_key.Goals as goal

pub returns-then-is_empty : goal.returns-then-is_empty
returns-then-is_empty c =
    let cut = c.in_ok-section.ensures in
    λ s sub n. no_section c.args.key.now c.in_ok-section.section.now c.in_ok-section.suffix.now s sub n cut.0 cut.1 (empty_is _ (sym c.is_empty.ensures ∙ c.if-is_empty.true))

pub returns-then-is_empty-2 : goal.returns-then-is_empty-2
returns-then-is_empty-2 c =
    let cut = c.in_ok-section.ensures in
    λ s sub n. no_name c.args.key.now c.in_ok-section.section.now c.in_ok-section.suffix.now s _ sub _ n cut.0 cut.1 c.cut_name.ensures.0 c.cut_name.ensures.1 (empty_is _ (sym c.is_empty-2.ensures ∙ c.if-is_empty-2.true))
