use Rattle.std.proofs.Common.{◌≡◌, ◌∙◌, max, length, take, ap, sym}
use Rattle.c_values.specs.Output.{or_nothing}
use Rattle.c_values.specs.SettingNumbers.{longest_subsection}
use Rattle.c_values.proofs.SettingLemmas.{longest_more}
use Rattle.c_values.proofs.rules.settings.longest.Goals as goal

pub loop-entry-preserved : goal.loop-entry-preserved
loop-entry-preserved c =
    let same : length c.part.result.now ≡ length (or_nothing c.entry-item.result.subsection) = ap length (c.part.ensures ∙ ap (λ e. or_nothing e.subsection) c.entry.view_is) in
    c.max-longest.ensures ∙ ap (λ n. max n (length c.part.result.now)) c.loop-entry.invariant ∙ ap (λ n. max (longest_subsection (take c.loop-entry.entry-index c.args.entries.now)) n) same ∙ sym (longest_more c.args.entries.now c.loop-entry.entry-index c.entry-item.result c.loop-entry-test.true c.entry-item.is)
