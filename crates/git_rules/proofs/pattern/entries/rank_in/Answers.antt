-- By the rank of the URL.
use Rattle.std.proofs.Common.{ℕ, List, Bor, length, sym, ap, subst, ◌∙◌, option_copied, option_map}
use Rattle.git_rules.specs.Config.{ConfigEntry}
use Rattle.git_rules.specs.PatternEntries.{RanksIn}
use Rattle.git_rules.proofs.Matched.EntryLemmas.{entry_ranked}
use Rattle.git_rules.proofs.pattern.entries.rank_in.Goals as goal

pub returns-else-not-sets-clause-rank : goal.returns-else-not-sets-clause-rank
returns-else-not-sets-clause-rank c =
    let same = sym (ap (λ (e : ConfigEntry). e.subsection) c.entry.view_is) ∙ ap (option_map (λ (t : Bor (List ℕ)). t.now)) c.in-Some.is in
    let ranked = entry_ranked c.args.section.now c.args.name.now c.in-Some.url.now c.in-Some-place.place.now (length c.args.buffer.now) c.args.entry.now c.url_rank.result (sym c.sets-else-is_elsewhere.ensures ∙ c.if-not-sets.false) same c.url_rank.ensures.rank in
    subst (λ p. RanksIn c.args.section.now c.args.name.now p (length c.args.buffer.now) c.args.entry.now c.url_rank.result) (sym (ap option_copied c.in-Some-place.is)) ranked
