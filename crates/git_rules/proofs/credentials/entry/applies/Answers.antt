-- By the subsection, if there is one.
use Rattle.std.proofs.Common.{ℕ, List, Bor, option_map, sym, ap, ◌∙◌}
use Rattle.git_reads.specs.Views.{credential_reading}
use Rattle.git_rules.specs.Config.{ConfigEntry}
use Rattle.git_rules.proofs.Asked.AppliedLemmas.{applies_by}
use Rattle.git_rules.proofs.credentials.entry.applies.Goals as goal

pub returns-in-Some : goal.returns-in-Some
returns-in-Some c =
    let user = option_map (λ (t : Bor (List ℕ)). t.now) c.args.user in
    let same = sym (ap (λ (e : ConfigEntry). e.subsection) c.entry.view_is) ∙ ap (option_map (λ (t : Bor (List ℕ)). t.now)) c.in-Some.is in
    applies_by c.in-Some.url.now (credential_reading c.args.request.now) user c.args.entry.now c.fits.result (sym c.is_section.ensures ∙ c.if-not-is_section.false) same c.fits.ensures
