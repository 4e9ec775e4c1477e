-- The pattern decides, or else the parts.
use Rattle.std.proofs.Common.{ℕ, List, Bor, option_map, subst}
use Rattle.std.proofs.lemmas.Bool.{false≢true}
use Rattle.git_reads.specs.Views.{credential_reading}
use Rattle.git_rules.specs.Normal.{NormalPlace}
use Rattle.git_rules.specs.CredentialEntries.{DecidesUrl}
use Rattle.git_rules.proofs.Asked.AppliedLemmas.{fits_by_parts, fits_decided}
use Rattle.git_rules.proofs.Asked.ElsewhereLemmas.{elsewhere_unfit}
use Rattle.git_rules.proofs.credentials.entry.fits.Goals as goal

pub returns-then-is_elsewhere : goal.returns-then-is_elsewhere
returns-then-is_elsewhere c =
    let place = option_map (λ (p : Bor NormalPlace). p.now) c.args.place in
    let user = option_map (λ (t : Bor (List ℕ)). t.now) c.args.user in (
      λ on. absurd (false≢true on),
      λ fits. absurd (elsewhere_unfit c.args.url.now (credential_reading c.args.request.now) user place c.requires (c.is_elsewhere.ensures c.if-is_elsewhere.true) fits),
    )

pub returns-in-Some : goal.returns-in-Some
returns-in-Some c =
    let place = option_map (λ (p : Bor NormalPlace). p.now) c.args.place in
    let user = option_map (λ (t : Bor (List ℕ)). t.now) c.args.user in
    fits_decided c.args.url.now (credential_reading c.args.request.now) user place c.in-Some.matches c.requires (subst (DecidesUrl c.args.url.now place) c.in-Some.is c.in_ok-matches.ensures)

pub returns-in-None : goal.returns-in-None
returns-in-None c =
    let place = option_map (λ (p : Bor NormalPlace). p.now) c.args.place in
    let user = option_map (λ (t : Bor (List ℕ)). t.now) c.args.user in
    fits_by_parts c.args.url.now (credential_reading c.args.request.now) user c.fits_partly.result (subst (DecidesUrl c.args.url.now place) c.in-None.is c.in_ok-matches.ensures) c.fits_partly.ensures
