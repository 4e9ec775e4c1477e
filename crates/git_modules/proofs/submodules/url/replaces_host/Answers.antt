-- The steps so far and one more are the steps of the URL.
use Rattle.std.proofs.Common.{◌≡◌, ◌∙◌, ◌&&◌, Bool, ap, subst, sym, true}
use Rattle.git_syntax.specs.Bytes.{begins_by}
use Rattle.git_modules.specs.SubmoduleUrls.{ReplacesHost, is_colon_or_slash}
use Rattle.git_modules.proofs.Urls.FeedLemmas.{other_or, short_or}
use Rattle.git_modules.proofs.Urls.StepLemmas.{HasSteps, steps_more, steps_tell}
use Rattle.git_modules.proofs.submodules.url.replaces_host.Goals as goal

pub loop-is_up-preserved-then-up : goal.loop-is_up-preserved-then-up
loop-is_up-preserved-then-up c =
    subst (HasSteps c.args.url.now c.in-Some.suffix.now) (short_or c.loop-is_up.up c.in-Some.is_up c.if-up.true)
    (steps_more c.args.url.now c.loop-is_up.rest.now c.in-Some.suffix.now c.loop-is_up.up c.in-Some.is_up c.loop-is_up.invariant c.in-Some.ensures)

pub loop-is_up-preserved : goal.loop-is_up-preserved
loop-is_up-preserved c =
    subst (HasSteps c.args.url.now c.in-Some.suffix.now) (other_or c.loop-is_up.up c.in-Some.is_up c.if-up.false)
    (steps_more c.args.url.now c.loop-is_up.rest.now c.in-Some.suffix.now c.loop-is_up.up c.in-Some.is_up c.loop-is_up.invariant c.in-Some.ensures)

pub returns-then-up-2 : goal.returns-then-up-2
returns-then-up-2 c =
    subst (λ (v : Bool). (v ≡ true → ReplacesHost c.args.url.now) × (ReplacesHost c.args.url.now → v ≡ true)) (ap (λ x. x && begins_by is_colon_or_slash c.loop-is_up.rest.now) c.if-up-2.true ∙ sym c.begins_by_colon_or_slash.ensures)
    (steps_tell c.args.url.now c.loop-is_up.rest.now c.loop-is_up.up c.loop-is_up.invariant c.in_default.ensures)

pub returns-else-up-2 : goal.returns-else-up-2
returns-else-up-2 c =
    subst (λ (v : Bool). (v ≡ true → ReplacesHost c.args.url.now) × (ReplacesHost c.args.url.now → v ≡ true)) (ap (λ x. x && begins_by is_colon_or_slash c.loop-is_up.rest.now) c.if-up-2.false ∙ sym c.if-up-2.false)
    (steps_tell c.args.url.now c.loop-is_up.rest.now c.loop-is_up.up c.loop-is_up.invariant c.in_default.ensures)
