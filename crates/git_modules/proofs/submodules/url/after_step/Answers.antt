-- A dot or two and a separator are a step.
use Rattle.git_modules.proofs.Urls.StepLemmas.{found_here, found_up}
use Rattle.git_modules.proofs.submodules.url.after_step.Goals as goal

pub returns-in-Some : goal.returns-in-Some
returns-in-Some c =
    found_up c.args.url.now c.in_ok-suffix.suffix.now c.in-Some.rest.now c.in_ok-rest.rest.now c.in_ok-rest.ensures.0 c.in_ok-suffix.ensures c.in-Some.ensures c.in_ok-rest.ensures.1 c.in_ok-rest.ensures.2

pub returns : goal.returns
returns c =
    found_here c.args.url.now c.in_ok-suffix.suffix.now c.in_ok-rest-2.rest.now c.in_ok-rest-2.ensures.0 c.in_ok-suffix.ensures c.in_ok-rest-2.ensures.1 c.in_ok-rest-2.ensures.2
