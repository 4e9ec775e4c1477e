-- The scp form and local paths, if no address is between brackets after a user.
use Rattle.git_syntax.proofs.Parsing.ClassifierLemmas.{plain_scp, local_form, colon_nonempty}
use Rattle.git_syntax.proofs.classify.classify_plain.Goals as goal

pub returns-in-Some : goal.returns-in-Some
returns-in-Some c =
    plain_scp c.args.bytes.now c.in-Some.front.now c.in-Some.path.now c.requires.neither c.requires.not_addressed c.in-Some.ensures

pub returns-in-None : goal.returns-in-None
returns-in-None c =
    local_form c.args.bytes.now (colon_nonempty c.args.bytes.now c.args.front.now c.args.rest.now c.requires.cut) c.requires.neither c.requires.not_addressed c.in-None.ensures
