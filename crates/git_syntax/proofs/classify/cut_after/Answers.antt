-- The colon of the scp form is the first after brackets at the front.
use Rattle.git_syntax.proofs.Parsing.ClassifierLemmas.{front_unbracketed, front_taken}
use Rattle.git_syntax.proofs.classify.cut_after.Goals as goal

pub returns-in-None : goal.returns-in-None
returns-in-None c = front_unbracketed c.args.bytes.now c.args.inside.now c.args.suffix.now c.requires.closed c.requires.joined c.in-None.ensures

pub returns-in-Some : goal.returns-in-Some
returns-in-Some c =
    rw c.split_at.ensures.front (front_taken c.args.bytes.now c.args.inside.now c.args.suffix.now c.in-Some.rest.now c.in-Some.path.now c.requires.closed c.in-Some.ensures.0 c.requires.joined c.in-Some.ensures.1)
