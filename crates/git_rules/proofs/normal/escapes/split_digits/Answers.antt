-- The two digits after a `%`.
use Rattle.git_rules.proofs.NormalForms.NormalTextLemmas.{splits_escape}
use Rattle.git_rules.proofs.normal.escapes.split_digits.Goals as goal

pub returns : goal.returns
returns c = splits_escape c.args.suffix.now c.digit.result c.digit-in-len2-up.result c.requires c.digit.ensures.value c.digit-in-len2-up.ensures.value
