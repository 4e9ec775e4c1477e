-- The text between the brackets, whether a colon follows them or nothing.
use Rattle.git_syntax.proofs.Parsing.UrlLocationLemmas.{inside_brackets}
use Rattle.git_syntax.proofs.ssh_host.in_brackets.Goals as goal

pub returns : goal.returns
returns c =
    inside_brackets c.args.host.now c.in_ok-suffix.suffix.now c.without_last.result.now c.before-2.result c.in_ok-suffix.ensures c.without_last.ensures c.before-2.ensures
