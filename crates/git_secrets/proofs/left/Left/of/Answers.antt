-- With `://`, or without it.
use Rattle.std.proofs.Common.{◌∙◌}
use Rattle.git_secrets.proofs.Cuts.LeftLemmas.{of_bare, of_url}
use Rattle.git_secrets.proofs.left.Left.of.Goals as goal

pub returns-in-None : goal.returns-in-None
returns-in-None c =
    c.from.ensures ∙ of_bare c.args.text.now c.split_at.result.1.now c.helper_len-helper.result c.bare_scheme_len.result c.is_web.result c.helper_len-helper.ensures.place c.split_at.ensures.back c.in-None.ensures.place c.is_web.ensures c.bare_scheme_len.ensures.place

pub returns-in-Some : goal.returns-in-Some
returns-in-Some c =
    c.from-in-Some.ensures ∙ of_url c.args.text.now c.split_at.result.1.now c.helper_len-helper.result c.in-Some.at c.end.result c.is_web-in-Some.result c.helper_len-helper.ensures.place c.split_at.ensures.back c.in-Some.ensures.place c.is_web-in-Some.ensures c.end.ensures
