-- The front and the token are before the rest.
use Rattle.std.proofs.Common.{◌∙◌, ap, drop, take}
use Rattle.git_secrets.specs.Secrets.{before_path, ends_as_web, named_parts, token_len}
use Rattle.git_secrets.proofs.Cuts.LeftLemmas.{fronted}
use Rattle.git_secrets.proofs.left.Left.from.Goals as goal

pub returns : goal.returns
returns c =
    let rest = c.split_at.ensures.back in
    let len = c.token_len.ensures.place
    ∙ ap (λ t. token_len t c.before_path.result.now) (c.ends_as_web.ensures ∙ ap ends_as_web c.split_at.ensures.front)
    ∙ ap (token_len _) (c.before_path.ensures.text ∙ ap (before_path c.args.web) rest) in
    fronted c.named.result c.split_at.result.0 c.split_at-2.result.0 c.args.web c.args.is_url c.args.at c.token_len.result c.args.text.now
    c.named.ensures.empty c.named.ensures.web c.split_at.ensures.front
    (c.split_at-2.ensures.front ∙ ap (λ t. take c.token_len.result t) rest) len
    (c.named.ensures.parts ∙ ap (named_parts c.args.web c.args.is_url) (c.split_at-2.ensures.back ∙ ap (drop c.token_len.result) rest))
