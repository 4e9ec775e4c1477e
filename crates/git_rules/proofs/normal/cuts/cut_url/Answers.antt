-- A text that doesn't begin with a scheme, a colon and two slashes isn't a URL.
use Rattle.std.proofs.Common.{sym}
use Rattle.git_rules.proofs.NormalForms.NormalCutLemmas.{no_scheme_no_url, no_slash_no_url, one_slash_no_url}
use Rattle.git_rules.proofs.normal.cuts.cut_url.Goals as goal

pub returns-then-not-is_scheme_text : goal.returns-then-not-is_scheme_text
returns-then-not-is_scheme_text c = λ s a b h.
    no_scheme_no_url c.args.text.now c.in_ok-scheme.scheme.now c.in_ok-scheme.suffix.now s a b c.in_ok-scheme.ensures.0 c.in_ok-scheme.ensures.1 (sym c.if-not-is_scheme_text.ensures) h

pub returns-in_err-more : goal.returns-in_err-more
returns-in_err-more c = rw c.from_residual-in_err-more.ensures
    (λ s a b h. no_slash_no_url c.args.text.now c.in_ok-scheme.scheme.now c.in_ok-scheme.suffix.now s a b c.in_ok-scheme.ensures.0 c.in_ok-scheme.ensures.1 c.in_err-more.ensures h)

pub returns-in_err-rest : goal.returns-in_err-rest
returns-in_err-rest c = rw c.from_residual-in_err-rest.ensures
    (λ s a b h. one_slash_no_url c.args.text.now c.in_ok-scheme.scheme.now c.in_ok-scheme.suffix.now c.in_ok-more.more.now s a b c.in_ok-scheme.ensures.0 c.in_ok-scheme.ensures.1 c.in_ok-more.ensures c.in_err-rest.ensures h)
