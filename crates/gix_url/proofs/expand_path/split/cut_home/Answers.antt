-- A path that begins with `/~` is these two bytes and the rest; any other doesn't begin so.
use Rattle.std.proofs.Common.{ap, refl, inl, inr, ◌∙◌, ◌∷◌}
use Rattle.git_syntax.specs.Bytes.{slash, tilde}
use Rattle.git_syntax.specs.Grammar.{begins_at_home}
use Rattle.gix_url.proofs.Homes.HomeLemmas.{no_slash_no_home, no_tilde_no_home}
use Rattle.gix_url.proofs.expand_path.split.cut_home.Goals as goal

pub returns-in_err-after : goal.returns-in_err-after
returns-in_err-after c = rw c.from_residual.ensures (no_slash_no_home c.args.path.now c.in_err-after.ensures)

pub returns-in_err-suffix : goal.returns-in_err-suffix
returns-in_err-suffix c = rw c.from_residual-in_err-suffix.ensures (ap begins_at_home c.in_ok-after.ensures ∙ no_tilde_no_home c.in_ok-after.field-0.now c.in_err-suffix.ensures)

pub returns-in-Some : goal.returns-in-Some
returns-in-Some c =
    (c.in-Some.ensures.0, inr (c.in_ok-after.ensures ∙ ap (λ t. slash ∷ t) (c.in_ok-suffix.ensures ∙ ap (λ t. tilde ∷ t) c.in-Some.ensures.1)))

pub returns-in-None : goal.returns-in-None
returns-in-None c = (c.in-None.ensures, inl (c.in_ok-after.ensures ∙ ap (λ t. slash ∷ t) c.in_ok-suffix.ensures, refl))
