-- The name that is reported is the scheme's, and not a helper's.
use Rattle.std.proofs.Common.{sym, ap, ◌∙◌}
use Rattle.std.proofs.lemmas.Bool.{cond-false}
use Rattle.git_syntax.specs.Bytes.{is_helper_name}
use Rattle.gix_url.specs.Views.{owned_scheme}
use Rattle.gix_url.specs.FromParts.{invalid_name}
use Rattle.gix_url.proofs.from_parts.check_scheme.Goals as goal

pub returns-else-is_helper_name-clause-named : goal.returns-else-is_helper_name-clause-named
returns-else-is_helper_name-clause-named c =
    let tested = ap is_helper_name (sym c.as_bytes.ensures.value) ∙ sym c.is_helper_name.ensures ∙ c.if-is_helper_name.false in
    let invalid = ap (λ s. invalid_name (owned_scheme s)) c.in-Helper.is ∙ cond-false _ _ _ tested in
    (_, invalid, c.invalid.ensures)
