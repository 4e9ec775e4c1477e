-- The name of no helper is reported; else the text is read, and the path kept.
use Rattle.std.proofs.Common.{refl, ap, ◌∙◌, Err}
use Rattle.std.proofs.lemmas.Result.{err_from_is_err_and}
use Rattle.gix_url.proofs.Writing.FromPartsLemmas.{invalid_made, read_made, refused_made}
use Rattle.gix_url.proofs.location.Url.from_parts.Goals as goal

pub returns-in_err-check_scheme : goal.returns-in_err-check_scheme
returns-in_err-check_scheme c =
    let (e, is, same) = err_from_is_err_and c.from_residual.result c.from_residual.ensures.1 in
    invalid_made _ _ c.in_err-check_scheme.field-0.0 (is ∙ ap (λ x. Err x) same) c.in_err-check_scheme.ensures.named

pub returns : goal.returns
returns c = rw (← c.in_ok-check_scheme.ensures.ok) (read_made _ c.in_ok-read.read c.keep_path.result refl c.law_value.ensures.value c.in_ok-check_scheme.ensures.valid c.keep_path.ensures c.in_ok-read.ensures.read c.in_ok-read.ensures.fault c.in_ok-read.ensures.settled)

pub returns-in_err-read : goal.returns-in_err-read
returns-in_err-read c =
    let (e, is, same) = err_from_is_err_and c.from_residual-in_err-read.result c.from_residual-in_err-read.ensures.1 in
    rw (← c.in_ok-check_scheme.ensures.ok) (refused_made _ _ c.in_err-read.field-0.0 (is ∙ ap (λ x. Err x) same) c.in_ok-check_scheme.ensures.valid c.in_err-read.ensures.read c.in_err-read.ensures.fault c.in_err-read.ensures.settled)
