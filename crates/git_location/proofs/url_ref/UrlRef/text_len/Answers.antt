-- The fault is returned as it is.
use Rattle.std.proofs.Common.{ap}
use Rattle.std.proofs.lemmas.Result.{err_from_is_err_and}
use Rattle.git_location.specs.Internal.Pieces.{text_length}
use Rattle.git_location.proofs.url_ref.UrlRef.text_len.Goals as goal

pub returns-in_err-pieces : goal.returns-in_err-pieces
returns-in_err-pieces c =
    let reported = err_from_is_err_and c.from_residual.result c.from_residual.ensures.1 in
    rw (reported.1, reported.2) (ap text_length c.in_err-pieces.ensures)
