-- User information, and a host and a port, are the texts around the last `@`.
use Rattle.std.proofs.Common.{◌∷◌, ◌++◌, ap, ◌∙◌}
use Rattle.std.proofs.lemmas.Result.{err_from_is_err_and}
use Rattle.git_syntax.specs.Bytes.{at_sign}
use Rattle.git_syntax.specs.Authority.Authority.{with_user}
use Rattle.git_syntax.specs.Flaws.{AuthorityFlaw, PieceOf}
use Rattle.git_syntax.proofs.Parsing.UrlLemmas.{nothing_named, none_host, some_host, no_name_after, no_text_before, no_host_after, bad_user_flaw}
use Rattle.git_syntax.proofs.url_syntax.read_marked.Goals as goal

pub returns-in_err-credentials-clause-refused : goal.returns-in_err-credentials-clause-refused
returns-in_err-credentials-clause-refused c =
    let p = err_from_is_err_and c.from_residual.result c.from_residual.ensures.1 in
    rw (p.1) (no_text_before _ c.args.needed _ c.in-Some.information.now c.in-Some.piece.now c.in-Some.ensures.0 c.in-Some.ensures.1 c.in_err-credentials.ensures.1)

pub returns-in_err-credentials-clause-flaw : goal.returns-in_err-credentials-clause-flaw
returns-in_err-credentials-clause-flaw c =
    let p = err_from_is_err_and c.from_residual.result c.from_residual.ensures.1 in
    rw (p.1, p.2, c.in_err-credentials.ensures.0) (bad_user_flaw _ c.args.needed _ c.in-Some.information.now c.in-Some.piece.now c.in-Some.ensures.0 c.in-Some.ensures.1 c.in_err-credentials.ensures.1)

pub returns-in_err-host-clause-refused : goal.returns-in_err-host-clause-refused
returns-in_err-host-clause-refused c =
    let p = err_from_is_err_and c.from_residual-in_err-host.result c.from_residual-in_err-host.ensures.1 in
    rw (p.1) (no_name_after _ c.args.needed _ c.in-Some.information.now c.in-Some.piece.now c.in-Some.ensures.0 c.in-Some.ensures.1 c.in_err-host.ensures.unnamed)

pub returns-in_err-host-clause-flaw : goal.returns-in_err-host-clause-flaw
returns-in_err-host-clause-flaw c =
    let p = err_from_is_err_and c.from_residual-in_err-host.result c.from_residual-in_err-host.ensures.1 in
    rw (p.1, p.2) (AuthorityFlaw.bad_name c.in-Some.piece.now _ (PieceOf.suffix c.in-Some.information.now c.in-Some.ensures.0 c.in-Some.ensures.1) c.in_err-host.ensures.flaw)

pub returns-then-is_none-clause-refused : goal.returns-then-is_none-clause-refused
returns-then-is_none-clause-refused c =
    let empty = nothing_named _ c.in-Some.piece.now _ _ c.in_ok-host.ensures.named (none_host c.in_ok-host.host c.if-is_none.ensures) in
    no_host_after _ c.args.needed _ c.in-Some.information.now c.in-Some.piece.now c.in-Some.ensures.0 c.in-Some.ensures.1 empty

pub returns-then-is_none-clause-flaw : goal.returns-then-is_none-clause-flaw
returns-then-is_none-clause-flaw c =
    let empty = nothing_named _ c.in-Some.piece.now _ _ c.in_ok-host.ensures.named (none_host c.in_ok-host.host c.if-is_none.ensures) in
    AuthorityFlaw.no_host c.in-Some.information.now (c.in-Some.ensures.1 ∙ ap (λ p. c.in-Some.information.now ++ at_sign ∷ p) empty)

pub returns-clause-read : goal.returns-clause-read
returns-clause-read c =
    let some = some_host c.in_ok-host.host c.if-is_none.ensures in
    record { named = with_user c.in-Some.information.now c.in-Some.piece.now c.in-Some.ensures.0 c.in-Some.ensures.1 c.in_ok-credentials.ensures c.in_ok-host.ensures.named some; hosted = λ need. some }
