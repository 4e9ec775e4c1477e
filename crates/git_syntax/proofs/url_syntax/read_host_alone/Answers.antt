-- The whole authority names a host and a port.
use Rattle.std.proofs.Common.{refl}
use Rattle.std.proofs.lemmas.Bool.{both_ways}
use Rattle.std.proofs.lemmas.Result.{err_from_is_err_and}
use Rattle.git_syntax.specs.Authority.Authority.{host_alone}
use Rattle.git_syntax.specs.Flaws.{AuthorityFlaw, PieceOf}
use Rattle.git_syntax.proofs.Parsing.UrlLemmas.{nothing_named, none_host, some_host, no_name_alone, no_host_alone}
use Rattle.git_syntax.proofs.url_syntax.read_host_alone.Goals as goal
use Rattle.git_syntax.proofs.url_syntax.read_host_alone.Goals.{else-needed-via-then-needed+else-is_none, else-needed-via-else-needed}

pub returns-in_err-host-clause-refused : goal.returns-in_err-host-clause-refused
returns-in_err-host-clause-refused c =
    let p = err_from_is_err_and c.from_residual.result c.from_residual.ensures.1 in
    rw (p.1) (no_name_alone _ c.args.needed _ c.requires c.in_err-host.ensures.unnamed)

pub returns-in_err-host-clause-flaw : goal.returns-in_err-host-clause-flaw
returns-in_err-host-clause-flaw c =
    let p = err_from_is_err_and c.from_residual.result c.from_residual.ensures.1 in
    rw (p.1, p.2) (AuthorityFlaw.bad_name c.args.authority.now _ (PieceOf.whole c.requires refl) c.in_err-host.ensures.flaw)

pub returns-then-is_none-clause-refused : goal.returns-then-is_none-clause-refused
returns-then-is_none-clause-refused c =
    let empty = nothing_named _ _ _ _ c.in_ok-host.ensures.named (none_host c.in_ok-host.host c.if-is_none.ensures) in
    no_host_alone _ c.args.needed _ c.if-needed.true c.requires empty

pub returns-then-is_none-clause-flaw : goal.returns-then-is_none-clause-flaw
returns-then-is_none-clause-flaw c =
    let empty = nothing_named _ _ _ _ c.in_ok-host.ensures.named (none_host c.in_ok-host.host c.if-is_none.ensures) in
    AuthorityFlaw.host_required c.if-needed.true empty

pub returns-clause-read : goal.returns-clause-read
returns-clause-read c = record {
  named = host_alone c.requires c.in_ok-host.ensures.named refl refl;
  hosted = λ need. elim c.else-needed.branch [
    | else-needed-via-then-needed+else-is_none w ↦ some_host c.in_ok-host.host w.if-is_none.ensures
    | else-needed-via-else-needed w ↦ absurd (both_ways _ w.if-needed.false need)
  ];
}
