-- Outside brackets the only colon after a host marks a port, if something follows it.
use Rattle.std.proofs.Common.{refl}
use Rattle.std.proofs.lemmas.Bool.{false≢true}
use Rattle.git_syntax.proofs.Parsing.ClassifierLemmas.{nil_tested}
use Rattle.git_syntax.proofs.Parsing.HostLemmas.{some_tested}
use Rattle.git_parts.proofs.Cutting.PartLemmas.{free_alone, first_alone, last_alone, again_alone, only_port}
use Rattle.git_parts.proofs.parts.authority.digits_after_host.Goals as goal

pub returns-in_err-host : goal.returns-in_err-host
returns-in_err-host c = rw c.from_residual.ensures (free_alone c.args.piece.now c.requires c.in_err-host.ensures)

pub returns-then-is_empty : goal.returns-then-is_empty
returns-then-is_empty c = first_alone c.args.piece.now c.in_ok-host.host.now c.in_ok-host.digits.now c.requires c.if-is_empty.ensures c.in_ok-host.ensures.1

pub returns-then-is_empty-2 : goal.returns-then-is_empty-2
returns-then-is_empty-2 c =
    last_alone c.args.piece.now c.in_ok-host.host.now c.in_ok-host.digits.now c.requires c.if-is_empty.ensures c.in_ok-host.ensures.0 c.in_ok-host.ensures.1 (nil_tested c.in_ok-host.digits.now c.if-is_empty-2.ensures)

pub returns-then-is_free_of : goal.returns-then-is_free_of
returns-then-is_free_of c =
    only_port c.args.piece.now c.in_ok-host.host.now c.in_ok-host.digits.now c.requires c.if-is_empty.ensures c.in_ok-host.ensures.0 (c.if-is_free_of.ensures.0 refl) (some_tested c.in_ok-host.digits.now c.if-is_empty-2.ensures) c.in_ok-host.ensures.1

pub returns : goal.returns
returns c =
    again_alone c.args.piece.now c.in_ok-host.host.now c.in_ok-host.digits.now c.requires (λ free. false≢true (c.if-is_free_of.ensures.1 free)) c.in_ok-host.ensures.1
