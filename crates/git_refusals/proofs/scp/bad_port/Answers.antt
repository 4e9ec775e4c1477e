-- The colons of the host mark no port, or the text after the only one is in a port's place.
use Rattle.std.proofs.Common.{inl, inr, refl, sym, subst}
use Rattle.std.proofs.lemmas.Bool.{false≢true}
use Rattle.git_refusals.specs.Internal.Readable.{Checks, NamesScpHost}
use Rattle.git_refusals.specs.Reasons.{BadScpName}
use Rattle.git_refusals.proofs.Refusing.ScpLemmas.{name_read, colons_read, port_place_found}
use Rattle.git_refusals.proofs.scp.bad_port.Goals as goal
use Rattle.git_refusals.proofs.scp.bad_port.Goals.{then-is_empty-via-then-is_empty, then-is_empty-via-else-is_empty+then-not-is_free_of}

pub returns-in_err-front : goal.returns-in_err-front
returns-in_err-front c =
    subst (λ r. Checks c.args.host.now (BadScpName c.args.host.now) (NamesScpHost c.args.host.now) r) (sym c.from_residual.ensures)
    (name_read c.args.host.now c.requires.some c.requires.open_front c.requires.text c.in_err-front.ensures)

pub returns-then-is_empty : goal.returns-then-is_empty
returns-then-is_empty c =
    colons_read c.args.host.now c.in_ok-front.front.now c.in_ok-front.suffix.now c.requires.open_front c.requires.text c.requires.colons c.in_ok-front.ensures.1
    (elim c.then-is_empty.branch [
      | then-is_empty-via-then-is_empty w ↦ inl w.if-is_empty.ensures
      | then-is_empty-via-else-is_empty+then-not-is_free_of w ↦ inr (λ h. false≢true (w.if-not-is_free_of.ensures.1 h))
    ])

pub returns : goal.returns
returns c =
    port_place_found c.args.host.now c.in_ok-front.front.now c.in_ok-front.suffix.now c.requires.open_front c.in_ok-front.ensures.0 c.in_ok-front.ensures.1 c.if-is_empty.ensures (c.if-not-is_free_of.ensures.0 refl)
