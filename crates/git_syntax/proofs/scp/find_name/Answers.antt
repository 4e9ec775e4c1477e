-- The colons of the host mark no port.
use Rattle.std.proofs.Common.{inl, inr, refl}
use Rattle.std.proofs.lemmas.Bool.{false≢true}
use Rattle.git_syntax.proofs.Parsing.ScpLemmas.{name_found, colons_found, no_port_found}
use Rattle.git_syntax.proofs.scp.find_name.Goals as goal
use Rattle.git_syntax.proofs.scp.find_name.Goals.{then-is_empty-via-then-is_empty, then-is_empty-via-else-is_empty+then-not-is_free_of}

pub returns-in_default-clause-read : goal.returns-in_default-clause-read
returns-in_default-clause-read c = name_found c.args.host.now c.requires.some c.requires.open_front c.requires.text c.in_default.ensures

pub returns-then-is_empty-clause-read : goal.returns-then-is_empty-clause-read
returns-then-is_empty-clause-read c =
    colons_found c.args.host.now c.in-Some.front.now c.in-Some.suffix.now c.requires.open_front c.requires.text c.requires.colons c.in-Some.ensures.1
    (elim c.then-is_empty.branch [
      | then-is_empty-via-then-is_empty w ↦ inl w.if-is_empty.ensures
      | then-is_empty-via-else-is_empty+then-not-is_free_of w ↦ inr (λ h. false≢true (w.if-not-is_free_of.ensures.1 h))
    ])

pub returns-clause-read : goal.returns-clause-read
returns-clause-read c =
    no_port_found c.args.host.now c.in-Some.front.now c.in-Some.suffix.now c.requires.open_front c.requires.colons c.in-Some.ensures.0 c.in-Some.ensures.1 c.if-is_empty.ensures (c.if-not-is_free_of.ensures.0 refl)
