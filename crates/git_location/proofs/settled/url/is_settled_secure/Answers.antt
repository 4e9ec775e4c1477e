-- The text is that of a URL.
use Rattle.std.proofs.Common.{sym, ◌∙◌}
use Rattle.std.proofs.lemmas.Bool.{false≢true}
use Rattle.git_location.proofs.Writing.WrittenAsUrlLemmas.{written_secure}
use Rattle.git_location.proofs.settled.url.is_settled_secure.Goals as goal
use Rattle.git_location.proofs.settled.url.is_settled_secure.Goals.{then-has_bare_host, else-has_bare_host}

pub is_settled_raw-requires : goal.is_settled_raw-requires
is_settled_raw-requires c = elim c.if-has_bare_host.branch [
  | then-has_bare_host w ↦ written_secure c.args.url.now c.requires (w.is_transport_path.ensures.0 (sym w.value-is ∙ c.if-is_transport_path.true))
  | else-has_bare_host w ↦ absurd (false≢true (sym w.if-has_bare_host.false ∙ sym w.value-is ∙ c.if-is_transport_path.true))
]
