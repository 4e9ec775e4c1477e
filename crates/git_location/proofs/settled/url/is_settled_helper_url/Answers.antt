-- The text is that of a URL.
use Rattle.std.proofs.Common.{sym, ◌∙◌}
use Rattle.std.proofs.lemmas.Bool.{false≢true}
use Rattle.git_location.proofs.Writing.WrittenAsUrlLemmas.{written_other}
use Rattle.git_location.proofs.settled.url.is_settled_helper_url.Goals as goal
use Rattle.git_location.proofs.settled.url.is_settled_helper_url.Goals.{then-not-is_known_scheme, else-not-is_known_scheme}

pub is_settled_raw-requires : goal.is_settled_raw-requires
is_settled_raw-requires c = elim c.if-not-is_known_scheme.branch [
  | then-not-is_known_scheme w ↦ written_other c.args.url.now c.args.name.now c.requires (sym w.is_scheme_text.ensures ∙ sym w.value-is ∙ c.if-is_scheme_text.true)
  | else-not-is_known_scheme w ↦ absurd (false≢true (sym w.if-not-is_known_scheme.false ∙ sym w.value-is ∙ c.if-is_scheme_text.true))
]
