-- At the end each byte may follow the one before it.
use Rattle.std.proofs.Common.{◌∙◌, sym, arith}
use Rattle.std.proofs.lemmas.Bool.{leb-true}
use Rattle.std.proofs.lemmas.List.{at_drop_all}
use Rattle.git_readers.proofs.NameLemmas.{common_name, follows}
use Rattle.git_readers.proofs.host.is_common_name.Goals as goal

pub returns-then-is_label_end : goal.returns-then-is_label_end
returns-then-is_label_end c short =
    let host = c.args.host.now in
    let ended = at_drop_all (follows c.loop-byte.before) host c.loop-byte.byte-index (omega arith) in
    common_name host (sym c.loop-byte.invariant ∙ ended ∙ sym c.is_label_end.ensures ∙ c.if-is_label_end.true) (leb-true _ _ short)
