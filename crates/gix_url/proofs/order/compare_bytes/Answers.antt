-- Bytes that are equal come neither first nor last.
use Rattle.std.proofs.Common.{◌∙◌, sym, bytes_eq}
use Rattle.std.specs.Cmp.Lexicographic.{texts_ties}
use Rattle.git_laws.specs.Order.{bytes_cmp}
use Rattle.git_laws.proofs.Order.OrderLemmas.{tied_is_equal}
use Rattle.gix_url.proofs.order.compare_bytes.Goals as goal

pub returns-then-bytes_equal : goal.returns-then-bytes_equal
returns-then-bytes_equal c = sym ((tied_is_equal bytes_eq bytes_cmp texts_ties c.args.a.now c.args.b.now).1 (sym c.bytes_equal.ensures ∙ c.if-bytes_equal.true))
