-- The three bytes of an escape.
use Rattle.std.proofs.Common.{◌∙◌, ◌++◌, arith, ap, sym, take}
use Rattle.git_location.proofs.Writing.EscapedLemmas.{escape_of, three_more}
use Rattle.git_location.proofs.writer.escaped.write_byte.Goals as goal

pub returns-then-should_percent_encode-clause-bytes : goal.returns-then-should_percent_encode-clause-bytes
returns-then-should_percent_encode-clause-bytes c =
    three_more c.args.buffer.now c.args.at 37 c.digit.result c.digit-then-should_percent_encode.result (omega (arith, c.requires, c.fits-buffer)) ∙
    ap (λ l. take c.args.at c.args.buffer.now ++ l) (escape_of c.args.set c.args.byte c.digit.result c.digit-then-should_percent_encode.result c.ranges.byte.fits (sym c.should_percent_encode.ensures ∙ c.if-should_percent_encode.true) c.digit.ensures c.digit-then-should_percent_encode.ensures)
