-- A text with no `%` decodes to itself. A buffer as long as a text suffices for its decoding.
use Rattle.std.proofs.Common.{arith, sym}
use Rattle.percent_encoding.proofs.PercentLemmas.{length-percent_decode}
use Rattle.git_syntax.proofs.Texts.EscapeLemmas.{decode_kept}
use Rattle.gix_url.proofs.decoded.decode.Goals as goal

pub returns-then-not-has_percent : goal.returns-then-not-has_percent
returns-then-not-has_percent c = rw (decode_kept c.args.text.now (sym c.if-not-has_percent.ensures)) c.from_slice.ensures.items

pub decode_into-size-requires : goal.decode_into-size-requires
decode_into-size-requires c = omega (arith, c.as_mut_slice.ensures.len, c.in_ok-bytes.ensures.len, (length-percent_decode c.args.text.now).0)
