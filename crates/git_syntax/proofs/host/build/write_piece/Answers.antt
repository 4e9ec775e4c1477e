-- Brackets are around the shown text.
use Rattle.std.proofs.Common.{arith, sym, ◌∙◌}
use Rattle.git_syntax.proofs.Parsing.BufferLemmas.{bracketed_host, bracketed_host_length, brackets_put}
use Rattle.git_syntax.proofs.host.build.write_piece.Goals as goal

pub write_shown-size-requires : goal.write_shown-size-requires
write_shown-size-requires c =
    omega (arith, bracketed_host_length c.args.piece (sym c.if-not-is_bracketed.ensures), c.requires, c.split_at_mut-front.ensures.back_len)

pub returns-clause-bytes : goal.returns-clause-bytes
returns-clause-bytes c =
    let brackets = sym c.if-not-is_bracketed.ensures in
    brackets_put c.split_at_mut-front.result.0.now c.write_shown-size.new.buffer _ c.write_shown-size.result c.split_at_mut-front.ensures.front_len
    (omega (arith, bracketed_host_length c.args.piece brackets, c.requires, c.split_at_mut-front.ensures.back_len, c.write_shown-size.ensures.size, c.write_shown-size.auto.buffer))
    c.write_shown-size.ensures.bytes
    ∙ sym (bracketed_host c.args.piece brackets)
