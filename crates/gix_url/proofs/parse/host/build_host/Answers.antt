-- A host takes three bytes more than its slice at most.
use Rattle.std.proofs.Common.{arith, length, ap}
use Rattle.git_syntax.proofs.Parsing.BufferLemmas.{named_text_length}
use Rattle.gix_url.proofs.parse.host.build_host.Goals as goal

pub write_into-size-requires : goal.write_into-size-requires
write_into-size-requires c =
    omega (arith, named_text_length c.args.host, ap length c.deref_mut.ensures.value, c.in_ok-text.ensures.len, ap length c.piece_bytes.ensures)
