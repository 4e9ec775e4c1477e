-- One common byte more.
use Rattle.std.proofs.Common.{sym}
use Rattle.git_rules.proofs.Matched.OtherHostLemmas.{further}
use Rattle.git_rules.proofs.pattern.other_host.differs_plainly.Goals as goal

pub loop-byte-preserved : goal.loop-byte-preserved
loop-byte-preserved c =
    let (front, text_is, host_is, plain) = c.loop-byte.invariant in
    further c.args.text.now c.args.host.now front c.loop-byte.rest.now c.loop-byte.own.now c.in-Some.more.now c.in-Some-first_and_rest.others.now c.in-Some.byte c.in-Some-first_and_rest.first text_is host_is plain c.in-Some.ensures c.in-Some-first_and_rest.ensures c.if-first-byte.false (sym c.if-not-is_plain_host_byte.ensures)
