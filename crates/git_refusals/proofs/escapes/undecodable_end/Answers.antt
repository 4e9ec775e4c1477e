-- A byte of ASCII is a character; a text that begins with none is at the byte at which the decoding stops
-- being UTF-8.
use Rattle.std.proofs.Common.{arith}
use Rattle.git_refusals.proofs.Refusing.EscapeLemmas.{ascii_front, left_at_fault, left_more, left_shorter, nothing_left, size_some, window_front, window_full}
use Rattle.git_refusals.proofs.escapes.undecodable_end.Goals as goal

pub loop-first-smaller-then-first-lt128 : goal.loop-first-smaller-then-first-lt128
loop-first-smaller-then-first-lt128 c =
    left_shorter c.loop-first.rest.now c.suffix-rest.result.now _ c.in-Some.first 1 c.in-Some.ensures (omega arith) c.suffix-rest.ensures

pub loop-first-preserved-then-first-lt128 : goal.loop-first-preserved-then-first-lt128
loop-first-preserved-then-first-lt128 c =
    left_more c.args.piece.now c.loop-first.rest.now c.suffix-rest.result.now 1 c.loop-first.invariant (ascii_front c.loop-first.rest.now _ c.in-Some.first c.if-first-lt128.true c.in-Some.ensures) c.suffix-rest.ensures

pub returns-then-is_none : goal.returns-then-is_none
returns-then-is_none c =
    left_at_fault c.args.piece.now c.loop-first.rest.now _ _ c.requires c.loop-first.invariant c.front-count.ensures.bytes c.decode-found.ensures.char c.if-is_none.ensures

pub loop-first-smaller : goal.loop-first-smaller
loop-first-smaller c =
    let full = window_full c.loop-first.rest.now _ _ c.in-Some.first c.in-Some.ensures c.front-count.ensures.bytes in
    left_shorter c.loop-first.rest.now c.suffix-rest-else-first-lt128.result.now _ c.in-Some.first _ c.in-Some.ensures (size_some _ _ full c.decode-found.ensures.size) c.suffix-rest-else-first-lt128.ensures

pub loop-first-preserved : goal.loop-first-preserved
loop-first-preserved c =
    left_more c.args.piece.now c.loop-first.rest.now c.suffix-rest-else-first-lt128.result.now _ c.loop-first.invariant (window_front _ _ _ _ c.front-count.ensures.bytes c.decode-found.ensures.char c.decode-found.ensures.size c.if-is_none.ensures) c.suffix-rest-else-first-lt128.ensures

pub returns : goal.returns
returns c = absurd (c.requires (nothing_left c.args.piece.now c.loop-first.rest.now c.loop-first.invariant c.in_default.ensures))
