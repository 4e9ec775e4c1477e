-- A simple text spells its location, so it is read.
use Rattle.std.proofs.Common.{Ok, length, arith, subst, sym}
use Rattle.git_syntax.specs.Internal.SimplePieces.{simple_location}
use Rattle.git_location.specs.Readings.{ReadsIn}
use Rattle.git_location.proofs.Unique.AnsweredLemmas.{simple_read, simple_short}
use Rattle.git_location.proofs.url_ref.UrlRef.parse_in.Goals as goal

pub returns-then-buffer-text : goal.returns-then-buffer-text
returns-then-buffer-text c = simple_short c.args.text.now (length c.args.buffer.now) (simple_location c.in-Some.pieces) c.in-Some.ensures (omega (arith, c.if-buffer-text.true))

pub returns-in-Some : goal.returns-in-Some
returns-in-Some c =
    let read = simple_read c.args.text.now (length c.args.buffer.now) (simple_location c.in-Some.pieces) c.in-Some.ensures (omega (arith, c.if-buffer-text.false)) in
    subst (λ v. ReadsIn c.args.text.now (length c.args.buffer.now) (Ok v)) (sym c.simple_url_ref.ensures) read
