-- The user ends at the last `@` before the first colon, which a bracket follows.
use Rattle.std.proofs.Common.{sym}
use Rattle.git_syntax.proofs.Parsing.ClassifierLemmas.{addressed_at, addressed_unbracketed, addressed_bracketed}
use Rattle.git_syntax.proofs.classify.cut_addressed_user.Goals as goal

pub returns-in-None : goal.returns-in-None
returns-in-None c = addressed_at c.args.bytes.now c.args.front.now c.requires.0 c.requires.1.no_colon c.requires.1.joined c.in-None.ensures

pub returns-then-starts_with_byte : goal.returns-then-starts_with_byte
returns-then-starts_with_byte c =
    rw c.split_at.ensures.back (addressed_bracketed c.args.bytes.now c.args.front.now c.requires.0 c.in-Some.user.now c.in-Some.host.now c.requires.1 c.in-Some.ensures.0 c.in-Some.ensures.1 (sym c.if-starts_with_byte.ensures))

pub returns-else-starts_with_byte : goal.returns-else-starts_with_byte
returns-else-starts_with_byte c =
    addressed_unbracketed c.args.bytes.now c.args.front.now c.requires.0 c.in-Some.user.now c.in-Some.host.now c.requires.1 c.in-Some.ensures.0 c.in-Some.ensures.1 (sym c.if-starts_with_byte.ensures)
