-- Two slashes after the first colon are the first mark, and without another colon there is no other.
use Rattle.std.proofs.Common.{refl}
use Rattle.git_syntax.proofs.Parsing.ClassifierLemmas.{mark_at_colon, no_mark_at_colon}
use Rattle.git_syntax.proofs.classify.cut_url.Goals as goal

pub returns-in-Some : goal.returns-in-Some
returns-in-Some c = mark_at_colon c.args.bytes.now c.args.front.now c.args.rest.now c.in-Some.suffix.now c.requires c.in-Some.ensures

pub returns-then-is_free_of : goal.returns-then-is_free_of
returns-then-is_free_of c = no_mark_at_colon c.args.bytes.now c.args.front.now c.args.rest.now c.requires c.in-None.ensures (c.if-is_free_of.ensures.0 refl)
