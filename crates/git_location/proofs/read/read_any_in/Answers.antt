-- The location or the refusal is the result of reading into a buffer.
use Rattle.std.proofs.Common.{Ok, Err, ap, sym, subst, length, arith}
use Rattle.git_location.specs.declared.parse_error.ParseError.TheVariants.{Refused}
use Rattle.git_syntax.specs.Grammar.{Spells}
use Rattle.git_location.proofs.Unique.AnsweredLemmas.{reads_in_by}
use Rattle.git_location.proofs.read.read_any_in.Goals as goal

pub returns-in-Err : goal.returns-in-Err
returns-in-Err c = reads_in_by c.args.text.now (length c.args.buffer.now) (Err (Refused c.refusal.result)) tt (c.in-Err.ensures.refused, c.refusal.ensures.refused c.in-Err.ensures.refused) tt (λ e. ap (λ r. Err (Refused r)) (c.refusal.ensures.empty e))

pub returns-else-buffer-text : goal.returns-else-buffer-text
returns-else-buffer-text c = reads_in_by c.args.text.now (length c.args.buffer.now) (Ok c.to_url_ref.result) (subst (Spells c.args.text.now) (sym c.to_url_ref.ensures) c.in-Ok.ensures.found) tt (omega (arith, c.if-buffer-text.false)) (λ e. let wrong = c.in-Ok.ensures.empty e in cc)
