-- The last `@` of the word ends a user that isn't empty.
use Rattle.std.proofs.Common.{refl}
use Rattle.git_reads.specs.Git.{UserCut}
use Rattle.git_reads.proofs.Reading.TransportLemmas.{user_refused}
use Rattle.git_reads.proofs.transport.cut_user.Goals as goal

pub returns-in-Some-empty-default : goal.returns-in-Some-empty-default
returns-in-Some-empty-default c = user_refused c.args.word.now c.in-Some-empty-default.field-0-0.now c.in-Some-empty-default.field-0-1.now c.in-Some-empty-default.len_below c.in-Some-empty-default.ensures.0 c.in-Some-empty-default.ensures.1

pub returns-in-Some : goal.returns-in-Some
returns-in-Some c = UserCut.with_user c.in-Some.user.now c.in-Some.len_at_least c.in-Some.ensures.0 c.in-Some.ensures.1 refl
