-- The buffer is as long as the bytes, so it suffices.
use Rattle.std.proofs.Common.{Ok, Err, length}
use Rattle.git_location.specs.declared.parse_error.ParseError.TheVariants as unread
use Rattle.c_values.proofs.ReadingLemmas.{read_with_buffer, refused_so}
use Rattle.c_values.proofs.reading.read_in.Goals as goal

pub returns-in-Ok-clause-reported : goal.returns-in-Ok-clause-reported
returns-in-Ok-clause-reported c =
    let answer = Ok c.in-Ok.url in
    let read = read_with_buffer c.args.input.now (length c.args.scratch.now) answer c.requires c.in-Ok.ensures in
    (answer, read, (c.no_problem.ensures, c.write_location.ensures.reported))

pub returns-in-Err-Refused-clause-reported : goal.returns-in-Err-Refused-clause-reported
returns-in-Err-Refused-clause-reported c =
    let refused = c.in-Err-Refused in
    let answer = Err (unread.Refused refused.refusal) in
    let read = refused_so c.args.input.now (length c.args.scratch.now) refused.field-0 refused.refusal refused.field-0-is refused.ensures in (
      answer,
      read_with_buffer c.args.input.now (length c.args.scratch.now) answer c.requires read,
      (c.refusal_code.ensures, c.problem_of_refusal.ensures),
    )
