use Rattle.explain_report.proofs.text.seen.Seen.of_other.Goals as goal

pub returns-in-Err : goal.returns-in-Err
returns-in-Err c = c.of_error.ensures c.args.line.now c.args.url.now c.requires.secret
