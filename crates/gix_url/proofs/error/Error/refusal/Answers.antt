-- The refusal is that of the text which the error keeps, or of which it keeps the front.
use Rattle.gix_url.proofs.Unique.RefusalLemmas.{empty_returned, front_returned, kept_returned}
use Rattle.gix_url.proofs.error.Error.refusal.Goals as goal

pub returns-in-EmptyLocal-clause-read : goal.returns-in-EmptyLocal-clause-read
returns-in-EmptyLocal-clause-read c = λ b other flaw. empty_returned b c.args.self.now c.refusal_of.result c.in-EmptyLocal.is flaw c.refusal_of.ensures.found

pub returns-in-TooLong-clause-read : goal.returns-in-TooLong-clause-read
returns-in-TooLong-clause-read c = λ b other flaw. front_returned b c.as_bytes.result.now c.args.self.now c.in-TooLong.shown c.in-TooLong.total c.refusal_of_front.result c.as_bytes.ensures c.in-TooLong.is flaw c.refusal_of_front.ensures

pub returns-in-MissingPath-clause-read : goal.returns-in-MissingPath-clause-read
returns-in-MissingPath-clause-read c = λ b other flaw. kept_returned b c.as_bytes-in-MissingPath.result.now c.args.self.now c.in-MissingPath.input c.refusal_of-in-MissingPath.result c.as_bytes-in-MissingPath.ensures c.in-MissingPath.is flaw c.refusal_of-in-MissingPath.ensures.found
