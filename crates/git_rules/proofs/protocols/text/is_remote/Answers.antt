-- The first colon of the text decides.
use Rattle.git_reads.proofs.Reading.TransportLemmas.{remote_decided}
use Rattle.git_rules.proofs.protocols.text.is_remote.Goals as goal

pub returns-in-Some : goal.returns-in-Some
returns-in-Some c = remote_decided c.args.text.now c.in-Some.front.now c.in-Some.field-0-1.now c.is_free_of.result c.in-Some.ensures.0 c.in-Some.ensures.1 c.is_free_of.ensures
