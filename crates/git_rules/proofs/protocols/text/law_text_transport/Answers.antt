-- Each law is a lemma.
use Rattle.git_rules.proofs.Allowed.TransportLemmas.{has_or_lacks, one_transport}
use Rattle.git_rules.proofs.Allowed.TransportLawLemmas.{each_decided, transport_of_location, transport_of_reading}
use Rattle.git_rules.proofs.protocols.text.law_text_transport.Goals as goal

pub returns-clause-one : goal.returns-clause-one
returns-clause-one c = one_transport

pub returns-clause-apart : goal.returns-clause-apart
returns-clause-apart c = has_or_lacks

pub returns-clause-each : goal.returns-clause-each
returns-clause-each c = each_decided

pub returns-clause-read : goal.returns-clause-read
returns-clause-read c = transport_of_reading

pub returns-clause-located : goal.returns-clause-located
returns-clause-located c = transport_of_location c.law_git.ensures.alike
