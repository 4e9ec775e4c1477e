-- The last entries that set the keys are those of the section.
use Rattle.git_rules.proofs.Allowed.SectionLemmas.{section_decides}
use Rattle.git_rules.proofs.protocols.law_section.Goals as goal

pub returns : goal.returns
returns c = section_decides
