-- Each law is a lemma.
use Rattle.git_laws.proofs.LineAnswers.AnswerLemmas.{one_line, line_for_line}
use Rattle.git_laws.proofs.LineAnswers.SplitLemmas.{one_split}
use Rattle.git_laws.proofs.laws.law_lines.Goals as goal

pub returns : goal.returns
returns c = record { one_line = one_line; line_for_line = line_for_line; one_split = one_split }
