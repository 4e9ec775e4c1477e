-- The rows are lemmas.
use Rattle.git_laws.proofs.Examples.RowGitLemmas.{credential_rows, git_text_rows, git_url_rows, no_git_rows}
use Rattle.git_laws.proofs.rows.law_git.Goals as goal

pub returns : goal.returns
returns c = record { urls = git_url_rows; others = git_text_rows; none = no_git_rows; credentials = credential_rows }
