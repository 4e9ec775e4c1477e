-- The rows are lemmas.
use Rattle.git_laws.proofs.Examples.RowByteLemmas.{name_byte_rows, host_byte_rows, white_space_rows, git_byte_rows, quick_byte_rows, escaped_byte_rows, escape_set_rows}
use Rattle.git_laws.proofs.rows.law_bytes.Goals as goal

pub returns : goal.returns
returns c = record { names = name_byte_rows; hosts = host_byte_rows; white_space = white_space_rows; git = git_byte_rows; quick = quick_byte_rows; documented = escaped_byte_rows; sets = escape_set_rows }
