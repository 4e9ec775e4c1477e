-- The host that Secure Shell takes from a text is the only host that it takes.
use Rattle.git_syntax.proofs.Parsing.FoundLemmas.{peels}
use Rattle.git_syntax.proofs.Unique.UniqueLemmas.{ssh_host_unique}
use Rattle.git_syntax.proofs.ssh_host.ssh_host_text.Goals as goal

pub returns-then-starts_with_byte : goal.returns-then-starts_with_byte
returns-then-starts_with_byte c = ssh_host_unique _ _ _ c.strip_brackets.ensures (peels _)

pub returns : goal.returns
returns c = ssh_host_unique _ _ _ c.strip_colon.ensures (peels _)
