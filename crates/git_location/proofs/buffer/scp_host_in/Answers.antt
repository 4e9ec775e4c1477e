-- A literal in lower case stays as it is.
use Rattle.std.proofs.Common.{refl, sym, ◌∙◌, ap}
use Rattle.git_syntax.specs.Internal.FoundPieces.{scp_host_of}
use Rattle.git_syntax.proofs.Parsing.BufferLemmas.{lowercase_address_kept}
use Rattle.git_location.proofs.buffer.scp_host_in.Goals as goal

pub returns-then-is_lowercase : goal.returns-then-is_lowercase
returns-then-is_lowercase c = sym (ap scp_host_of c.in-Literal.is ∙ lowercase_address_kept c.in-Literal.text.now (c.if-is_lowercase.ensures.0 refl))
