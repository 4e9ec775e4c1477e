-- A text with no `%` decodes to itself.
use Rattle.std.proofs.Common.{sym, ap, ◌∙◌}
use Rattle.git_syntax.specs.Hosts.{normal_host}
use Rattle.git_syntax.specs.Internal.HostPieces.{denoted_host}
use Rattle.git_syntax.proofs.Texts.EscapeLemmas.{decode_kept}
use Rattle.git_syntax.proofs.Parsing.BufferLemmas.{normal_host_kept}
use Rattle.git_location.proofs.buffer.unescaped_slice.Goals as goal

pub returns-else-has_percent : goal.returns-else-has_percent
returns-else-has_percent c = λ low.
    sym (ap denoted_host c.in-Decoded.is ∙ ap normal_host (decode_kept c.in-Decoded.text.now (sym c.if-has_percent.ensures)) ∙ normal_host_kept c.in-Decoded.text.now low)
