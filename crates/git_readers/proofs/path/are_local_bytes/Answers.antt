-- Bytes of the scp form are plain in a local path.
use Rattle.std.proofs.Common.{◌∙◌, sym}
use Rattle.git_readers.proofs.PlainBytes.{local_plain}
use Rattle.git_readers.proofs.path.are_local_bytes.Goals as goal

pub returns-then-are_scp_bytes : goal.returns-then-are_scp_bytes
returns-then-are_scp_bytes c =
    (λ all. local_plain c.args.path.now (sym c.are_scp_bytes.ensures ∙ all), λ plain. c.if-are_scp_bytes.true)
