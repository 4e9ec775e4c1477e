-- A simple host is text.
use Rattle.std.proofs.Common.{refl}
use Rattle.git_syntax.proofs.Parsing.HostLemmas.{simple_utf8}
use Rattle.git_syntax.proofs.simple.simple_name.Goals as goal

pub as_text-requires : goal.as_text-requires
as_text-requires c = simple_utf8 c.args.text.text.now (c.if-is_simple_host.ensures refl).bytes
