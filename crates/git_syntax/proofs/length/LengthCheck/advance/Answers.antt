-- The bytes of the scheme and its mark are left out, in this text or in the text after it.
use Rattle.std.proofs.Common.{ap, sym, arith}
use Rattle.git_syntax.specs.Internal.LengthChecks.{is_in_time}
use Rattle.git_syntax.proofs.Parsing.LengthLemmas.{drop_joined}
use Rattle.git_syntax.proofs.length.LengthCheck.advance.Goals as goal

pub returns-then-bytes-self : goal.returns-then-bytes-self
returns-then-bytes-self c = λ suffix. ap (is_in_time c.args.self.web c.args.self.stage) (sym (drop_joined c.args.self.left c.args.bytes.now suffix (omega arith)))
