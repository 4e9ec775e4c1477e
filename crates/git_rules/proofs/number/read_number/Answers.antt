use Rattle.std.proofs.Common.{arith}
use Rattle.std.proofs.lemmas.List.Sums.{prefix_len-le-length}
use Rattle.git_rules.proofs.number.read_number.Goals as goal
use Rattle.git_syntax.specs.Bytes.{is_c_space}

pub split_at-requires : goal.split_at-requires
split_at-requires c = omega (arith, c.blank_len.ensures, prefix_len-le-length is_c_space c.args.text.now)
