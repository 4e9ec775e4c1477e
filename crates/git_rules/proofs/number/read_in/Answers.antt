use Rattle.std.proofs.Common.{ℕ, arith}
use Rattle.std.proofs.lemmas.List.Sums.{prefix_len-le-length}
use Rattle.std.specs.Char.{is_digit}
use Rattle.git_rules.proofs.number.read_in.Goals as goal

pub split_at-requires : goal.split_at-requires
split_at-requires c = omega (arith, c.digit_len.ensures, prefix_len-le-length (λ (b : ℕ). is_digit b c.args.radix) c.args.text.now)
