-- Each piece has two numbers.
use Rattle.std.proofs.Common.{◌<◌, length, arith, rules}
use Rattle.std.specs.List.{flat_map}
use Rattle.git_audit.specs.Secrets.{parts_of}
use Rattle.c_values.specs.PieceNumbers.{part_numbers}
use Rattle.c_values.proofs.PieceLemmas.{two_each}
use Rattle.c_values.proofs.rules.secrets.write_secrets.Goals as goal

pub returns-then-numbers-count-clause-reported : goal.returns-then-numbers-count-clause-reported
returns-then-numbers-count-clause-reported c =
    let parts = parts_of c.args.text.now in
    let two = two_each parts in
    let short : length c.args.numbers.now < length (flat_map part_numbers parts) =
    omega (arith, two, c.count_pieces.ensures, c.if-numbers-count.true) in
    (c.count_pieces.ensures, search (rules, short))

pub write_pieces-requires : goal.write_pieces-requires
write_pieces-requires c =
    let two = two_each (parts_of c.args.text.now) in
    omega (arith, two, c.count_pieces.ensures, c.if-numbers-count.false)
