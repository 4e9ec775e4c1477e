-- An escape is three bytes.
use Rattle.std.proofs.Common.{◌∙◌, ◌≡◌, length, arith}
use Rattle.git_rules.proofs.NormalForms.NormalTextLemmas.{escaped_length}
use Rattle.git_rules.proofs.normal.escapes.write_byte.Goals as goal

pub put-requires : goal.put-requires
put-requires c =
    let three : length c.as_bytes.result.now ≡ 3 = escaped_length c.as_bytes.result.now c.args.byte (c.as_bytes.ensures.value ∙ c.percent_encode_byte.ensures) in
    omega (arith, three, c.requires)

pub returns-then-is_reserved-clause-most : goal.returns-then-is_reserved-clause-most
returns-then-is_reserved-clause-most c =
    let three : length c.as_bytes.result.now ≡ 3 = escaped_length c.as_bytes.result.now c.args.byte (c.as_bytes.ensures.value ∙ c.percent_encode_byte.ensures) in
    omega (arith, three, c.put.ensures.end)
