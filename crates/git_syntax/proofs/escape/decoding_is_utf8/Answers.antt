-- A block more was read.
use Rattle.std.proofs.Common.{◌∙◌, ◌++◌, eqb-true, length, subst, sym, IsUtf8}
use Rattle.git_syntax.proofs.Texts.DecodingLemmas.{all_read, with_block}
use Rattle.git_syntax.proofs.escape.decoding_is_utf8.Goals as goal

pub loop-rest-preserved : goal.loop-rest-preserved
loop-rest-preserved c =
    let (read, has, same) = c.loop-rest.invariant in
    let step = with_block read c.loop-rest.rest.now c.decoded_block.result.0 c.decoded_block.result.1.now c.decoded_block.ensures.bytes in (
      read ++ c.decoded_block.result.0,
      c.step-checker.ensures read has,
      (λ whole. step.0 (same.0 whole), λ rest. same.1 (step.1 rest)),
    )

pub returns : goal.returns
returns c =
    let (read, has, same) = c.loop-rest.invariant in
    let said = c.finish.ensures read has in
    let all = all_read read c.loop-rest.rest.now (eqb-true (length c.loop-rest.rest.now) 0 (sym c.is_empty.ensures ∙ c.loop-rest-test.false)) in
    (λ yes. same.1 (subst IsUtf8 all (said.0 yes)), λ whole. said.1 (subst IsUtf8 (sym all) (same.0 whole)))
