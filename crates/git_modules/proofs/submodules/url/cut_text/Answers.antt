-- A text that begins with its `://` has no protocol.
use Rattle.std.proofs.Common.{◌≡◌, arith, length}
use Rattle.std.proofs.lemmas.Bool.Decides.{nat_tests}
use Rattle.git_reads.proofs.Reading.CredentialLemmas.{none_before_mark}
use Rattle.git_modules.proofs.submodules.url.cut_text.Goals as goal

pub returns-then-is_empty : goal.returns-then-is_empty
returns-then-is_empty c =
    let empty : length c.in_ok-protocol.protocol.now ≡ 0 = grind (arith, nat_tests, c.if-is_empty.ensures) in
    none_before_mark c.args.text.now c.in_ok-protocol.protocol.now c.in_ok-protocol.rest.now c.in_ok-protocol.ensures.0 c.in_ok-protocol.ensures.1 empty
