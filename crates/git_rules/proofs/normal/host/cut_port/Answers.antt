-- A bracket after the last colon.
use Rattle.std.proofs.Common.{refl}
use Rattle.std.proofs.lemmas.Bool.{false≢true}
use Rattle.git_rules.specs.Normal.{CutsPort}
use Rattle.git_rules.proofs.normal.host.cut_port.Goals as goal

pub returns-else-is_free_of : goal.returns-else-is_free_of
returns-else-is_free_of c =
    CutsPort.in_brackets c.in-Some.front.now c.in-Some.back.now c.in-Some.ensures.1 c.in-Some.ensures.0 (λ free. false≢true (c.if-is_free_of.ensures.1 free)) refl c.as_slice-else-is_free_of.ensures
