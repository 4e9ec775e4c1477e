-- An error that isn't a failed allocation has the one refusal of the bytes.
use Rattle.std.proofs.Common.{subst}
use Rattle.std.proofs.lemmas.Bool.{false≢true}
use Rattle.gix_url.specs.Flaws.{Flaw}
use Rattle.user_proofs.proofs.parts.reason.Goals as goal

pub returns : goal.returns
returns c =
    let flaw = subst (λ b. Flaw b c.in-Err.error) c.new.ensures c.in-Err.ensures.flaw in
    let found = c.refusal.ensures.read c.args.bytes.now (λ is. false≢true (c.if-is_memory.ensures.1 is)) flaw in
    rw found.1 found.2
