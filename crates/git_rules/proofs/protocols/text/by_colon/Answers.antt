-- A text without the scp form is a local path.
use Rattle.std.proofs.lemmas.Bool.{false≢true}
use Rattle.git_rules.proofs.Allowed.TransportLemmas.{uses_local}
use Rattle.git_rules.proofs.protocols.text.by_colon.Goals as goal

pub returns-else-is_remote : goal.returns-else-is_remote
returns-else-is_remote c = uses_local c.args.text.now c.requires (λ h. false≢true (c.if-is_remote.ensures.1 h))
