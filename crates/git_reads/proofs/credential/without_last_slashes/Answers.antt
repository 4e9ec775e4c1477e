-- One slash less ends the rest.
use Rattle.std.proofs.Common.{ap, sym, ◌∙◌}
use Rattle.git_reads.specs.Credentials.{without_last_slashes}
use Rattle.git_reads.proofs.Reading.CredentialLemmas.{last_slash, no_last_slash}
use Rattle.git_reads.proofs.credential.without_last_slashes.Goals as goal

pub loop-front-preserved : goal.loop-front-preserved
loop-front-preserved c = sym (ap without_last_slashes c.in-Some.ensures ∙ last_slash c.in-Some.front.now) ∙ c.loop-front.invariant

pub returns : goal.returns
returns c = sym (no_last_slash c.loop-front.rest.now c.in_default.ensures) ∙ c.loop-front.invariant
