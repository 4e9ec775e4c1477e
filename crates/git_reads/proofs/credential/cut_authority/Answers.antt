-- The first `@` ends a user and a password, and the first colon before it the user.
use Rattle.std.proofs.Common.{refl}
use Rattle.git_reads.specs.Internal.{CutsInformation}
use Rattle.git_reads.proofs.Reading.CredentialLemmas.{cut_with_password}
use Rattle.git_reads.proofs.credential.cut_authority.Goals as goal

pub returns-in-Some-cut : goal.returns-in-Some-cut
returns-in-Some-cut c =
    cut_with_password c.args.authority.now c.in-Some.information.now c.in-Some.named.now c.in-Some-cut.user.now c.in-Some-cut.password.now c.in-Some.ensures.0 c.in-Some.ensures.1 c.in-Some-cut.ensures.0 c.in-Some-cut.ensures.1

pub returns-in-None : goal.returns-in-None
returns-in-None c = CutsInformation.user_alone c.in-Some.information.now c.in-Some.ensures.0 c.in-None.ensures c.in-Some.ensures.1 refl refl
