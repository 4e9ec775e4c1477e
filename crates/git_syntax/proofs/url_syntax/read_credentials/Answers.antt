-- A user and a password are the texts around the first colon, if both decode to text.
use Rattle.std.proofs.Common.{refl}
use Rattle.std.proofs.lemmas.Bool.{false≢true}
use Rattle.git_syntax.specs.Authority.Credentials.{with_password}
use Rattle.git_syntax.specs.Internal.UrlPieces.{HasNoText}
use Rattle.git_syntax.proofs.url_syntax.read_credentials.Goals as goal

pub returns-then-not-decodes_to_utf8 : goal.returns-then-not-decodes_to_utf8
returns-then-not-decodes_to_utf8 c =
    (refl, HasNoText.password c.in-Some.user.now c.in-Some.password.now c.in-Some.ensures.0 c.in-Some.ensures.1 (λ text. false≢true (c.if-not-decodes_to_utf8.ensures.1 text)))

pub returns-then-not-decodes_to_utf8-2 : goal.returns-then-not-decodes_to_utf8-2
returns-then-not-decodes_to_utf8-2 c =
    (refl, HasNoText.user_before_password c.in-Some.user.now c.in-Some.password.now c.in-Some.ensures.0 c.in-Some.ensures.1 (λ text. false≢true (c.if-not-decodes_to_utf8-2.ensures.1 text)))

pub returns : goal.returns
returns c =
    with_password c.in-Some.user.now c.in-Some.password.now c.in-Some.ensures.0 c.in-Some.ensures.1 (c.if-not-decodes_to_utf8-2.ensures.0 refl) (c.if-not-decodes_to_utf8.ensures.0 refl) c.unless_empty-password.ensures c.user_beside.ensures
