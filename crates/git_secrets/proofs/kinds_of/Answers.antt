-- By the pieces so far.
use Rattle.git_secrets.specs.declared.Secret.TheVariants as secret
use Rattle.git_secrets.specs.Secrets.{has_secret, piece_part}
use Rattle.git_secrets.proofs.Cuts.FindLemmas.{kind_all, kind_next, same_kinds}
use Rattle.git_secrets.proofs.kinds_of.Goals as goal

pub loop-piece-preserved : goal.loop-piece-preserved
loop-piece-preserved c = (
  kind_next secret.Password (piece_part c.in-Some.piece) c.loop-piece.piece-iterator c.next.new.self c.loop-piece.found.password _ (has_secret secret.Password c.args.text.now) c.in-Some.ensures.steps c.with-found.ensures.password c.loop-piece.invariant.0,
  kind_next secret.Token (piece_part c.in-Some.piece) c.loop-piece.piece-iterator c.next.new.self c.loop-piece.found.token _ (has_secret secret.Token c.args.text.now) c.in-Some.ensures.steps c.with-found.ensures.token c.loop-piece.invariant.1,
)

pub returns : goal.returns
returns c =
    same_kinds c.loop-piece.found c.args.text.now
    (kind_all secret.Password c.loop-piece.piece-iterator c.loop-piece.found.password (has_secret secret.Password c.args.text.now) c.in-None.ensures.steps.0 c.loop-piece.invariant.0)
    (kind_all secret.Token c.loop-piece.piece-iterator c.loop-piece.found.token (has_secret secret.Token c.args.text.now) c.in-None.ensures.steps.0 c.loop-piece.invariant.1)
