-- The kinds are those of the pieces so far, or of those that are left.
use Rattle.std.proofs.Common.{◌≡◌, ◌||◌}
use Rattle.std.specs.List.{list_any}
use Rattle.git_secrets.specs.declared.Secret.TheVariants as secret
use Rattle.git_secrets.specs.Secrets.{has_secret, is_hidden_as}
use Rattle.git_secrets.proofs.kinds_of.Given as goal

abbrev pub invariant-loop-piece : goal.invariant-loop-piece
invariant-loop-piece l =
    (l.found.password || list_any (is_hidden_as secret.Password) l.piece-iterator ≡ has_secret secret.Password l.text)
    × (l.found.token || list_any (is_hidden_as secret.Token) l.piece-iterator ≡ has_secret secret.Token l.text)
