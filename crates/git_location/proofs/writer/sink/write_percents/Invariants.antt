-- The text before the rest was put.
use Rattle.std.proofs.Common.{◌≡◌, List, ℕ, ◌++◌, length}
use denote.Text.{Utf8}
use denote.Shadow.{shadow}
use Rattle.git_syntax.specs.Escapes.{escaped_percents}
use Rattle.git_location.proofs.writer.sink.write_percents.Given as goal

abbrev pub invariant-loop-front : goal.invariant-loop-front
invariant-loop-front g l =
    shadow (Utf8 l.rest)
    × ((done : List ℕ) × (escaped_percents l.fn.text ≡ done ++ escaped_percents l.rest) × g.S.Sink.takes l.fn.place done l.place)

abbrev pub decreases-loop-front : goal.decreases-loop-front
decreases-loop-front g l = length l.rest
