-- A simple text spells its location.
use Rattle.std.proofs.Common.{◌≡◌, subst, sym}
use Rattle.git_syntax.specs.Grammar.{Spells}
use Rattle.git_syntax.specs.Internal.SimplePieces.{simple_location}
use Rattle.git_syntax.proofs.ByMasks.SimpleTextLemmas.{simple_spelled}
use Rattle.gix_url.proofs.parse.read.Goals as goal

pub returns-in_ok-build_simple-in-Some-clause-found :
    goal.returns-in_ok-build_simple-in-Some-clause-found
returns-in_ok-build_simple-in-Some-clause-found c =
    let bytes = c.args.bytes.now in
    subst (Spells bytes) (sym c.in_ok-build_simple-in-Some.ensures) (simple_spelled bytes (simple_location c.in-Some.pieces) c.in-Some.ensures)
