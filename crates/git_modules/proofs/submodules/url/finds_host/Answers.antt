-- A host is found if the pieces of the text have one.
use Rattle.git_modules.proofs.Urls.HostLemmas.{finds_host}
use Rattle.git_modules.proofs.submodules.url.finds_host.Goals as goal

pub returns-in-Some : goal.returns-in-Some
returns-in-Some c =
    finds_host c.args.text.now c.in-Some.pieces.protocol.now c.in-Some.pieces.authority.now c.in-Some.pieces.suffix.now c.are_pieces_taken.result c.in-Some.ensures c.are_pieces_taken.ensures
