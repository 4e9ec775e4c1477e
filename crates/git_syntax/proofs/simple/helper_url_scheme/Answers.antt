-- A name of no known scheme.
use Rattle.std.proofs.Common.{sym}
use Rattle.git_syntax.specs.SimpleTexts.IsRemoteScheme.{of_helper}
use Rattle.git_syntax.proofs.Parsing.SchemeLemmas.{helper_unknown}
use Rattle.git_syntax.proofs.simple.helper_url_scheme.Goals as goal

pub returns-in-Other-clause-remote : goal.returns-in-Other-clause-remote
returns-in-Other-clause-remote c =
    let name = c.args.name.now in
    rw c.as_text.ensures (of_helper name (sym c.if-is_scheme_text.ensures) (helper_unknown name c.in-Other.ensures))
