-- A path without a spelling that matches is written as its bytes ask.
use Rattle.std.proofs.Common.{◌∙◌, ap, not}
use Rattle.git_syntax.specs.Location.{Location}
use Rattle.git_class.proofs.Classes.WebClassLemmas.{unspelled_bytes}
use Rattle.git_class.proofs.web_conditions.is_written_in_uri_bytes.Goals as goal

pub returns-in-None : goal.returns-in-None
returns-in-None c =
    ap not c.has_stray.ensures ∙ unspelled_bytes c.args.url.now c.url.inside.path.now c.requires.web (ap (λ (v : Location). v.path) c.url.view_is) c.in-None.ensures c.requires.no_control c.requires.no_fragment
