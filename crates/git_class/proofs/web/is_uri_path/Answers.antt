-- A path without a spelling is written as a URI by its bytes.
use Rattle.std.proofs.Common.{sym, ◌∙◌}
use Rattle.std.proofs.lemmas.Bool.{both_ways, not-true}
use Rattle.git_location.proofs.SettledClass.SettledLemmas.{second_decides}
use Rattle.git_class.proofs.Classes.WebClassLemmas.{uri_path_by_bytes}
use Rattle.git_class.proofs.web.is_uri_path.Goals as goal

pub returns-then-not-has_stray : goal.returns-then-not-has_stray
returns-then-not-has_stray c =
    second_decides c.is_written_whole.result (sym c.has_stray.ensures ∙ c.if-not-has_stray.true) c.is_written_whole.ensures (uri_path_by_bytes c.args.path.now)

pub returns-else-not-has_stray : goal.returns-else-not-has_stray
returns-else-not-has_stray c = (
  λ yes. absurd (both_ways _ (not-true _ yes) c.if-not-has_stray.false),
  λ path. absurd (both_ways _ (c.has_stray.ensures ∙ ((uri_path_by_bytes c.args.path.now).1 path).0) c.if-not-has_stray.false),
)
