-- A path without `%` decodes to itself.
use Rattle.std.proofs.Common.{sym, ◌∙◌}
use Rattle.git_syntax.proofs.Texts.EscapeLemmas.{decode_kept}
use Rattle.git_location.proofs.to_url_ref.path_in.Goals as goal

pub returns-then-not-url : goal.returns-then-not-url
returns-then-not-url c = sym (decode_kept c.args.url.path.now (sym c.requires.escaped ∙ c.if-not-url.true))
