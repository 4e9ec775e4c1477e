-- A path that doesn't begin with `/` follows the folder made ready.
use Rattle.std.proofs.Common.{sym, ap, ◌∙◌}
use Rattle.git_syntax.specs.Bytes.{slash, begins_with}
use Rattle.gix_url.specs.Paths.{Joins}
use Rattle.gix_url.proofs.expand_path.paths.push_path.Goals as goal

pub returns : goal.returns
returns c = Joins.within (ap (begins_with slash) (sym c.as_bytes.ensures.value) ∙ sym c.starts_with_byte.ensures ∙ c.if-starts_with_byte.false) _ c.in_ok-push_slash.ensures c.in_ok-push_str-2.ensures.bytes
