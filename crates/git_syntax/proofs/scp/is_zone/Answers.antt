-- If each `%` is escaped, a zone is any text of its bytes.
use Rattle.std.proofs.Common.{sym, ◌∙◌}
use Rattle.git_syntax.proofs.Parsing.HostLemmas.{some_tested}
use Rattle.git_syntax.proofs.Parsing.ScpLemmas.{zone_found, zone_unescaped}
use Rattle.git_syntax.proofs.scp.is_zone.Goals as goal

pub returns-then-not-is_empty : goal.returns-then-not-is_empty
returns-then-not-is_empty c = (
  λ t. zone_found c.args.text.now (some_tested c.args.text.now c.if-not-is_empty.ensures) (sym c.are_zone_bytes.ensures ∙ t),
  λ h. c.are_zone_bytes.ensures ∙ (zone_unescaped c.args.text.now h).1,
)
