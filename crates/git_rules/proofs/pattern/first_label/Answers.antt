-- The host is cut at its first `.`, or is its only label.
use Rattle.std.proofs.Common.{ap, ◌∙◌}
use Rattle.git_rules.specs.Patterns.{labels_of}
use Rattle.git_rules.proofs.Matched.LabelLemmas.{labels-cut, shorter_after, only}
use Rattle.git_rules.proofs.pattern.first_label.Goals as goal

pub returns-in-Some : goal.returns-in-Some
returns-in-Some c =
    let label = c.in-Some.pieces.0.now in
    let rest = c.in-Some.pieces.1.now in (
      ap labels_of c.in-Some.ensures.1 ∙ labels-cut label rest c.in-Some.ensures.0,
      shorter_after c.args.host.now label rest c.in-Some.ensures.1,
    )

pub returns-in-None : goal.returns-in-None
returns-in-None c = only c.args.host.now c.only_label.result c.in-None.ensures c.only_label.ensures
