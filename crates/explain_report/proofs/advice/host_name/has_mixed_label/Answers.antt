-- The labels between dots, one of which is mixed.
use Rattle.std.proofs.Common.{rules, tests}
use Rattle.std.proofs.lemmas.Iterator.Search.{any_from_yields_List}
use Rattle.std.proofs.lemmas.Iterator.Splits.{YieldsList-from_slice_split}
use Rattle.explain_report.specs.Scripts.{is_mixed_label}
use Rattle.explain_report.specs.HostNames.{is_dot}
use Rattle.explain_report.proofs.advice.host_name.has_mixed_label.Goals as goal

pub returns : goal.returns
returns c =
    any_from_yields_List is_mixed_label _ _ _ c.any.ensures.ran
    (YieldsList-from_slice_split _ is_dot c.args.host.now c.split.ensures.rest c.split.ensures.done c.split.ensures.closure (λ x b q k. search (rules, tests)))
    (λ x b q k. search (rules, tests))
