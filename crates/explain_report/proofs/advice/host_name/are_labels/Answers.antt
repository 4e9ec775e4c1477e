-- The labels between dots, each of which is one.
use Rattle.std.proofs.Common.{rules, tests}
use Rattle.std.proofs.lemmas.Iterator.Search.{all_from_yields_List}
use Rattle.std.proofs.lemmas.Iterator.Splits.{YieldsList-from_slice_split}
use Rattle.explain_report.specs.Hints.{is_label}
use Rattle.explain_report.specs.HostNames.{is_dot}
use Rattle.explain_report.proofs.advice.host_name.are_labels.Goals as goal

pub returns : goal.returns
returns c =
    all_from_yields_List is_label _ _ _ c.all.ensures.ran
    (YieldsList-from_slice_split _ is_dot c.args.front.now c.split.ensures.rest c.split.ensures.done c.split.ensures.closure (λ x b q k. search (rules, tests)))
    (λ x b q k. search (rules, tests))
