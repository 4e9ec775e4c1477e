-- The components are the parts between separators.
use Rattle.std.proofs.Common.{bytes_eq, rules, tests}
use Rattle.std.proofs.lemmas.Iterator.Search.{any_from_yields_List}
use Rattle.std.proofs.lemmas.Iterator.Splits.{YieldsList-from_slice_split}
use Rattle.git_modules.proofs.submodules.has_component.Goals as goal
use Rattle.git_syntax.specs.Bytes.{is_any_slash}

pub returns : goal.returns
returns c =
    any_from_yields_List (λ part. bytes_eq part c.args.component.now) _ _ _ c.any.ensures.ran
    (YieldsList-from_slice_split _ is_any_slash c.args.text.now c.split.ensures.rest c.split.ensures.done c.split.ensures.closure (λ x r q k. search (rules, tests))) (λ x b q k. search (rules, tests))
