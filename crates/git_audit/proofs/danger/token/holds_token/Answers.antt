-- The words between gaps, one of which is a token.
use Rattle.std.proofs.Common.{rules, tests}
use Rattle.std.proofs.lemmas.Iterator.Search.{any_from_yields_List}
use Rattle.std.proofs.lemmas.Iterator.Splits.{YieldsList-from_slice_split}
use Rattle.git_audit.specs.Dangers.{is_gap, is_token_word}
use Rattle.git_audit.proofs.danger.token.holds_token.Goals as goal

pub returns : goal.returns
returns c =
    any_from_yields_List is_token_word _ _ _ c.any.ensures.ran
    (YieldsList-from_slice_split _ is_gap c.args.text.now c.split.ensures.rest c.split.ensures.done c.split.ensures.closure (λ x b q k. search (rules, tests)))
    (λ x b q k. search (rules, tests))
