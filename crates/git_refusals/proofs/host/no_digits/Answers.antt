-- Each byte is a digit.
use Rattle.std.proofs.Common.{sym, ◌∙◌, rules, tests}
use Rattle.std.specs.Char.{is_ascii_digit}
use Rattle.std.proofs.lemmas.Iterator.{YieldsList-from_slice}
use Rattle.std.proofs.lemmas.Iterator.Search.{all_from_yields_List}
use Rattle.git_refusals.proofs.host.no_digits.Goals as goal

pub returns-then-all : goal.returns-then-all
returns-then-all c =
    let is = all_from_yields_List is_ascii_digit _ _ c.all.result c.all.ensures.ran (YieldsList-from_slice c.args.text.now cc) (λ x b q k. search (rules, tests)) in
    record { found = sym is ∙ c.if-all.true; within = tt }
