-- A byte that isn't `%` is written by itself.
use Rattle.std.proofs.Common.{◌==◌, ◌≡◌, false}
use Rattle.std.proofs.lemmas.Bool.{false_from_ne_true, eqb-true}
use Rattle.git_syntax.specs.Bytes.{percent_sign}
use Rattle.git_rules.proofs.NormalForms.NormalTextLemmas.{splits_kept}
use Rattle.git_rules.proofs.normal.escapes.split_normal.Goals as goal

pub returns : goal.returns
returns c =
    let other : (c.in_ok-first.first.now == percent_sign) ≡ false = false_from_ne_true _ (λ e. c.if-first-eq37.false (eqb-true _ _ e)) in
    splits_kept c.args.text.now c.in_ok-first.suffix.now c.in_ok-first.first.now c.in_ok-first.ensures.cases.0 other c.requires
