-- The offset that is returned is not in a line end.
use Rattle.std.proofs.Common.{◌∙◌, ◌∷◌, ◌++◌, [], drop, sym, ap, append_assoc, take-append-drop}
use Rattle.git_syntax.specs.Bytes.{carriage_return}
use Rattle.git_modules.proofs.ConfigFile.LineEndLemmas.{feed_after, return_before, not_at_return}
use Rattle.git_modules.proofs.config_file.place.front_of_line_end.Goals as goal

pub returns-then-not-starts_with_byte-clause-front : goal.returns-then-not-starts_with_byte-clause-front
returns-then-not-starts_with_byte-clause-front c = λ inside.
    let feed = feed_after c.args.text.now c.args.at inside in
    cc

pub returns-in-Some-clause-front : goal.returns-in-Some-clause-front
returns-in-Some-clause-front c = λ inside.
    let kept = c.in-Some.kept.now in
    let rest = drop c.args.at c.args.text.now in
    let front = sym c.split_at.ensures.front ∙ c.in-Some.ensures in
    let whole = sym (take-append-drop c.args.at c.args.text.now) ∙ ap (λ z. z ++ rest) front ∙ append_assoc kept (carriage_return ∷ []) rest in
    not_at_return c.args.text.now kept rest whole inside

pub returns-in-None-clause-front : goal.returns-in-None-clause-front
returns-in-None-clause-front c = λ inside.
    let (kept, is) = return_before c.args.text.now c.args.at inside in
    c.in-None.ensures kept (c.split_at.ensures.front ∙ is)
