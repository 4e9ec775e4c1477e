-- The first label is the text before the first dot.
use Rattle.std.proofs.Common.{◌∙◌, ◌++◌, ◌∷◌, refl, sym, ap}
use Rattle.std.proofs.lemmas.Bool.{both_ways}
use Rattle.git_syntax.specs.Bytes.{dot}
use Rattle.git_readers.proofs.PartLemmas.{number_first, number_rest}
use Rattle.git_readers.proofs.host.begins_with_numbers.Goals as goal

pub returns-then-are_digits : goal.returns-then-are_digits
returns-then-are_digits c =
    let e = c.in-Some.ensures in (
      λ yes.
          let (second, rest, all, joined) = c.begins_with_number.ensures.0 yes in
          record {
            first = c.in-Some.first.now;
            second = second;
            rest = rest;
            joined = e.1 ∙ ap (λ x. c.in-Some.first.now ++ dot ∷ x) joined;
            first_digits = sym c.are_digits.ensures ∙ c.if-are_digits.true;
            second_digits = all;
          },
      λ has.
          let same = number_rest dot has.first (has.second ++ dot ∷ has.rest) c.in-Some.first.now c.in-Some.rest.now refl has.first_digits e.0 (sym has.joined ∙ e.1) in
          c.begins_with_number.ensures.1 (has.second, has.rest, has.second_digits, sym same),
    )

pub returns-else-are_digits : goal.returns-else-are_digits
returns-else-are_digits c =
    let e = c.in-Some.ensures in (
      λ wrong. absurd (both_ways _ c.if-are_digits.false wrong),
      λ has. c.are_digits.ensures ∙ number_first dot has.first (has.second ++ dot ∷ has.rest) c.in-Some.first.now c.in-Some.rest.now refl has.first_digits e.0 (sym has.joined ∙ e.1),
    )
