-- A colon is written as itself, and a `%` if a byte is escaped.
use Rattle.std.proofs.Common.{inl, inr, sym, ◌∙◌, ⊎_elim, eqb-true}
use Rattle.std.proofs.lemmas.Bool.{both_ways, eq-eqb}
use Rattle.git_class.proofs.Classes.WebClassLemmas.{colon_written, percent_written}
use Rattle.git_class.proofs.web.is_written_whole.Goals as goal

pub returns-then-is_free_of : goal.returns-then-is_free_of
returns-then-is_free_of c = (
  λ yes. inl ((colon_written c.args.set c.args.text.now c.requires.colon).0 (c.is_free_of.ensures.0 c.if-is_free_of.true)),
  λ whole. c.if-is_free_of.true,
)

pub returns-else-is_free_of : goal.returns-else-is_free_of
returns-else-is_free_of c =
    let percent = percent_written c.args.set c.args.text.now c.requires.percent in (
      λ yes. inr (percent.0 (sym c.count_escaped.ensures ∙ eqb-true c.count_escaped.result 0 yes)),
      λ whole. ⊎_elim (λ free. absurd (both_ways _ c.if-is_free_of.false (c.is_free_of.ensures.1 ((colon_written c.args.set c.args.text.now c.requires.colon).1 free)))) (λ free. eq-eqb c.count_escaped.result 0 (c.count_escaped.ensures ∙ percent.1 free)) whole,
    )
