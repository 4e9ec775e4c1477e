-- An error of reading has the refusal of its text, and no other error has any.
use Rattle.std.proofs.Common.{◌≡◌, ◌∙◌, Some, None, ap}
use Rattle.c_values.specs.Codes.{error_shown, refusal_problem}
use Rattle.c_values.proofs.ProblemLemmas.{has_refusal, reported_of_refusal}
use Rattle.c_values.proofs.codes.problem_of.Goals as goal

pub returns-in-Some : goal.returns-in-Some
returns-in-Some c =
    let e = c.args.error.now in
    let r = c.in-Some.refusal in
    let numbers = c.problem_with.ensures ∙ ap (λ n. refusal_problem r n c.total_of.result) c.shown_of.ensures
    ∙ ap (λ n. refusal_problem r (error_shown e) n) c.total_of.ensures in
    record {
      refused = λ b s refused is. numbers ∙ reported_of_refusal b s r e refused is c.in-Some.ensures.read;
      other = λ not. (let wrong : Some r ≡ None = c.in-Some.ensures.none not in absurd (cc));
    }

pub returns-in-None : goal.returns-in-None
returns-in-None c = record {
  refused = λ b r refused is. absurd (has_refusal b r c.args.error.now refused is c.in-None.ensures.read);
  other = λ _. c.problem_of_other.ensures;
}
