-- The port is the text before the first byte that isn't a digit.
use Rattle.std.proofs.Common.{◌∙◌, ◌≤◌, ◌-◌, length, take, Some, sym, ap, subst}
use Rattle.std.proofs.lemmas.Bool.{cond-true}
use Rattle.git_readers.specs.Groups as spec
use Rattle.git_readers.specs.Readers.{is_no_digit}
use Rattle.git_readers.proofs.GroupLemmas.{port_front, port_short}
use Rattle.git_readers.proofs.groups.scp.host_with_port.Goals as goal

pub overflow_sub-text : goal.overflow_sub-text
overflow_sub-text c =
    subst (λ x. length x ≤ length c.args.text.now) (sym c.from_no_digit-suffix.ensures) (port_short is_no_digit c.args.front.now c.args.rest.now c.args.text.now c.requires)

pub returns-then-begins_port : goal.returns-then-begins_port
returns-then-begins_port c =
    let text = c.args.text.now in
    let cut = ap (λ x. take (length text - length x) text) c.from_no_digit-suffix.ensures ∙ port_front is_no_digit c.args.front.now c.args.rest.now text c.requires in
    ap (λ x. Some x) (c.named_in.ensures ∙ ap (λ x. spec.named_in x) (c.split_at.ensures.front ∙ cut)) ∙ sym (cond-true _ _ _ (sym c.begins_port.ensures ∙ c.if-begins_port.true))
