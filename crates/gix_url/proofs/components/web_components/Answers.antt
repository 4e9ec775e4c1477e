-- The text is cut at `#` and its front at `?`, and the pieces denote the components.
use Rattle.std.proofs.Common.{◌∙◌, option_map, ap}
use Rattle.git_syntax.specs.Grammar.{or_root}
use Rattle.gix_url.proofs.ComponentCuts.FieldLemmas.{cuts_twice, fragment_denoted, has_query, denoted_as, query_absent, query_present}
use Rattle.gix_url.proofs.components.web_components.Goals as goal
use Rattle.gix_url.proofs.components.web_components.Goals.{in-None, in-Some+in_ok-borrow_query-in-Some}

pub returns-in_err-borrow_query-in-Some-clause-query : goal.returns-in_err-borrow_query-in-Some-clause-query
returns-in_err-borrow_query-in-Some-clause-query c _ =
    let twice = cuts_twice c.args.whole c.cut_off.result.0 c.cut_off-2.result.0 c.cut_off-2.result.1 c.cut_off.result.1 c.cut_off.ensures c.cut_off-2.ensures in
    has_query c.args.whole c.cut_off-2.result.0 c.in-Some.query c.cut_off-2.result.1 c.cut_off.result.1 twice c.in-Some.is

pub returns-clause-borrowed : goal.returns-clause-borrowed
returns-clause-borrowed c =
    let twice = cuts_twice c.args.whole c.cut_off.result.0 c.cut_off-2.result.0 c.cut_off-2.result.1 c.cut_off.result.1 c.cut_off.ensures c.cut_off-2.ensures in record {
      front = c.cut_off-2.result.0.text.now;
      query = option_map (λ p. p.text.now) c.cut_off-2.result.1;
      fragment = option_map (λ p. p.text.now) c.cut_off.result.1;
      cut = twice.cut;
      path_denoted = c.new.ensures ∙ c.or_root.ensures ∙ ap or_root (denoted_as c.cut_off-2.result.0 c.args.whole.escaped twice.front_escaped);
      query_borrowed = elim c.match-query.branch [
        | in-None w ↦ query_absent c.args.whole.escaped c.cut_off-2.result.1 _ w.in-None.is (ap (option_map (λ pairs. pairs.items)) w.query-is)
        | in-Some+in_ok-borrow_query-in-Some w ↦
            query_present c.args.whole.escaped c.cut_off-2.result.1 _ w.in-Some.query w.in_ok-borrow_query-in-Some.field-0.items w.in-Some.is twice.query_escaped (ap (option_map (λ pairs. pairs.items)) w.query-is) w.in_ok-borrow_query-in-Some.ensures
      ];
      fragment_denoted = c.denoted_option.ensures ∙ fragment_denoted c.args.whole.escaped c.cut_off.result.1 twice.fragment_escaped;
    }
