-- A host of HTTP is closed before a colon after it, and else a literal in brackets or a name.
use Rattle.git_location.proofs.SettledClass.SettledLemmas.{none_tested, second_decides, first_fails, first_suffices, second_needed, web_host_colon, web_host_bare}
use Rattle.git_location.proofs.settled.host.is_any_web_host.Goals as goal

pub returns-then-is_none : goal.returns-then-is_none
returns-then-is_none c =
    let none = none_tested c.args.port c.is_none.result c.is_none.ensures in
    second_decides c.is_closed_host.result (none.0 c.if-is_none.true) c.is_closed_host.ensures (web_host_colon c.args.port c.args.host.now c.in-Some.front.now c.in-Some.ensures)

pub returns-else-is_none : goal.returns-else-is_none
returns-else-is_none c =
    first_fails c.is_none.result c.if-is_none.false (none_tested c.args.port c.is_none.result c.is_none.ensures) (web_host_colon c.args.port c.args.host.now c.in-Some.front.now c.in-Some.ensures)

pub returns-then-is_bracketed_literal : goal.returns-then-is_bracketed_literal
returns-then-is_bracketed_literal c =
    first_suffices c.is_bracketed_literal.result c.if-is_bracketed_literal.true (c.is_bracketed_literal.ensures.0 c.if-is_bracketed_literal.true) (web_host_bare c.args.port c.args.host.now c.in-None.ensures)

pub returns-else-is_bracketed_literal : goal.returns-else-is_bracketed_literal
returns-else-is_bracketed_literal c =
    second_needed c.is_bracketed_literal.result c.is_web_name.result c.if-is_bracketed_literal.false c.is_bracketed_literal.ensures c.is_web_name.ensures (web_host_bare c.args.port c.args.host.now c.in-None.ensures)
