-- The texts that Git uses for a line by a configuration.
use Rattle.std.specs.Prelude.{Option, Some, None}
use Rattle.explain_report.specs.Findings.{union}
use Rattle.explain_report.specs.declared.finding.Findings.{Findings}
use Rattle.explain_report.specs.declared.rules.route.Route.{Route}
use Rattle.explain_report.specs.declared.rules.Rules.{Rules}

-- the second route, unless there is none
abbrev pub route_or : Option Route → Route → Route
route_or None fetch = fetch
route_or (Some push) fetch = push

-- the route to the text to which Git pushes
abbrev pub pushed_route : Rules → Route
pushed_route rules = route_or rules.own_push rules.fetch

-- the findings about both texts
abbrev pub found_by_rules : Rules → Findings
found_by_rules rules = union rules.fetch.found (pushed_route rules).found
