-- The view of `Rewrites`.
use Rattle.git_rules.specs.declared.rewrite.Rewrites.TheInside.{Inside}
use Rattle.git_rules.specs.Rewrites.{Rules}

-- the rules of both tables
abbrev pub rules : Inside → Rules
rules r = record { fetching = r.fetch; pushing = r.push }
