-- The views of a `Left` and of a `Resolved`.
use Rattle.std.specs.Prelude.{option_map}
use Rattle.git_modules.specs.declared.resolve.left.Left.TheInside as left
use Rattle.git_modules.specs.declared.resolve.outcome.Resolved.TheInside as outcome
use Rattle.git_modules.specs.ResolveParents.{LeftOver}
use Rattle.git_modules.specs.Resolve.{Resolution}

-- the rest of a parent
abbrev pub left_over : left.Inside → LeftOver
left_over l = record { text = option_map (λ t. t.now) l.text; by_colon = l.by_colon }

-- the parts of a resolved URL
abbrev pub parts : outcome.Inside → Resolution
parts r = record { front = r.front.now; separator = r.separator.now; rest = r.rest.now }
