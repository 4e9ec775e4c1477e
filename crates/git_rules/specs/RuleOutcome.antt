-- The view of a `Rewritten`.
use Rattle.std.specs.Prelude.{option_map}
use Rattle.git_rules.specs.declared.rewrite.outcome.Rewritten.TheInside.{Inside}
use Rattle.git_rules.specs.Rewrites.{Outcome}

-- the outcome that a `Rewritten` represents
abbrev pub outcome : Inside → Outcome
outcome r = record { base = option_map (λ t. t.now) r.base; rest = r.rest.now }
