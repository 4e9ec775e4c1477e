-- The plain values of a `Protocols`.
use Rattle.std.specs.Prelude.{option_map}
use Rattle.git_rules.specs.declared.protocols.Protocols.TheInside.{Inside}
use Rattle.git_rules.specs.Policies.{Policy}

-- the view of a `Protocols`
abbrev pub policy : Inside → Policy
policy p = record {
  entries = p.entries.now;
  allow_list = option_map (λ t. t.now) p.allow_list;
  from_user = option_map (λ t. t.now) p.from_user;
}
