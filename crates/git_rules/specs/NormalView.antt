-- The normal form that a `NormalUrl` represents.
use Rattle.std.specs.Prelude.{option_map}
use Rattle.git_rules.specs.declared.normal.NormalUrl.TheInside.{Inside}
use Rattle.git_rules.specs.Normal.{NormalPlace}

-- the view of a `NormalUrl`
abbrev pub normal_place : Inside → NormalPlace
normal_place n = record {
  scheme = n.scheme.now;
  user = option_map (λ t. t.now) n.user;
  host = n.host.now;
  port = n.port;
  path = n.path.now;
}
