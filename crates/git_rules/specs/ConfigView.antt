-- The plain values of an `Entry`.
use Rattle.std.specs.Prelude.{option_map}
use Rattle.git_rules.specs.declared.config.Entry.TheInside.{Inside}
use Rattle.git_rules.specs.Config.{ConfigEntry}

-- the view of an `Entry`
abbrev pub config_entry : Inside → ConfigEntry
config_entry e = record {
  section = e.section.now;
  subsection = option_map (λ t. t.now) e.subsection;
  name = e.name.now;
  value = option_map (λ t. t.now) e.value;
  at = e.at;
}
