-- The plain values of a `Submodule`.
use Rattle.std.specs.Prelude.{option_map}
use Rattle.git_modules.specs.declared.submodules.Submodule.TheInside.{Inside}
use Rattle.git_modules.specs.declared.submodules.Used.{Used}
use Rattle.git_modules.specs.Submodules.{GitSubmodule, UsedValue}

-- the view of a `Used`
abbrev pub used_value : Used → UsedValue
used_value u = record { value = u.value.now; index = u.index }

-- the view of a `Submodule`
abbrev pub git_submodule : Inside → GitSubmodule
git_submodule s = record {
  name = s.name.now;
  path = option_map used_value s.path;
  url = option_map used_value s.url;
  update = option_map used_value s.update;
  branch = option_map used_value s.branch;
}
