-- The entries of a configuration in C's form.
use Rattle.std.specs.Prelude.{List, map}
use Rattle.git_rules.specs.Config.{ConfigEntry}
use Rattle.c_values.specs.Input.{present}
use Rattle.c_values.specs.declared.rules.entries.EntryBytes.{EntryBytes}

-- the entry with these parts
abbrev pub entry_passed : EntryBytes → ConfigEntry
entry_passed e = record {
  section = e.section.now;
  subsection = present e.has_subsection e.subsection.now;
  name = e.name.now;
  value = present e.has_value e.value.now;
  at = e.at;
}

-- the entries with these parts
abbrev pub entries_passed : List EntryBytes → List ConfigEntry
entries_passed entries = map entry_passed entries
