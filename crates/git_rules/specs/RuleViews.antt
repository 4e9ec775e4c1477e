-- The view of a `Table`.
use Rattle.std.specs.Prelude.{List, map}
use Rattle.git_rules.specs.declared.rewrite.table.Table.TheInside.{Inside}
use Rattle.git_rules.specs.Rewrites.{Rule}
use Rattle.git_rules.specs.RuleTable.{NotesFronts, NotesLengths, NotesRanks, rule_of}

-- the rules of a table
abbrev pub table_rules : Inside → List Rule
table_rules t = map rule_of t.rules.items

-- the records are correct: the rank of each base, the first base of each front, and the length of each front
abbrev pub IsTable : Inside → Type 0
IsTable t = NotesRanks (table_rules t) t.ranks × NotesFronts (table_rules t) t.fronts
    × NotesLengths (table_rules t) t.lengths
