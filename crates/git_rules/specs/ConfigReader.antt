-- The place of a `Reader`.
use Rattle.std.specs.Prelude.{◌-◌, ◌≤◌, length}
use Rattle.git_rules.specs.declared.config.Reader.TheInside.{Inside}
use Rattle.git_rules.specs.ConfigItems.{Place}

-- the rest of the text of a `Reader`, and its byte offset
abbrev pub place : Inside → Place
place r = record { rest = r.rest.now; at = length r.text.now - length r.rest.now }

-- the rest is no longer than the text
abbrev pub IsWithin : Inside → Type 0
IsWithin r = length r.rest.now ≤ length r.text.now
