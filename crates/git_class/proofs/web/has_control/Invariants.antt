use Rattle.std.proofs.Common.{◌≡◌, ◌||◌, drop}
use Rattle.std.specs.List.{list_any}
use Rattle.git_class.specs.WebClass.{is_control}
use Rattle.git_class.proofs.web.has_control.Given as goal

-- the answer for any byte is that so far or that for the bytes that are left
abbrev pub invariant-loop-byte : goal.invariant-loop-byte
invariant-loop-byte l = (l.found || list_any is_control (drop l.byte-index l.text)) ≡ list_any is_control l.text
