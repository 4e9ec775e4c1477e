use Rattle.std.proofs.Common.{◌≡◌, ◌&&◌, drop}
use Rattle.std.specs.List.{list_all}
use Rattle.git_readers.specs.Unambiguous.{is_unreserved}
use Rattle.git_readers.proofs.classes.are_unreserved.Given as goal

-- the answer for all bytes is that so far and that for the bytes that are left
abbrev pub invariant-loop-byte : goal.invariant-loop-byte
invariant-loop-byte l = (l.all && list_all is_unreserved (drop l.byte-index l.text)) ≡ list_all is_unreserved l.text
