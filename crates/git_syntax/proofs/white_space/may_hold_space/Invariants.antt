use Rattle.std.proofs.Common.{◌≡◌, ◌||◌, drop}
use Rattle.std.specs.List.{list_any}
use Rattle.git_syntax.specs.Internal.WhiteSpace.{may_begin_space}
use Rattle.git_syntax.proofs.white_space.may_hold_space.Given as goal

-- the answer for all bytes is that so far or that for the bytes that are left
abbrev pub invariant-loop-byte : goal.invariant-loop-byte
invariant-loop-byte l = (l.may || list_any may_begin_space (drop l.byte-index l.text)) ≡ list_any may_begin_space l.text
