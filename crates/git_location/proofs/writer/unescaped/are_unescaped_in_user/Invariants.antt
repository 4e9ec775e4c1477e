use Rattle.std.proofs.Common.{◌≡◌, ◌&&◌, drop}
use Rattle.std.specs.List.{list_all}
use Rattle.git_location.specs.Internal.KeptBytes.{is_unescaped_in_user}
use Rattle.git_location.proofs.writer.unescaped.are_unescaped_in_user.Given as goal

-- the answer for all bytes is that so far and that for the bytes that are left
abbrev pub invariant-loop-byte : goal.invariant-loop-byte
invariant-loop-byte l = (l.ready && list_all is_unescaped_in_user (drop l.byte-index l.text)) ≡ list_all is_unescaped_in_user l.text
