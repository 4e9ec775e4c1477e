use Rattle.std.proofs.Common.{◌≡◌, ◌&&◌, drop}
use Rattle.std.specs.List.{list_all}
use Rattle.git_class.specs.WebClass.{is_plain_host_byte}
use Rattle.git_class.proofs.web.are_plain_host_bytes.Given as goal

-- the answer for all bytes is that so far and that for the bytes that are left
abbrev pub invariant-loop-byte : goal.invariant-loop-byte
invariant-loop-byte l = (l.plain && list_all is_plain_host_byte (drop l.byte-index l.name)) ≡ list_all is_plain_host_byte l.name
