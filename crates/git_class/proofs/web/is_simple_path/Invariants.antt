use Rattle.std.proofs.Common.{◌≡◌, ◌&&◌, drop}
use Rattle.std.specs.List.{list_all}
use Rattle.git_class.specs.Internal.WebPieces.{is_common_path_byte}
use Rattle.git_class.proofs.web.is_simple_path.Given as goal

-- the answer for all bytes is that so far and that for the bytes that are left
abbrev pub invariant-loop-byte : goal.invariant-loop-byte
invariant-loop-byte l = (l.simple && list_all is_common_path_byte (drop l.byte-index l.path)) ≡ list_all is_common_path_byte l.path
