use Rattle.std.proofs.Common.{◌≡◌, ◌&&◌, drop}
use Rattle.std.specs.List.{list_all}
use Rattle.git_syntax.specs.Hosts.{is_dns_byte}
use Rattle.git_syntax.proofs.host.bytes.is_like_domain.Given as goal

-- the answer for all bytes is that so far and that for the bytes that are left
abbrev pub invariant-loop-byte : goal.invariant-loop-byte
invariant-loop-byte l = (l.all && list_all is_dns_byte (drop l.byte-index l.host)) ≡ list_all is_dns_byte l.host
