-- Rows on classes of bytes: each is computed at all 256 bytes.
use Rattle.std.proofs.Common.{refl, arith}
use Rattle.percent_encoding.proofs.OnLiterals.{percent_encoding_on_literals}
use Rattle.git_laws.specs.Examples.ByteRows.{NameByteRows, HostByteRows, WhiteSpaceRows, GitByteRows, QuickByteRows, EscapedByteRows, EscapeSetRows}

-- the bytes of names
pub name_byte_rows : NameByteRows
name_byte_rows = (refl, refl, refl, refl, refl, refl, refl, refl)

-- the bytes of hosts and zones, and marks
pub host_byte_rows : HostByteRows
host_byte_rows = (refl, refl, refl, refl, refl, refl, refl, refl)

-- white space
pub white_space_rows : WhiteSpaceRows
white_space_rows = (refl, refl, refl, refl, refl)

-- the bytes that Git tests
pub git_byte_rows : GitByteRows
git_byte_rows = (refl, refl)

-- the bytes that pass quick tests
pub quick_byte_rows : QuickByteRows
quick_byte_rows = (refl, refl, refl)

-- the documented sets
pub escaped_byte_rows : EscapedByteRows
escaped_byte_rows = (refl, refl, refl)

-- the bytes that the sets escape
pub escape_set_rows : EscapeSetRows
unfolding percent_encoding_on_literals
escape_set_rows = grind arith
