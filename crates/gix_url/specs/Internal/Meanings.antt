-- The meaning of the bytes of a path, with escapes that are decoded or literal.
use Rattle.std.specs.Prelude.{ℕ, Bool, List, if◌then◌else◌}
use Rattle.percent_encoding.specs.Percent.{percent_decode}

-- the meaning of a piece: its decoding if it is escaped, and else the piece itself
abbrev pub denoted_by : Bool → List ℕ → List ℕ
denoted_by escaped piece = if escaped then percent_decode piece else piece
