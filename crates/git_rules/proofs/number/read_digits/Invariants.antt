use Rattle.std.proofs.Common.{◌≡◌, ◌≤◌, drop}
use Rattle.std.specs.Str.Parse.{digits_value, digits_value_after}
use Rattle.git_rules.proofs.number.read_digits.Given as goal

-- the number so far fits, and the digits left after it write the same number as all
abbrev pub invariant-loop-byte : goal.invariant-loop-byte
invariant-loop-byte l = (l.value ≤ l.greatest)
    × (digits_value_after l.radix l.value (drop l.byte-index l.digits) ≡ digits_value l.radix l.digits)
