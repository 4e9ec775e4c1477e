-- The places at which Git stops, as C gets them.
use Rattle.std.specs.Prelude.{◌≡◌, ℕ, Bool, not, nat_lt, false}
use Rattle.c_values.specs.declared.rules.stops.Stop.{Stop}

-- Git stops at an entry without a value
abbrev pub no_value : ℕ
no_value = 104

-- Git stops at an entry whose value isn't boolean
abbrev pub no_boolean : ℕ
no_boolean = 105

-- the text isn't a configuration
abbrev pub no_configuration : ℕ
no_configuration = 106

-- the report if Git doesn't stop
abbrev pub no_stop : Stop
no_stop = record { at = 0; line = 0; flaw = 0 }

-- the report about an entry
abbrev pub entry_stop : ℕ → Stop
entry_stop place = record { at = place; line = 0; flaw = 0 }

-- the number says that Git stops at the entry with this place
abbrev pub StopsAt : ℕ → ℕ → Stop → ℕ → Type 0
StopsAt number place stop code = (code ≡ number) × (stop ≡ entry_stop place)

-- the number is that of a stop
abbrev pub has_stop : ℕ → Bool
has_stop code = not (nat_lt code no_value)

-- unless the call returns the number of a stop, no stop is reported
abbrev pub LeavesStop : ℕ → Stop → Type 0
LeavesStop code stop = has_stop code ≡ false → stop ≡ no_stop
