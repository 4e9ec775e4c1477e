-- The bytes of a value that are written while it is read.
use Rattle.std.specs.Prelude.{◌≡◌, ℕ, ◌+◌, ◌-◌, ◌≤◌, List, [], ◌∷◌, ◌++◌, Result, Ok, Err, take, nat_lt}
use Rattle.git_modules.specs.declared.config_file.value.Part.{Part}
use Rattle.git_modules.specs.declared.config_file.value.Part.TheVariants as part
use Rattle.git_modules.specs.declared.config_file.value.Written.{Written}
use Rattle.git_modules.specs.declared.config_file.value.Ending.{Ending}
use Rattle.git_modules.specs.declared.config_file.value.Ending.TheVariants as ending
use Rattle.git_modules.specs.declared.config_file.place.Wrong.{Wrong}
use Rattle.git_modules.specs.ConfigFileFlaws.{Read, prefixed}
use Rattle.git_modules.specs.ConfigFileValues.{part_of, value_text, value_end, spaces}

-- the written bytes end in spaces that only count if another byte follows them
abbrev pub HasTail : List ℕ → Written → Type 0
HasTail buffer w = (w.kept ≤ w.end) × (take w.end buffer ≡ take w.kept buffer ++ spaces (w.end - w.kept))

-- the value of the written bytes and of the rest of the text
abbrev pub value_on : List ℕ → Written → List ℕ → Read
value_on buffer w left = prefixed (take w.kept buffer) (value_text w.mode (nat_lt 0 w.end) (w.end - w.kept) left)

-- the part of the next byte is written: the value stays the same, and at most one more byte is written
abbrev pub Goes : Part → List ℕ → Written → List ℕ → Written → Type 0
Goes p old w new v = ((c : ℕ) (left : List ℕ) → part_of w.mode c ≡ p
    → value_on old w (c ∷ left) ≡ value_on new v left)
    × HasTail new v × (v.end ≤ w.end + 1)

-- the part is written, or it ends the value
abbrev pub PutsPart : Part → List ℕ → Written → List ℕ → Result Written Ending → Type 0
PutsPart p old w new (Ok v) = Goes p old w new v
PutsPart p old w new (Err ending.Line) = (p ≡ part.End) × (new ≡ old)
PutsPart p old w new (Err (ending.Flaw flaw)) = p ≡ part.Flaw flaw

-- the space is written
abbrev pub PutsBlank : List ℕ → Written → List ℕ → Written → Type 0
PutsBlank old w new v = Goes part.Blank old w new v

-- the value ends at the end of the text, unless a quote is open
abbrev pub EndsValue : Written → ℕ → Result (ℕ × ℕ) Wrong → Type 0
EndsValue w at (Ok p) = (p ≡ (w.kept, at)) × (value_end w.mode ≡ Ok ([], []))
EndsValue w at (Err e) = (e.at ≡ at)
    × (value_end w.mode ≡ Err (record { flaw = e.flaw; rest = []; is_late = e.is_late }))
