-- The results of the functions that read an item.
use Rattle.std.specs.Prelude.{ℕ, ◌+◌, ◌<◌, ◌≤◌, List, Result, Ok, Err, length, option_map}
use Rattle.std.specs.Borrow.{MutBor}
use Rattle.git_modules.specs.declared.config_file.place.Wrong.{Wrong}
use Rattle.git_modules.specs.declared.config_file.step.Step.{Step}
use Rattle.git_modules.specs.declared.config_file.step.Step.TheVariants.{Nothing, Header, Setting}
use Rattle.git_modules.specs.ConfigFileBytes.{left_at}
use Rattle.git_modules.specs.ConfigFileItems.{Item, ItemRead, gap, header, setting}
use Rattle.git_modules.specs.ConfigFilePieces.{refusal_of}

-- a step, the rest of the buffer, and the offset after the step; or an error
abbrev pub StepRead : Type 0
StepRead = Result (Step × MutBor (List ℕ) × ℕ) Wrong

-- the item of a step
abbrev pub item_in : Step → Item
item_in Nothing = gap
item_in (Header stem) = header stem.now
item_in (Setting key value) = setting key.now (option_map (λ t. t.now) value)

-- the item that was read, and the text after it
abbrev pub step_as : List ℕ → StepRead → ItemRead
step_as text (Ok p) = Ok (item_in p.0, left_at text p.2)
step_as text (Err w) = Err (refusal_of text w)

-- the offset that was reached is within the text, and the buffer suffices for the rest of the text
abbrev pub IsReadWithin : List ℕ → ℕ → StepRead → Type 0
IsReadWithin text at (Ok p) = (at ≤ p.2) × (p.2 ≤ length text) × (length text ≤ p.2 + length p.1.now)
IsReadWithin text at (Err w) = (at ≤ w.at) × (w.at ≤ length text)

-- the offset that was reached is after the start of the item and within the text, and the buffer suffices for the
-- rest of the text
abbrev pub IsStepWithin : List ℕ → ℕ → StepRead → Type 0
IsStepWithin text at (Ok p) = (at < p.2) × (p.2 ≤ length text) × (length text ≤ p.2 + length p.1.now)
IsStepWithin text at (Err w) = (at ≤ w.at) × (w.at ≤ length text)
