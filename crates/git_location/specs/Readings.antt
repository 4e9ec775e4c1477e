-- The results of calls.
use Rattle.std.specs.Prelude.{◌≡◌, ◌<◌, ◌≤◌, ◌↔◌, ℕ, length, List, [], Option, Result, Ok, Err, IfOk, IfErr}
use Rattle.std.specs.Io.KnownBytes.{Appends}
use Rattle.git_location.specs.declared.parse_error.ParseError.{ParseError}
use Rattle.git_location.specs.declared.parse_error.ParseError.TheVariants as unread
use Rattle.git_location.specs.declared.write_error.WriteFault.{WriteFault}
use Rattle.git_location.specs.declared.write_error.WriteError.{WriteError}
use Rattle.git_location.specs.declared.write_error.WriteError.TheVariants.{Fault, Io}
use Rattle.git_syntax.specs.Location.{Location, fields}
use Rattle.git_syntax.specs.Grammar.{Spells}
use Rattle.git_location.specs.Text.{text}
use Rattle.git_location.specs.Settled.{IsSettled}
use Rattle.git_refusals.specs.Kinds.{empty_refusal}
use Rattle.git_refusals.specs.Reasons.{Refused}

-- the bytes spell a location and the buffer is shorter than they are; or they spell none, and this is their
-- refusal
abbrev pub RefusesIn : List ℕ → ℕ → ParseError → Type 0
RefusesIn b buffer_len unread.NoRoom = ((v : Location) × Spells b v) × (buffer_len < length b)
RefusesIn b buffer_len (unread.Refused why) = ((v : Location) → ¬ Spells b v) × Refused b why

-- the result of reading the bytes with a buffer of this length
pub record ReadsIn (b : List ℕ) (buffer_len : ℕ) (result : Result Location ParseError) : Type 0 where
  -- a location that is returned is one that the bytes spell
  pub found : IfOk result (Spells b)
  -- an error is returned only if the bytes spell none, or the buffer is shorter than the bytes
  pub refused : IfErr result (RefusesIn b buffer_len)
  -- a location is returned only if the buffer is at least as long as the bytes
  pub fits : IfOk result (λ v. length b ≤ buffer_len)
  -- the empty text is refused as such
  pub empty : b ≡ [] → result ≡ Err (unread.Refused empty_refusal)
  -- if the buffer is at least as long as the bytes, a location is returned exactly if the bytes spell it
  pub exact : length b ≤ buffer_len → (v : Location) → (result ≡ Ok v) ↔ Spells b v

-- `again` has the public fields and the text of `v`, and is settled
pub record IsAgain (v again : Location) : Type 0 where
  pub same_fields : fields again ≡ fields v
  pub same_text : text again ≡ text v
  pub settled : IsSettled again

-- the bytes spell a location that is `IsAgain`
pub record SpellsAgain (v : Location) (b : List ℕ) : Type 0 where
  pub back : Location
  pub spelled : Spells b back
  pub again : IsAgain v back

-- the effect of writing a text to a writer: on `Ok` the text is appended; if there is no text, the fault is
-- returned and the writer is unchanged
abbrev pub Written : {W : Type 0} → (W → Option (List ℕ)) → W → W → Result (List ℕ) WriteFault
    → Result (Unit {0}) WriteError → Type 0
Written contents old new (Ok t) (Ok u) = Appends (contents old) (contents new) t
Written contents old new (Ok t) (Err (Fault f)) = ⊥
Written contents old new (Ok t) (Err (Io e)) = Unit {0}
Written contents old new (Err f) r = (r ≡ Err (Fault f)) × (new ≡ old)
