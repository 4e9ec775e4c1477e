-- The results of calls that return errors of this crate.
use Rattle.std.specs.Prelude.{◌≡◌, ◌⊎◌, ℕ, List, [], Result, Ok, Err, IfOk, IfErr}
use Rattle.bstr.specs.declared.bstring.BString.{BString}
use Rattle.bstr.specs.Owned.{bstring_bytes}
use Rattle.gix_url.specs.declared.error.Error.{Error}
use Rattle.gix_url.specs.declared.error.Error.TheVariants as error
use Rattle.git_location.specs.declared.write_error.WriteFault.{WriteFault}
use Rattle.git_syntax.specs.Location.{Location}
use Rattle.git_syntax.specs.Grammar.{Spells}
use Rattle.gix_url.specs.Flaws.{Flaw}
pub use Rattle.git_location.specs.Readings.{RefusesIn, ReadsIn, IsAgain, SpellsAgain, Written}

-- an allocation failed, or the bytes spell no location
abbrev pub Refuses : List ℕ → Error → Type 0
Refuses b e = (e ≡ error.Memory) ⊎ ((v : Location) → ¬ Spells b v)

-- the result of reading the bytes
pub record Reads (b : List ℕ) (result : Result Location Error) : Type 0 where
  -- a location that is returned is one that the bytes spell
  pub found : IfOk result (Spells b)
  -- an error is returned only if the bytes spell none, or an allocation failed
  pub refused : IfErr result (Refuses b)
  -- the flaw that the error names is in the bytes
  pub flaw : IfErr result (Flaw b)
  -- the empty text is refused as such
  pub empty : b ≡ [] → result ≡ Err error.EmptyLocal
  -- if the bytes spell a location, it is returned, unless an allocation failed
  pub answered : (v : Location) → Spells b v → (result ≡ Ok v) ⊎ (result ≡ Err error.Memory)

-- the result of writing a settled location into an owned text: its text, or a failed allocation
abbrev pub WritesAgain : Location → Result BString Error → Type 0
WritesAgain v (Ok s) = SpellsAgain v (bstring_bytes s)
WritesAgain v (Err e) = e ≡ error.Memory

-- the result of reading a settled location's text: the location again, or a failed allocation
abbrev pub ReadsAgain : Location → Result Location Error → Type 0
ReadsAgain v (Ok again) = IsAgain v again
ReadsAgain v (Err e) = e ≡ error.Memory

-- the error of writing a location: an allocation failed, or the location has no text because of this fault
abbrev pub IsUnwritten : Result (List ℕ) WriteFault → Error → Type 0
IsUnwritten r e = (e ≡ error.Memory)
    ⊎ ((fault : WriteFault) × (e ≡ error.Unwritable fault) × (r ≡ Err fault))
