-- A location with its path resolved, by the resolver's answer.
use Rattle.std.proofs.Common.{◌≡◌, ◌⊎◌, inr, Option, Some, None, MatchOption, Result, Ok, Err, String}
use Rattle.std.specs.Global.{Global}
use Rattle.std.specs.String.{string_bytes}
use Rattle.gix_url.specs.declared.error.Error.{Error}
use Rattle.gix_url.specs.declared.error.Error.TheVariants as error
use Rattle.git_syntax.specs.Location.{Location}

-- an answer of the resolver: a text that becomes the path, or none, which is reported
abbrev pub Resolves : (Option (String Global) → Type 0) → Location → Location → Result (Unit {0}) Error → Type 0
Resolves answers v w r =
    (answer : Option (String Global)) × answers answer
    × MatchOption answer ((r ≡ Err error.Unresolved) × (w ≡ v)) (λ text. (r ≡ Ok tt) × (w ≡ record v { path = string_bytes text }))

-- if it came out well, the answer was a text
pub resolved_text : (answers : Option (String Global) → Type 0) (v w : Location) (u : Unit {0}) → Resolves answers v w (Ok u) → (text : String Global) × answers (Some text) × (w ≡ record v { path = string_bytes text })
resolved_text answers v w u (None, a, h) = let wrong = h.0 in cc
resolved_text answers v w u (Some text, a, h) = (text, a, h.1)

-- if not, it was none
pub resolved_none : (answers : Option (String Global) → Type 0) (v w : Location) (fault : Error) → Resolves answers v w (Err fault) → (fault ≡ error.Memory) ⊎ ((fault ≡ error.Unresolved) × answers None)
resolved_none answers v w fault (None, a, h) = let reported = h.0 in inr (cc, a)
resolved_none answers v w fault (Some text, a, h) = let wrong = h.0 in cc
