-- The result of reading a part of a configuration file, or the reason why it can't be read.
use Rattle.std.specs.Prelude.{ℕ, Bool, true, false, List, ◌++◌, Result, Ok, Err}
use Rattle.git_modules.specs.declared.config_file.flaw.Flaw.{Flaw}

-- an error: its reason, the text from the faulty byte on, and whether Git names the next line
pub record Refusal : Type 0 where
  pub flaw : Flaw
  pub rest : List ℕ
  pub is_late : Bool

-- an error for which Git names the line of the byte
abbrev pub refused : {A : Type 0} → Flaw → List ℕ → Result A Refusal
refused flaw rest = Err (record { flaw = flaw; rest = rest; is_late = false })

-- an error for which Git names the line after that of the byte
abbrev pub refused_late : {A : Type 0} → Flaw → List ℕ → Result A Refusal
refused_late flaw rest = Err (record { flaw = flaw; rest = rest; is_late = true })

-- the bytes that a text spells and the text after them, or an error
abbrev pub Read : Type 0
Read = Result (List ℕ × List ℕ) Refusal

-- the bytes with others before them
abbrev pub prefixed : List ℕ → Read → Read
prefixed front (Ok p) = Ok (front ++ p.0, p.1)
prefixed front (Err e) = Err e
