-- The output of `Display`: the text of the location with the password hidden, as UTF-8.
use Rattle.std.specs.Prelude.{ℕ, List, codes, Option, Some, None, Result, Ok, Err}
use Rattle.git_location.specs.declared.write_error.WriteFault.{WriteFault}
use Rattle.git_syntax.specs.Location.{Location}
use Rattle.git_syntax.specs.Bytes.{lossy_text}
use Rattle.git_location.specs.Text.{text}

-- the text that replaces a password; a missing password stays missing
abbrev pub hidden_password : Option (List ℕ) → Option (List ℕ)
hidden_password None = None
hidden_password (Some password) = Some (codes "redacted")

-- the output for a text
abbrev pub shown_text : Result (List ℕ) WriteFault → Option (List ℕ)
shown_text (Ok t) = Some (lossy_text t)
shown_text (Err fault) = None

-- the output for a location: `None` if it has no text with the hidden password
abbrev pub display : Location → Option (List ℕ)
display v = shown_text (text (record v { password = hidden_password v.password }))
