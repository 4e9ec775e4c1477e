-- Entries of a configuration as they are shown.
use Rattle.std.specs.Prelude.{ℕ, Bool, false, if◌then◌else◌, ◌&&◌, List, [], ◌∷◌, ◌++◌, codes, Option, Some, None}
use Rattle.git_syntax.specs.Bytes.{begins_with, dot}
use Rattle.git_rules.specs.Config.{ConfigEntry, sets}
use Rattle.explain_report.specs.Secrets.{text_shown}

-- a subsection after its dot, if there is one
abbrev pub subsection_shown : Option (List ℕ) → List ℕ
subsection_shown None = []
subsection_shown (Some subsection) = dot ∷ text_shown subsection

-- the key without its name
abbrev pub section_shown : ConfigEntry → List ℕ
section_shown e = text_shown e.section ++ subsection_shown e.subsection

-- the key
abbrev pub key_shown : ConfigEntry → List ℕ
key_shown e = section_shown e ++ dot ∷ text_shown e.name

-- the value is a header of HTTP, and not empty
abbrev pub is_header : ConfigEntry → List ℕ → Bool
is_header e [] = false
is_header e (b ∷ bytes) = sets (codes "http") (codes "extraheader") e

-- the value is a credential helper that a shell runs: it begins with `!`
abbrev pub is_shell_helper : ConfigEntry → List ℕ → Bool
is_shell_helper e value = begins_with 33 value && sets (codes "credential") (codes "helper") e

-- a value, or a word in its place if the whole value may be a secret
abbrev pub value_shown : ConfigEntry → List ℕ → List ℕ
value_shown e value = if is_header e value then codes "redacted"
    else (if is_shell_helper e value then codes "!redacted" else text_shown value)
