-- The front of a URL that is too long. Its error shows this front.
use Rattle.std.specs.Prelude.{ℕ, ◌+◌, ◌-◌, List, take}
use Rattle.git_refusals.specs.declared.reason.Reason.{Reason}
use Rattle.git_refusals.specs.declared.reason.Reason.TheVariants.{SchemeTooLong}
use Rattle.git_refusals.specs.declared.refusal.Refusal.{Refusal}

-- the length of the scheme of a URL that is too long, from the reason and the place of its refusal
abbrev pub scheme_length : Reason → ℕ → ℕ → ℕ
scheme_length SchemeTooLong at len = len
scheme_length _ at len = at - 3

-- the scheme, `://` and the 1,024 bytes after it, or the whole text if it is shorter
abbrev pub shown_front : List ℕ → Refusal → List ℕ
shown_front b r = take (scheme_length r.reason r.at r.len + 1027) b
