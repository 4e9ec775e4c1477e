-- The law on texts of unambiguous locations, and the readers that are known to be of the family.
use Rattle.std.specs.Prelude.{◌≡◌, ℕ, false, List, Ok}
use Rattle.git_syntax.specs.Location.{Location}
use Rattle.git_location.specs.Text.{text}
use Rattle.git_location.specs.Settled.{IsValue}
use Rattle.git_readers.specs.Conditions.{IsUnambiguous}
use Rattle.git_readers.specs.Readers.{LeavesPlain, Reader, UrlReader, own_parts, reads, reads_url}

-- every reader for which `LeavesPlain` holds finds an unambiguous location's own fields in its text
abbrev pub ReadByAll : Type 0
ReadByAll = (v : Location) → IsValue v → IsUnambiguous v → (r : Reader) → LeavesPlain r.url
    → (t : List ℕ) → text v ≡ Ok t → reads r t ≡ own_parts v

-- if an unambiguous location is written as a URL, every reader of URLs for which `LeavesPlain` holds finds the
-- location's own fields in its text
abbrev pub UrlReadByAll : Type 0
UrlReadByAll = (v : Location) → IsValue v → IsUnambiguous v → v.flag ≡ false → (r : UrlReader)
    → LeavesPlain r → (t : List ℕ) → text v ≡ Ok t → reads_url r t ≡ own_parts v
