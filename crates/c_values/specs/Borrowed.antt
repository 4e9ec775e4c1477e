-- A location as Rust gets it: numbers, and slices of the text and of the buffer.
use Rattle.std.specs.Prelude.{◌≡◌, ℕ, List, Result, Ok, Err}
use Rattle.git_location.specs.declared.parse_error.ParseError.{ParseError}
use Rattle.git_location.specs.declared.parse_error.ParseError.TheVariants as unread
use Rattle.gix_url.specs.Location.{Location}
use Rattle.gix_url.specs.Readings.{ReadsIn}
use Rattle.c_values.specs.declared.codes.Problem.{Problem}
use Rattle.c_values.specs.declared.input.PartBytes.{PartBytes}
use Rattle.c_values.specs.Codes.{ok, no_room, no_problem, refusal_code, problem_of_refusal}
use Rattle.c_values.specs.Output.{location_numbers, scheme_name, or_nothing}

-- the location is borrowed: its numbers, and the bytes of each part; a missing part is empty
pub record IsBorrowed (v : Location) (borrowed : PartBytes) : Type 0 where
  pub numbers : borrowed.numbers ≡ location_numbers v
  pub name : borrowed.name.now ≡ scheme_name v.scheme
  pub user : borrowed.user.now ≡ or_nothing v.user
  pub password : borrowed.password.now ≡ or_nothing v.password
  pub host : borrowed.host.now ≡ or_nothing v.host
  pub path : borrowed.path.now ≡ v.path
  pub spelling : borrowed.spelling.now ≡ or_nothing v.spelling

-- a reading of the bytes is reported: a borrowed location, or an error by its number and its problem
abbrev pub ReportsBorrowed : List ℕ → Result Location ParseError → PartBytes → Problem → ℕ → Type 0
ReportsBorrowed b (Ok v) borrowed problem code = (code ≡ ok) × (problem ≡ no_problem) × IsBorrowed v borrowed
ReportsBorrowed b (Err unread.NoRoom) borrowed problem code = (code ≡ no_room) × (problem ≡ no_problem)
ReportsBorrowed b (Err (unread.Refused why)) borrowed problem code = (code ≡ refusal_code why) × (problem ≡ problem_of_refusal b why)

-- the result of reading the bytes with a buffer of this length is reported
abbrev pub ReportsReadIn : List ℕ → ℕ → PartBytes → Problem → ℕ → Type 0
ReportsReadIn b buffer borrowed problem code = (answer : Result Location ParseError) × ReadsIn b buffer answer × ReportsBorrowed b answer borrowed problem code
