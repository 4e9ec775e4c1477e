-- The numbers that C gets for results, errors and refusals.
use Rattle.std.specs.Prelude.{◌≡◌, ℕ, ◌+◌, ◌⊎◌, Bool, not, nat_lt, ◌&&◌, List, length, Option, Some, None}
use Rattle.bstr.specs.Owned.{bstring_bytes}
use Rattle.git_syntax.specs.declared.refusal.UrlKind.{UrlKind}
use Rattle.git_syntax.specs.declared.refusal.UrlKind.TheVariants as kind
use Rattle.git_syntax.specs.declared.refusal.UrlFault.{UrlFault}
use Rattle.git_syntax.specs.declared.refusal.UrlFault.TheVariants as fault
use Rattle.git_refusals.specs.declared.reason.Reason.{Reason}
use Rattle.git_refusals.specs.declared.reason.Reason.TheVariants as reason
use Rattle.git_refusals.specs.declared.reason.RefusalKind.{RefusalKind}
use Rattle.git_refusals.specs.declared.reason.RefusalKind.TheVariants as refusal
use Rattle.git_refusals.specs.declared.refusal.Refusal.{Refusal}
use Rattle.git_refusals.specs.Kinds.{kind_of}
use Rattle.git_parts.specs.Fronts.{shown_front}
use Rattle.git_refusals.specs.Reasons.{Refused}
use Rattle.git_location.specs.declared.write_error.WriteFault.{WriteFault}
use Rattle.git_location.specs.declared.write_error.WriteFault.TheVariants as unwritten
use Rattle.git_readers.specs.declared.unambiguous.Condition.{Condition}
use Rattle.git_readers.specs.Conditions.{place}
use Rattle.gix_url.specs.declared.error.Error.{Error}
use Rattle.gix_url.specs.declared.error.Error.TheVariants as error
use Rattle.gix_url.specs.Flaws.{IsErrorOf, IsNotOfReading}
use Rattle.c_values.specs.declared.codes.Problem.{Problem}

-- the call succeeded
abbrev pub ok : ℕ
ok = 0

-- memory was refused
abbrev pub memory : ℕ
memory = 1

-- the location has no text
abbrev pub unwritable : ℕ
unwritable = 8

-- the parts aren't a location
abbrev pub no_location : ℕ
no_location = 101

-- the result doesn't fit in the buffer
abbrev pub no_room : ℕ
no_room = 102

-- the number of a kind of refusal
abbrev pub kind_code : RefusalKind → ℕ
kind_code refusal.EmptyLocal = 2
kind_code refusal.MissingPath = 3
kind_code refusal.NotUtf8 = 4
kind_code refusal.TooLong = 5
kind_code (refusal.BadUrl fault) = 6

-- the number of an error
abbrev pub error_code : Error → ℕ
error_code error.Memory = memory
error_code error.EmptyLocal = kind_code refusal.EmptyLocal
error_code (error.MissingPath kind input) = kind_code refusal.MissingPath
error_code (error.NotUtf8 kind input) = kind_code refusal.NotUtf8
error_code (error.TooLong shown total) = kind_code refusal.TooLong
error_code (error.BadUrl kind fault input) = kind_code (refusal.BadUrl fault)
error_code (error.HelperName name) = 7
error_code (error.Unwritable fault) = unwritable
error_code (error.NoHome user) = 9
error_code error.PathNotUtf8 = 10
error_code error.Unresolved = 11

-- the number of a form
abbrev pub kind_number : UrlKind → ℕ
kind_number kind.Url = 1
kind_number kind.Scp = 2
kind_number kind.Local = 3

-- the number of a fault of a URL
abbrev pub fault_number : UrlFault → ℕ
fault_number fault.NoScheme = 1
fault_number fault.BadPort = 2
fault_number fault.BadCharacter = 3
fault_number fault.HostRequired = 4

-- the number of a fault of writing
abbrev pub write_fault_number : WriteFault → ℕ
write_fault_number unwritten.HelperName = 1
write_fault_number unwritten.HelperParts = 2
write_fault_number unwritten.RelativeSsh = 3
write_fault_number unwritten.UserWithoutHost = 4

-- the number of a reason: its place in the order of the header
abbrev pub reason_number : Reason → ℕ
reason_number reason.Empty = 1
reason_number reason.SchemeTooLong = 2
reason_number reason.AuthorityTooLong = 3
reason_number reason.NotUtf8 = 4
reason_number reason.WhiteSpace = 5
reason_number reason.BrokenEscape = 6
reason_number reason.SchemeMissing = 7
reason_number reason.SchemeStart = 8
reason_number reason.SchemeCharacter = 9
reason_number reason.WhiteSpaceInHost = 10
reason_number reason.Backslash = 11
reason_number reason.BackslashInHost = 12
reason_number reason.EscapesNotUtf8 = 13
reason_number reason.UnclosedBracket = 14
reason_number reason.BehindBracket = 15
reason_number reason.NotAnAddress = 16
reason_number reason.AddressWithoutBrackets = 17
reason_number reason.SecondColon = 18
reason_number reason.HostBeforePort = 19
reason_number reason.PortNotANumber = 20
reason_number reason.HostCharacter = 21
reason_number reason.PortTooLarge = 22
reason_number reason.PortZero = 23
reason_number reason.HostBehindUser = 24
reason_number reason.HostMissing = 25
reason_number reason.PathMissing = 26
reason_number reason.FilePathMissing = 27
reason_number reason.ScpPathMissing = 28

-- something has this number, by these numbers
abbrev pub HasNumber : {A : Type 0} → (A → ℕ) → ℕ → Type 0
HasNumber {A} number n = (a : A) × (number a ≡ n)

-- the number of a condition: its place in the order in which the conditions are tested, from 1
abbrev pub condition_number : Condition → ℕ
condition_number condition = place condition + 1

-- the number of the first condition that a location doesn't meet, or 0 if it meets all
abbrev pub condition_reported : Option Condition → ℕ
condition_reported None = 0
condition_reported (Some condition) = condition_number condition

-- the number of a refusal, which is that of its error
abbrev pub refusal_code : Refusal → ℕ
refusal_code r = kind_code (kind_of r.reason)

-- the number of the form in which a text is refused, or 0
abbrev pub kind_reported : UrlKind → RefusalKind → ℕ
kind_reported form refusal.EmptyLocal = 0
kind_reported form refusal.MissingPath = kind_number form
kind_reported form refusal.NotUtf8 = kind_number form
kind_reported form refusal.TooLong = 0
kind_reported form (refusal.BadUrl fault) = kind_number form

-- the number of the fault for which a URL is refused, or 0
abbrev pub fault_reported : RefusalKind → ℕ
fault_reported (refusal.BadUrl fault) = fault_number fault
fault_reported refusal.EmptyLocal = 0
fault_reported refusal.MissingPath = 0
fault_reported refusal.NotUtf8 = 0
fault_reported refusal.TooLong = 0

-- the problem of a refusal, with these lengths of the front and the text
abbrev pub refusal_problem : Refusal → ℕ → ℕ → Problem
refusal_problem r shown total = record {
  kind = kind_reported r.form (kind_of r.reason);
  fault = fault_reported (kind_of r.reason);
  reason = reason_number r.reason;
  shown = shown;
  total = total;
  at = r.at;
  len = r.len;
}

-- a length that is reported about a text that is too long, and 0 about any other
abbrev pub if_too_long : RefusalKind → ℕ → ℕ
if_too_long refusal.TooLong n = n
if_too_long refusal.EmptyLocal n = 0
if_too_long refusal.MissingPath n = 0
if_too_long refusal.NotUtf8 n = 0
if_too_long (refusal.BadUrl fault) n = 0

-- the problem of the refusal of a text
abbrev pub problem_of_refusal : List ℕ → Refusal → Problem
problem_of_refusal b r = refusal_problem r (if_too_long (kind_of r.reason) (length (shown_front b r)))
    (if_too_long (kind_of r.reason) (length b))

-- the problem of an error that is only a number
abbrev pub no_problem : Problem
no_problem = record { kind = 0; fault = 0; reason = 0; shown = 0; total = 0; at = 0; len = 0 }

-- the problem of a location without a text
abbrev pub write_problem : WriteFault → Problem
write_problem fault = record { kind = 0; fault = write_fault_number fault; reason = 0; shown = 0; total = 0; at = 0; len = 0 }

-- the problem of an error that is not about reading
abbrev pub problem_of_other : Error → Problem
problem_of_other (error.Unwritable fault) = write_problem fault
problem_of_other _ = no_problem

-- the lengths of the front and of the text in an error
abbrev pub error_shown : Error → ℕ
error_shown (error.TooLong shown total) = length (bstring_bytes shown)
error_shown _ = 0

abbrev pub error_total : Error → ℕ
error_total (error.TooLong shown total) = total
error_total _ = 0

-- this is the problem of an error
pub record Reports (e : Error) (problem : Problem) : Type 0 where
  -- for an error of reading, whatever its text is, the report about the refusal of that text
  pub refused : (b : List ℕ) (r : Refusal) → Refused b r → IsErrorOf b r e → problem ≡ problem_of_refusal b r
  -- for any other error, its fields
  pub other : IsNotOfReading e → problem ≡ problem_of_other e

-- the number is that of an error that may have a problem: of reading or of writing
abbrev pub has_problem : ℕ → Bool
has_problem code = nat_lt memory code && not (nat_lt unwritable code)

-- memory was refused, or this is true
abbrev pub UnlessMemory : ℕ → Type 0 → Type 0
UnlessMemory code holds = (code ≡ memory) ⊎ holds

-- the parts aren't a location, and that is reported; or they are one, and this is true
abbrev pub UnlessNone : ℕ → Type 0 → Type 0 → Type 0
UnlessNone code none holds = ((code ≡ no_location) × none) ⊎ ((¬ none) × holds)
