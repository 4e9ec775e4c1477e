-- The error that each reason belongs to.
use Rattle.std.specs.Prelude.{Option, Some, None}
use Rattle.git_syntax.specs.declared.refusal.UrlFault.{UrlFault}
use Rattle.git_syntax.specs.declared.refusal.UrlFault.TheVariants.{NoScheme, BadPort, BadCharacter, HostRequired}
use Rattle.git_syntax.specs.declared.refusal.UrlKind.{UrlKind}
use Rattle.git_syntax.specs.declared.refusal.UrlKind.TheVariants.{Local}
use Rattle.git_refusals.specs.declared.place.Place.{Place}
use Rattle.git_refusals.specs.declared.reason.Reason.{Reason}
use Rattle.git_refusals.specs.declared.reason.Reason.TheVariants as reason
use Rattle.git_refusals.specs.declared.reason.RefusalKind.{RefusalKind}
use Rattle.git_refusals.specs.declared.reason.RefusalKind.TheVariants as kind
use Rattle.git_refusals.specs.declared.refusal.Refusal.{Refusal}

-- the kind of the error with which a text is refused for a reason
abbrev pub kind_of : Reason → RefusalKind
kind_of reason.Empty = kind.EmptyLocal
kind_of reason.PathMissing = kind.MissingPath
kind_of reason.FilePathMissing = kind.MissingPath
kind_of reason.ScpPathMissing = kind.MissingPath
kind_of reason.NotUtf8 = kind.NotUtf8
kind_of reason.SchemeTooLong = kind.TooLong
kind_of reason.AuthorityTooLong = kind.TooLong
kind_of reason.SchemeMissing = kind.BadUrl NoScheme
kind_of reason.SchemeStart = kind.BadUrl NoScheme
kind_of reason.SchemeCharacter = kind.BadUrl NoScheme
kind_of reason.PortNotANumber = kind.BadUrl BadPort
kind_of reason.PortTooLarge = kind.BadUrl BadPort
kind_of reason.PortZero = kind.BadUrl BadPort
kind_of reason.HostMissing = kind.BadUrl HostRequired
kind_of reason.WhiteSpace = kind.BadUrl BadCharacter
kind_of reason.BrokenEscape = kind.BadUrl BadCharacter
kind_of reason.WhiteSpaceInHost = kind.BadUrl BadCharacter
kind_of reason.Backslash = kind.BadUrl BadCharacter
kind_of reason.BackslashInHost = kind.BadUrl BadCharacter
kind_of reason.EscapesNotUtf8 = kind.BadUrl BadCharacter
kind_of reason.UnclosedBracket = kind.BadUrl BadCharacter
kind_of reason.BehindBracket = kind.BadUrl BadCharacter
kind_of reason.NotAnAddress = kind.BadUrl BadCharacter
kind_of reason.AddressWithoutBrackets = kind.BadUrl BadCharacter
kind_of reason.SecondColon = kind.BadUrl BadCharacter
kind_of reason.HostBeforePort = kind.BadUrl BadCharacter
kind_of reason.HostCharacter = kind.BadUrl BadCharacter
kind_of reason.HostBehindUser = kind.BadUrl BadCharacter

-- the fault of a URL that an error names
abbrev pub fault_in : RefusalKind → Option UrlFault
fault_in (kind.BadUrl fault) = Some fault
fault_in kind.EmptyLocal = None
fault_in kind.MissingPath = None
fault_in kind.NotUtf8 = None
fault_in kind.TooLong = None

-- the fault of a URL that a reason belongs to
abbrev pub fault_of : Reason → Option UrlFault
fault_of r = fault_in (kind_of r)

-- the refusal of a text that was read as this form
abbrev pub refusal_of : UrlKind → Place → Refusal
refusal_of form place = record { form = form; reason = place.reason; at = place.at; len = place.len }

-- the refusal of the empty text
abbrev pub empty_refusal : Refusal
empty_refusal = record { form = Local; reason = reason.Empty; at = 0; len = 0 }
