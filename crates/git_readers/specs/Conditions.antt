-- The class of unambiguous locations, condition by condition.
use Rattle.std.specs.Prelude.{◌≡◌, ℕ, ◌<◌, Bool, true, false, List, Option, Some, IfSome, IsUtf8}
use Rattle.std.specs.List.{list_all}
use Rattle.git_syntax.specs.Location.{Scheme, Location}
use Rattle.git_syntax.specs.Location.Scheme.{file, ssh, http, https}
use Rattle.git_syntax.specs.Bytes.{Lacks, unrooted}
use Rattle.git_syntax.specs.Escapes.{matches}
use Rattle.git_location.specs.Settled.{begins_with_slashes}
use Rattle.git_class.specs.GitClass.{AgreesWithGit, is_tilde_second}
use Rattle.git_readers.specs.declared.unambiguous.Condition.{Condition}
use Rattle.git_readers.specs.declared.unambiguous.Form.{Form}
use Rattle.git_readers.specs.declared.unambiguous.Form.TheVariants.{Web, Transport, Scp, Local}
use Rattle.git_readers.specs.declared.unambiguous.Condition.TheVariants as condition
use Rattle.git_readers.specs.Unambiguous.{BeginsWithPort, HasInnerSlash, HasDots, IsCommonHost, IsPlainLocal, IsPlainScpHost, IsPlainUser, IsPlainWord, is_odd_local, is_odd_start, is_path_byte, is_scp_byte}

-- the form of a location, by its scheme and the flag of the alternative form
abbrev pub form_of : Scheme → Bool → Form
form_of file true = Local
form_of ssh true = Scp
form_of http flag = Web
form_of https flag = Web
form_of _ flag = Transport

-- the form of the location
abbrev pub form : Location → Form
form v = form_of v.scheme v.flag

-- no reader cuts the path at one of its bytes or changes one
abbrev pub HasPlainBytes : Form → List ℕ → Type 0
HasPlainBytes Scp path = list_all is_scp_byte path ≡ true
HasPlainBytes Local path = IsUtf8 path × Lacks is_odd_local path
HasPlainBytes _ path = list_all is_path_byte path ≡ true

-- the path begins in a way that no reader changes
abbrev pub BeginsPlainly : Form → List ℕ → Type 0
BeginsPlainly Web path = begins_with_slashes path ≡ false
BeginsPlainly Transport path = (begins_with_slashes path ≡ false) × (is_tilde_second path ≡ false)
    × (is_odd_start (unrooted path) ≡ false)
BeginsPlainly Scp path = ¬ BeginsWithPort path
BeginsPlainly Local path = IsPlainLocal path

-- the path of a URL or of the scp form has no segment `.` or `..`
abbrev pub LacksDots : Form → List ℕ → Type 0
LacksDots Local path = Unit {0}
LacksDots _ path = ¬ HasDots path

-- in the scp form, no reader reads the host as a scheme or a drive
abbrev pub HasPlainScpHost : Form → Option (List ℕ) → Option (List ℕ) → Type 0
HasPlainScpHost Scp user host = IfSome host (IsPlainScpHost user)
HasPlainScpHost _ user host = Unit {0}

-- in the scp form, the path has a `/` between two bytes
abbrev pub HasScpSlash : Form → List ℕ → Type 0
HasScpSlash Scp path = HasInnerSlash path
HasScpSlash _ path = Unit {0}

-- the location meets the condition
abbrev pub Meets : Condition → Location → Type 0
Meets condition.Git v = AgreesWithGit v
Meets condition.Escapes v = matches v.spelling v.path ≡ false
Meets condition.Host v = IfSome v.host IsCommonHost
Meets condition.User v = IfSome v.user IsPlainUser
Meets condition.Password v = IfSome v.password IsPlainWord
Meets condition.Port v = ¬ (v.port ≡ Some 0)
Meets condition.PathBytes v = HasPlainBytes (form v) v.path
Meets condition.PathStart v = BeginsPlainly (form v) v.path
Meets condition.DotSegment v = LacksDots (form v) v.path
Meets condition.ScpHost v = HasPlainScpHost (form v) v.user v.host
Meets condition.ScpPath v = HasScpSlash (form v) v.path

-- the location meets every condition under which all readers find the same fields in its text
abbrev pub IsUnambiguous : Location → Type 0
IsUnambiguous v = (each : Condition) → Meets each v

-- the index of a condition in the order of declaration
abbrev pub place : Condition → ℕ
place condition.Git = 0
place condition.Escapes = 1
place condition.Host = 2
place condition.User = 3
place condition.Password = 4
place condition.Port = 5
place condition.PathBytes = 6
place condition.PathStart = 7
place condition.DotSegment = 8
place condition.ScpHost = 9
place condition.ScpPath = 10

-- the location meets each condition that comes before this one
abbrev pub MeetsBefore : Condition → Location → Type 0
MeetsBefore this v = (other : Condition) → place other < place this → Meets other v

-- the location doesn't meet the condition, and meets each one that comes before it
abbrev pub IsFirstUnmet : Condition → Location → Type 0
IsFirstUnmet this v = (¬ Meets this v) × MeetsBefore this v
