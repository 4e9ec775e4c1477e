-- Git's reading of a text, as C gets it: numbers, and the bytes of all parts one after the other.
use Rattle.std.specs.Prelude.{◌≡◌, ℕ, ◌⊎◌, true, false, List, [], ◌∷◌, length}
use Rattle.std.specs.List.{concat}
use Rattle.git_syntax.specs.Location.{Scheme}
use Rattle.git_syntax.specs.Location.Scheme.{file, git, ssh}
use Rattle.git_reads.specs.Credentials.{CredentialReading, CredentialReads}
use Rattle.git_reads.specs.Git.{GitReading, GitReads}
use Rattle.git_reads.specs.Unread.{LacksReading, Unreads}
use Rattle.git_reads.specs.declared.transport.Unread.{Unread}
use Rattle.git_reads.specs.declared.transport.Unread.TheVariants as why
use Rattle.c_values.specs.declared.rules.readings.PlaceNumbers.{PlaceNumbers}
use Rattle.c_values.specs.declared.rules.readings.RequestNumbers.{RequestNumbers}
use Rattle.c_values.specs.Codes.{ok}
use Rattle.c_values.specs.Output.{Puts, is_there, or_nothing, or_zero}

-- ---- transports

-- the number of a transport, which is one of three
abbrev pub protocol_number : Scheme → ℕ
protocol_number ssh = 1
protocol_number git = 2
protocol_number file = 3
protocol_number _ = 0

-- the numbers of a place
abbrev pub place_numbers : GitReading → PlaceNumbers
place_numbers r = record {
  why = 0;
  protocol = protocol_number r.protocol;
  has_user = is_there r.user;
  has_host = is_there r.host;
  has_port = is_there r.port;
  port = or_zero r.port;
  user = length (or_nothing r.user);
  host = length (or_nothing r.host);
  path = length r.path;
}

-- the parts of a place
abbrev pub place_texts : GitReading → List (List ℕ)
place_texts r = or_nothing r.user ∷ or_nothing r.host ∷ r.path ∷ []

-- a place is copied
abbrev pub PutsPlace : GitReading → PlaceNumbers → List ℕ → List ℕ → ℕ → Type 0
PutsPlace r built old new code = (built ≡ place_numbers r) × Puts (concat (place_texts r)) old new code

-- the number of the reason why Git reads no place: its place in the order of the header
abbrev pub unread_number : Unread → ℕ
unread_number why.Memory = 0
unread_number why.ByteZero = 1
unread_number why.Option = 2
unread_number why.RemoteHelper = 3
unread_number why.HomeOrHere = 4
unread_number why.SecureShellUrl = 5
unread_number why.Refused = 6

-- the numbers of a text without a place
abbrev pub unread_numbers : ℕ → PlaceNumbers
unread_numbers reason = record {
  why = reason;
  protocol = 0;
  has_user = false;
  has_host = false;
  has_port = false;
  port = 0;
  user = 0;
  host = 0;
  path = 0;
}

-- the reason is reported, which isn't memory
abbrev pub ReportsUnread : Unread → PlaceNumbers → ℕ → Type 0
ReportsUnread reason built code =
    (¬ (reason ≡ why.Memory)) × (built ≡ unread_numbers (unread_number reason)) × (code ≡ ok)

-- the place that Git reads in the text is reported, or why there is none
abbrev pub ReportsPlace : List ℕ → PlaceNumbers → List ℕ → List ℕ → ℕ → Type 0
ReportsPlace text built old new code =
    ((reason : Unread) × LacksReading text × Unreads text reason × (new ≡ old) × ReportsUnread reason built code)
    ⊎ ((r : GitReading) × GitReads text r × PutsPlace r built old new code)

-- ---- credentials

-- the numbers of a request
abbrev pub request_numbers : CredentialReading → RequestNumbers
request_numbers r = record {
  is_read = true;
  has_user = is_there r.user;
  has_password = is_there r.password;
  has_path = is_there r.path;
  protocol = length r.protocol;
  user = length (or_nothing r.user);
  password = length (or_nothing r.password);
  host = length r.host;
  path = length (or_nothing r.path);
}

-- the parts of a request
abbrev pub request_texts : CredentialReading → List (List ℕ)
request_texts r = r.protocol ∷ or_nothing r.user ∷ or_nothing r.password ∷ r.host ∷ or_nothing r.path ∷ []

-- a request is copied
abbrev pub PutsRequest : CredentialReading → RequestNumbers → List ℕ → List ℕ → ℕ → Type 0
PutsRequest r built old new code = (built ≡ request_numbers r) × Puts (concat (request_texts r)) old new code

-- the numbers of a text in which Git's credential code reads nothing
abbrev pub no_request : RequestNumbers
no_request = record {
  is_read = false;
  has_user = false;
  has_password = false;
  has_path = false;
  protocol = 0;
  user = 0;
  password = 0;
  host = 0;
  path = 0;
}

-- Git's credential code reads nothing in the text
abbrev pub LacksRequest : List ℕ → Type 0
LacksRequest text = (r : CredentialReading) → ¬ CredentialReads text r

-- the request that Git's credential code reads in the text is reported, or that it reads none
abbrev pub ReportsRequest : List ℕ → RequestNumbers → List ℕ → List ℕ → ℕ → Type 0
ReportsRequest text built old new code =
    (LacksRequest text × (built ≡ no_request) × (new ≡ old) × (code ≡ ok))
    ⊎ ((r : CredentialReading) × CredentialReads text r × PutsRequest r built old new code)
