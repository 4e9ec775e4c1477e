-- Definitions for the proofs of `transport.rt`: the places that transports reach, and the reasons for which
-- they reach none.
use Rattle.std.specs.Prelude.{◌≡◌, ℕ, ◌<◌, true, false, ◌⊎◌, List, ◌++◌, length, codes}
use Rattle.git_syntax.specs.Location.{Scheme}
use Rattle.git_syntax.specs.Location.Scheme.{file, git, ssh}
use Rattle.git_syntax.specs.Bytes.{tilde, begins_with, is_helper_name, is_option_like}
use Rattle.git_syntax.specs.Grammar.{HasHelperForm}
use Rattle.git_reads.specs.declared.transport.Unread.{Unread}
use Rattle.git_reads.specs.declared.transport.Unread.TheVariants as why
use Rattle.git_reads.specs.Git.{GitReading, ReachesSecure, ReachesGit, ReadsInput, from_tilde, on_this_machine}
use Rattle.git_reads.specs.Unread.{GetsUrl, HasHostBrackets, UnreadsGiven}

-- the text begins with the mark
abbrev pub BeginsBy : List ℕ → List ℕ → Type 0
BeginsBy mark t = (rest : List ℕ) × (t ≡ mark ++ rest)

-- the text has the form of a remote helper, also with an empty name
abbrev pub NamesHelper : List ℕ → Type 0
NamesHelper t = HasHelperForm t ⊎ BeginsBy (codes "::") t

-- the text of a URL, from the texts before and after its mark
abbrev pub url_text : List ℕ → List ℕ → List ℕ
url_text scheme spelled = scheme ++ (codes "://" ++ spelled)

-- no reading is reached
abbrev pub LacksAny : (GitReading → Type 0) → Type 0
LacksAny reaches = (r : GitReading) → ¬ reaches r

-- the reason for which no reading of a place is reached: memory is refused for a host in brackets, Secure Shell
-- receives a URL, or the place is refused
abbrev pub FailsToReach : List ℕ → (GitReading → Type 0) → Type 0 → Unread → Type 0
FailsToReach place reaches gets why.Memory = HasHostBrackets place
FailsToReach place reaches gets why.SecureShellUrl = gets
FailsToReach place reaches gets why.Refused = LacksAny reaches × ¬ gets
FailsToReach place reaches gets _ = ⊥

-- the transport reaches the reading
abbrev pub ReachesBy : Scheme → List ℕ → List ℕ → GitReading → Type 0
ReachesBy ssh place path reading = ReachesSecure place (from_tilde path) reading
ReachesBy git place path reading = ReachesGit place (from_tilde path) reading
ReachesBy file place path reading = reading ≡ on_this_machine path
ReachesBy _ place path reading = ⊥

-- the transport is Secure Shell, and it receives a URL
abbrev pub GetsUrlBy : Scheme → List ℕ → List ℕ → Type 0
GetsUrlBy ssh place path = GetsUrl place (from_tilde path)
GetsUrlBy _ place path = ⊥

-- the scheme of a URL names a remote helper: `rsync` belonged to a transport that was removed
abbrev pub IsHelperScheme : List ℕ → Type 0
IsHelperScheme scheme = (is_helper_name scheme ≡ true) × ¬ (scheme ≡ codes "rsync")

-- the reason for which a URL has no reading if its scheme is not one of Git's own transports
abbrev pub IsForeignFor : List ℕ → Unread → Type 0
IsForeignFor scheme why.RemoteHelper = IsHelperScheme scheme
IsForeignFor scheme why.Refused = ¬ IsHelperScheme scheme
IsForeignFor scheme _ = ⊥

-- the path is one that Git reads as a local path
pub record IsReadPath (path : List ℕ) : Type 0 where
  pub some : 0 < length path
  pub safe : is_option_like path ≡ false
  pub no_home : begins_with tilde path ≡ false

-- the reason for which the path isn't read
abbrev pub IsUnreadPath : List ℕ → Unread → Type 0
IsUnreadPath path why.HomeOrHere = begins_with tilde path ≡ true
IsUnreadPath path why.Refused = (¬ IsReadPath path) × (begins_with tilde path ≡ false)
IsUnreadPath path _ = ⊥

-- the reason for which a text has no reading that Git receives whole and doesn't read as an option
abbrev pub Fails : List ℕ → Unread → Type 0
Fails t why.Refused = LacksAny (ReadsInput t) × UnreadsGiven t why.Refused
Fails t other = UnreadsGiven t other
