-- Texts that Git's credential code reads as URLs with missing parts, and requests that have the parts.
use Rattle.std.specs.Prelude.{◌≡◌, ℕ, true, ◌⊎◌, List, [], ◌++◌, codes, Option, None, IfSome}
use Rattle.git_syntax.specs.Bytes.{FreeOf, Holds, Lacks, StartsPath, is_path_start, newline}
use Rattle.git_reads.specs.Credentials.{CredentialReading, ReadsPieces}

-- the protocol is the text before the first `://`; if there is no `://`, it is empty and the whole text is the rest
abbrev pub CutsProtocol : List ℕ → List ℕ → List ℕ → Type 0
CutsProtocol t protocol rest = ((¬ Holds (codes "://") t) × (protocol ≡ []) × (rest ≡ t))
    ⊎ ((¬ Holds (codes "://") protocol) × (t ≡ protocol ++ (codes "://" ++ rest)))

-- the text is split into its protocol, its authority and the text after that
pub record CutsPartly (t protocol authority suffix : List ℕ) : Type 0 where
  pub protocol_cut : CutsProtocol t protocol (authority ++ suffix)
  pub before_path : Lacks (is_path_start true) authority
  pub path_start : StartsPath true suffix

-- Git's reading of a text with missing parts: an empty protocol or host is missing
pub record ReadsPartly (t : List ℕ) (r : CredentialReading) : Type 0 where
  pub authority : List ℕ
  pub suffix : List ℕ
  pub whole : FreeOf 0 t
  pub cut : CutsPartly t r.protocol authority suffix
  pub pieces : ReadsPieces authority suffix r

-- no part contains a line feed; Git ignores a text with one
pub record LackNewlines (r : CredentialReading) : Type 0 where
  pub protocol : FreeOf newline r.protocol
  pub user : IfSome r.user (FreeOf newline)
  pub password : IfSome r.password (FreeOf newline)
  pub host : FreeOf newline r.host
  pub path : IfSome r.path (FreeOf newline)

-- the wanted text is empty or equal to the other
abbrev pub HasText : List ℕ → List ℕ → Type 0
HasText wanted own = (wanted ≡ []) ⊎ (own ≡ wanted)

-- the wanted part is missing or equal to the other
abbrev pub HasPart : Option (List ℕ) → Option (List ℕ) → Type 0
HasPart wanted own = (wanted ≡ None) ⊎ (own ≡ wanted)

-- the request, with this user, has each wanted part; the password is ignored
pub record HasParts (wanted own : CredentialReading) (own_user : Option (List ℕ)) : Type 0 where
  pub protocol : HasText wanted.protocol own.protocol
  pub host : HasText wanted.host own.host
  pub path : HasPart wanted.path own.path
  pub user : HasPart wanted.user own_user

-- the request, with this user, has the parts that Git reads in the text
abbrev pub FitsPartly : List ℕ → CredentialReading → Option (List ℕ) → Type 0
FitsPartly t own user = (wanted : CredentialReading) × ReadsPartly t wanted × LackNewlines wanted
    × HasParts wanted own user
