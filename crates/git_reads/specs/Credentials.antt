-- The reading of a text by Git's credential code, before it asks helpers for a user and a password. This is a
-- model of Git, not proved of it: `tests/witnesses/test_web.py` compares the two.
use Rattle.std.specs.Prelude.{◌≡◌, ℕ, ◌<◌, Bool, true, false, ◌||◌, ◌==◌, List, [], ◌∷◌, ◌++◌, length, codes, Option, Some, None, IfSome, if◌then◌else◌}
use Rattle.std.specs.List.{list_all}
use Rattle.git_syntax.specs.Bytes.{newline, carriage_return, slash, colon, at_sign, Lacks, FreeOf, begins_with, Holds, is_path_start, StartsPath}
use Rattle.git_reads.specs.Git.{git_decode}

-- a request to helpers; the port is part of the host
pub record CredentialReading : Type 0 where
  pub protocol : List ℕ
  pub user : Option (List ℕ)
  pub password : Option (List ℕ)
  pub host : List ℕ
  pub path : Option (List ℕ)

-- a piece and its decoding: the text before the first colon is read as a scheme and is not decoded
pub data CredentialDecodes (piece decoded : List ℕ) : Type 0 where
  whole : FreeOf colon piece → decoded ≡ git_decode piece → CredentialDecodes piece decoded
  suffix : (front rest : List ℕ) → FreeOf colon front → piece ≡ front ++ colon ∷ rest
      → decoded ≡ front ++ colon ∷ git_decode rest → CredentialDecodes piece decoded

-- an authority is cut at its first `@`, and the text before that at its first colon
pub data CredentialCut (authority : List ℕ) (user password : Option (List ℕ))
    (named : List ℕ) : Type 0 where
  host_alone : FreeOf at_sign authority → named ≡ authority → user ≡ None → password ≡ None
      → CredentialCut authority user password named
  user_alone : (u name : List ℕ) → FreeOf at_sign u → FreeOf colon u
      → authority ≡ u ++ at_sign ∷ named → CredentialDecodes u name
      → user ≡ Some name → password ≡ None → CredentialCut authority user password named
  with_password : (u w name secret : List ℕ) → FreeOf at_sign u → FreeOf at_sign w → FreeOf colon u
      → authority ≡ u ++ colon ∷ (w ++ at_sign ∷ named)
      → CredentialDecodes u name → CredentialDecodes w secret
      → user ≡ Some name → password ≡ Some secret → CredentialCut authority user password named

-- each byte is a `/`
abbrev pub are_slashes : List ℕ → Bool
are_slashes bs = list_all (λ b. b == slash) bs

-- the text without the slashes at its end
abbrev pub without_last_slashes : List ℕ → List ℕ
without_last_slashes [] = []
without_last_slashes (b ∷ bs) = if are_slashes (b ∷ bs) then [] else b ∷ without_last_slashes bs

-- a path without the slashes at its end, but with its first byte; `None` if it is empty
abbrev pub trimmed_path : List ℕ → Option (List ℕ)
trimmed_path [] = None
trimmed_path (b ∷ bs) = Some (b ∷ without_last_slashes bs)

-- the path in the text after an authority: without the slashes at its front, decoded, then without those at its
-- end
pub record CredentialPath (suffix : List ℕ) (path : Option (List ℕ)) : Type 0 where
  pub slashes : List ℕ
  pub rest : List ℕ
  pub decoded : List ℕ
  pub joined : suffix ≡ slashes ++ rest
  pub front : are_slashes slashes ≡ true
  pub begins : begins_with slash rest ≡ false
  pub decodes : CredentialDecodes rest decoded
  pub value : path ≡ trimmed_path decoded

-- the decoded reading of an authority and the text after it, even if a field has several lines
pub record ReadsPieces (authority suffix : List ℕ) (r : CredentialReading) : Type 0 where
  pub named : List ℕ
  pub cut : CredentialCut authority r.user r.password named
  pub host : CredentialDecodes named r.host
  pub path : CredentialPath suffix r.path

-- a line feed or a carriage return
abbrev pub is_line_end : ℕ → Bool
is_line_end b = b == newline || b == carriage_return

-- a field of one line; Git refuses any other
abbrev pub IsOneLine : List ℕ → Type 0
IsOneLine part = Lacks is_line_end part

-- each field is of one line
pub record AreOneLine (r : CredentialReading) : Type 0 where
  pub protocol : IsOneLine r.protocol
  pub user : IfSome r.user IsOneLine
  pub password : IfSome r.password IsOneLine
  pub host : IsOneLine r.host
  pub path : IfSome r.path IsOneLine

-- a text is cut into its protocol, its authority and the text after that
pub record CutsText (t protocol authority suffix : List ℕ) : Type 0 where
  pub whole : FreeOf 0 t
  pub some : 0 < length protocol
  pub no_mark : ¬ Holds (codes "://") protocol
  pub joined : t ≡ protocol ++ (codes "://" ++ (authority ++ suffix))
  pub before_path : Lacks (is_path_start true) authority
  pub path_start : StartsPath true suffix

-- Git's credential code finds these parts in the text, even if one has several lines
pub record FindsParts (t : List ℕ) (r : CredentialReading) : Type 0 where
  pub authority : List ℕ
  pub suffix : List ℕ
  pub cut : CutsText t r.protocol authority suffix
  pub pieces : ReadsPieces authority suffix r

-- Git's credential code reads this request in the text
pub record CredentialReads (t : List ℕ) (r : CredentialReading) : Type 0 where
  pub found : FindsParts t r
  pub lines : AreOneLine r

-- a text has at most one reading by Git's credential code
abbrev pub OneCredentialReading : Type 0
OneCredentialReading = (t : List ℕ) (r other : CredentialReading)
    → CredentialReads t r → CredentialReads t other → r ≡ other
