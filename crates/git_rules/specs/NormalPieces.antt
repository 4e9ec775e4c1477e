-- The intermediate results of the functions that compute a normal form.
use Rattle.std.specs.Prelude.{◌≡◌, ℕ, ◌+◌, ◌≤◌, ◌⊎◌, ◌∷◌, take, Bool, true, List, [], ◌++◌, length, Option, Some, None, IfSome, option_map}
use Rattle.std.specs.Option.{option_map_or}
use Rattle.git_syntax.specs.Bytes.{slash, Lacks, FreeOf, begins_by, lowercase}
use Rattle.git_syntax.specs.Escapes.{is_sound}
use Rattle.git_rules.specs.Normal.{NormalPlace, NormalPath, stacked_path, normal_byte, normal_text, HostPort, NormalAuthority}

-- the first byte of a text with well-formed escapes, whether it was escaped, and the text after it
pub record SplitsNormal (text : List ℕ) (byte : ℕ) (escaped : Bool) (rest : List ℕ) : Type 0 where
  pub joined : normal_text text ≡ normal_byte escaped byte ++ normal_text rest
  pub sound : is_sound rest ≡ true
  pub shorter : length rest + 1 ≤ length text

-- the user, if there is one, has well-formed escapes
abbrev pub HasSoundUser : Option (List ℕ) → Type 0
HasSoundUser user = IfSome user (λ u. is_sound u ≡ true)

-- the length of a user, or 0 if there is none
abbrev pub user_length : Option (List ℕ) → ℕ
user_length user = option_map_or length user 0

-- a host and its port have the normal form of this slice, which is no longer than the text
pub record ReadsHost (globs : Bool) (scheme text host : List ℕ) (port : Option ℕ) : Type 0 where
  pub form : HostPort globs scheme text (lowercase host) port
  pub fits : length host ≤ length text

-- an authority has the normal form of these slices of it, which together are no longer than the text
pub record ReadsAuthority (globs : Bool) (scheme text : List ℕ) (user : Option (List ℕ)) (host : List ℕ)
    (port : Option ℕ) : Type 0 where
  pub form : NormalAuthority globs scheme text (option_map normal_text user) (lowercase host) port
  pub sound : HasSoundUser user
  pub fits : user_length user + length host ≤ length text

-- a text is split before the first byte that passes the test, or at its end
pub record CutsBefore (test : ℕ → Bool) (text front back : List ℕ) : Type 0 where
  pub joined : text ≡ front ++ back
  pub lacks : Lacks test front
  pub begins : (back ≡ []) ⊎ (begins_by test back ≡ true)

-- no segment of a stack contains a `/`
abbrev pub IsFlat : List (List ℕ) → Type 0
IsFlat [] = Unit {0}
IsFlat (top ∷ below) = FreeOf slash top × IsFlat below

-- the text is the path of this stack, whose segments contain no `/`
abbrev pub ShowsStack : List ℕ → List (List ℕ) → Type 0
ShowsStack text stack = (text ≡ stacked_path stack) × IsFlat stack

-- the text is the path of the resulting stack, or there is neither
abbrev pub ShowsOutcome : Option (List (List ℕ)) → Option (List ℕ) → Type 0
ShowsOutcome outcome None = outcome ≡ None
ShowsOutcome outcome (Some text) = (stack : List (List ℕ)) × (outcome ≡ Some stack) × ShowsStack text stack

-- the front of a buffer, up to an index, is the path of the resulting stack, or there is no stack
abbrev pub ShowsFront : Option (List (List ℕ)) → List ℕ → Option ℕ → Type 0
ShowsFront outcome buffer at = ShowsOutcome outcome (option_map (λ n. take n buffer) at)

-- the value has the normal form of these slices: a scheme in lower case, a user, a host, a port, and the text after
-- them
pub record HoldsParts (scheme : List ℕ) (user : Option (List ℕ)) (host : List ℕ) (port : Option ℕ) (suffix : List ℕ)
    (n : NormalPlace) : Type 0 where
  pub scheme_is : n.scheme ≡ scheme
  pub user_is : n.user ≡ option_map normal_text user
  pub host_is : n.host ≡ lowercase host
  pub port_is : n.port ≡ port
  pub path_is : NormalPath suffix n.path
