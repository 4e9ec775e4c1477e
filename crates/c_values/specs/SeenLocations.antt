-- The facts about a location that C gets without an allocation.
use Rattle.std.specs.Prelude.{◌≡◌, ℕ, Bool, true, false, Option, Some, None, IsTrue, MatchOption, ◌↔◌, [], ◌∷◌, bytes_eq, if◌then◌else◌}
use Rattle.std.specs.Option.{option_or}
use Rattle.gix_url.specs.Location.{Location}
use Rattle.gix_url.specs.Bytes.{slash}
use Rattle.gix_url.specs.Arguments.{Judgement, judgement_of, is_path_argument}
use Rattle.gix_url.specs.Arguments.Judgement.{absent, usable, dangerous}
use Rattle.gix_url.specs.Text.{original_path}
use Rattle.gix_url.specs.Schemes.{default_port_of}
use Rattle.c_values.specs.declared.looking.Seen.{Seen}
use Rattle.c_values.specs.Input.{present}
use Rattle.c_values.specs.Output.{or_nothing}

-- the number of a judgement
abbrev pub judgement_number : Judgement → ℕ
judgement_number absent = 0
judgement_number (usable text) = 1
judgement_number (dangerous text) = 2

-- 1 for true, 0 for false
abbrev pub truth : Bool → ℕ
truth false = 0
truth true = 1

-- a port as a number, and 65,536 if there is none
abbrev pub port_number : Option ℕ → ℕ
port_number None = 65536
port_number (Some port) = port

-- whether the original path is the retained spelling: false if none is retained
abbrev pub ReportsSpelling : Location → Bool → Type 0
ReportsSpelling v is_spelled = MatchOption v.spelling (is_spelled ≡ false)
    (λ spelling. is_spelled ≡ bytes_eq (original_path v) spelling)

-- the results for a location
pub record IsSeenLocation (v : Location) (seen : Seen) : Type 0 where
  -- whether its user and its host are safe as arguments
  pub user : seen.user ≡ judgement_number (judgement_of v.user)
  pub host : seen.host ≡ judgement_number (judgement_of v.host)
  -- whether its path is safe as an argument
  pub path : seen.path ≡ is_path_argument v.path
  -- whether its path is `/`
  pub root : IsTrue seen.is_root ↔ (v.path ≡ slash ∷ [])
  -- its original path is the retained spelling, or the path
  pub original : original_path v ≡ (if seen.is_spelled then or_nothing v.spelling else v.path)
  pub spelled : ReportsSpelling v seen.is_spelled
  -- its port, or that of its scheme
  pub port : present seen.has_port seen.port ≡ option_or v.port (default_port_of v.scheme)
  -- without a port its number is 0
  pub no_port : seen.has_port ≡ false → seen.port ≡ 0
