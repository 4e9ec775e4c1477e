-- The words of a command of Secure Shell, as a program that runs it needs them.
use Rattle.std.specs.Prelude.{◌≡◌, ℕ, false, List, [], ◌∷◌, ◌++◌, codes, Some}
use Rattle.gix_url.specs.Bytes.{is_option_like}
use Rattle.gix_url.specs.Git.{UserCut}
use Rattle.gix_url.specs.Location.{Location}
use Rattle.git_rules.specs.declared.ssh.SshVariant.TheVariants.{Ssh}
use Rattle.git_rules.specs.SecureShell.{port_words}
use Rattle.git_rules.specs.ShellWords.{shell_words}

-- with the words OpenSSH fetches from the location: options, in which only the digits of a port are the
-- location's; a destination that isn't an option, and in which OpenSSH finds the location's user and host;
-- and a command in which a POSIX shell reads the service and the location's path
pub record FetchesFrom (v : Location) (words : List (List ℕ)) : Type 0 where
  pub destination : List ℕ
  pub remote : List ℕ
  pub joined : words ≡ codes "-o" ∷ codes "SendEnv=GIT_PROTOCOL" ∷ port_words Ssh v.port
      ++ destination ∷ remote ∷ []
  pub no_option : is_option_like destination ≡ false
  pub host : List ℕ
  pub there : v.host ≡ Some host
  pub cut : UserCut destination v.user host
  pub read : shell_words remote ≡ Some (codes "git-upload-pack" ∷ v.path ∷ [])
