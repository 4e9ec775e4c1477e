-- The program that Git runs for Secure Shell, and its variant as Git determines it.
use Rattle.std.specs.Prelude.{ℕ, Bool, true, false, ◌&&◌, ◌||◌, bytes_eq, codes, List, filter, Option, Some, None, Result, Ok, Err, is_none, is_some, unwrap_or, if◌then◌else◌}
use Rattle.std.specs.List.{last_or}
use Rattle.git_rules.specs.declared.ssh.SshVariant.{SshVariant}
use Rattle.git_rules.specs.declared.ssh.SshVariant.TheVariants as variant
use Rattle.git_rules.specs.declared.ssh.program.ProgramVariant.{ProgramVariant}
use Rattle.git_rules.specs.declared.ssh.program.ProgramVariant.TheVariants.{Known, Asked}
use Rattle.git_rules.specs.declared.ssh.program.SshProgramError.{SshProgramError}
use Rattle.git_rules.specs.declared.ssh.program.SshProgramError.TheVariants.{NoValue}
use Rattle.git_rules.specs.Words.{is_word}
use Rattle.git_rules.specs.Config.{ConfigEntry, sets}
use Rattle.git_rules.specs.CommandLines.{first_word, base_name}

-- the entries of the configuration, and the values of `GIT_SSH_COMMAND`, `GIT_SSH` and `GIT_SSH_VARIANT`, if they
-- are set
pub record Settings : Type 0 where
  pub entries : List ConfigEntry
  pub git_ssh_command : Option (List ℕ)
  pub git_ssh : Option (List ℕ)
  pub git_ssh_variant : Option (List ℕ)

-- the program, whether it is a command line, and its variant
pub record Program : Type 0 where
  pub text : List ℕ
  pub is_command_line : Bool
  pub variant : ProgramVariant

-- ---- values

-- the key of the entry is `section.name`, without a subsection
abbrev pub is_setting : List ℕ → List ℕ → ConfigEntry → Bool
is_setting section name e = sets section name e && is_none e.subsection

-- the last entry of a key, if there is one
abbrev pub last_setting : List ℕ → List ℕ → List ConfigEntry → Option ConfigEntry
last_setting section name entries = last_or None (filter (is_setting section name) entries)

-- the value of an entry; Git stops if it has none
abbrev pub value_at : ℕ → Option (List ℕ) → Result (Option (List ℕ)) SshProgramError
value_at at None = Err (NoValue at)
value_at at (Some value) = Ok (Some value)

-- the value of an optional entry
abbrev pub value_of : Option ConfigEntry → Result (Option (List ℕ)) SshProgramError
value_of None = Ok None
value_of (Some e) = value_at e.at e.value

-- the value of a variable of the environment, or if it isn't set that of the last entry of the key
abbrev pub value_by : Option (List ℕ) → List ℕ → List ℕ → List ConfigEntry
    → Result (Option (List ℕ)) SshProgramError
value_by (Some value) section name entries = Ok (Some value)
value_by None section name entries = value_of (last_setting section name entries)

-- the configured command line
abbrev pub command_line : Settings → Result (Option (List ℕ)) SshProgramError
command_line s = value_by s.git_ssh_command (codes "core") (codes "sshcommand") s.entries

-- the configured name of a variant
abbrev pub variant_name : Settings → Result (Option (List ℕ)) SshProgramError
variant_name s = value_by s.git_ssh_variant (codes "ssh") (codes "variant") s.entries

-- ---- variants

-- the variant of this name, which is case-sensitive; any other name denotes OpenSSH, and `auto` no variant
abbrev pub variant_of : List ℕ → Option SshVariant
variant_of name = if bytes_eq name (codes "auto") then None
    else (if bytes_eq name (codes "plink") then Some variant.Plink
    else (if bytes_eq name (codes "putty") then Some variant.Putty
    else (if bytes_eq name (codes "tortoiseplink") then Some variant.TortoisePlink
    else (if bytes_eq name (codes "simple") then Some variant.Simple else Some variant.Ssh))))

-- the text is the name of a program, or the name and `.exe`, ignoring letter case
abbrev pub is_program : List ℕ → List ℕ → List ℕ → Bool
is_program text name with_ending = is_word text name || is_word text with_ending

-- the variant of a program of this name; Git runs any other program to detect its variant
abbrev pub variant_named : List ℕ → ProgramVariant
variant_named name = if is_program name (codes "ssh") (codes "ssh.exe") then Known variant.Ssh
    else (if is_program name (codes "plink") (codes "plink.exe") then Known variant.Plink
    else (if is_program name (codes "tortoiseplink") (codes "tortoiseplink.exe")
    then Known variant.TortoisePlink else Asked))

-- the variant of the first program of a command line, if Git can split the line
abbrev pub variant_begun : Option (List ℕ) → ProgramVariant
variant_begun None = Asked
variant_begun (Some word) = variant_named (base_name word)

-- the variant of a program, by its last name
abbrev pub variant_by_name : Bool → List ℕ → ProgramVariant
variant_by_name true line = variant_begun (first_word line)
variant_by_name false path = variant_named (base_name path)

-- the configured variant, or else the one by the name of the program
abbrev pub variant_or : Option SshVariant → Bool → List ℕ → ProgramVariant
variant_or (Some variant) is_line text = Known variant
variant_or None is_line text = variant_by_name is_line text

-- the variant of a program, by the configured name of a variant or else by the program's name
abbrev pub variant_by : Option (List ℕ) → Bool → List ℕ → ProgramVariant
variant_by None is_line text = variant_by_name is_line text
variant_by (Some name) is_line text = variant_or (variant_of name) is_line text

-- ---- the program

-- the program: the command line, or else `GIT_SSH`, or else `ssh`
abbrev pub program_run : Option (List ℕ) → Option (List ℕ) → List ℕ
program_run line git_ssh = unwrap_or line (unwrap_or git_ssh (codes "ssh"))

-- the program with this text and this configured name of a variant
abbrev pub program_with : Bool → List ℕ → Option (List ℕ) → Program
program_with is_line run name =
    record { text = run; is_command_line = is_line; variant = variant_by name is_line run }

-- the program with this configured command line and this configured name of a variant
abbrev pub program_by : Option (List ℕ) → Option (List ℕ) → Result (Option (List ℕ)) SshProgramError
    → Result Program SshProgramError
program_by git_ssh line (Err e) = Err e
program_by git_ssh line (Ok name) = Ok (program_with (is_some line) (program_run line git_ssh) name)

-- the program for the settings; an error in the command line precedes one in the variant
abbrev pub program_for : Settings → Result (Option (List ℕ)) SshProgramError → Result Program SshProgramError
program_for s (Err e) = Err e
program_for s (Ok line) = program_by s.git_ssh line (variant_name s)

-- the program that Git runs for Secure Shell, or the entry at which it stops
abbrev pub program_of : Settings → Result Program SshProgramError
program_of s = program_for s (command_line s)
