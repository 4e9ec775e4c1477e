-- The program that Git runs for Secure Shell, for C.
use Rattle.std.specs.Prelude.{◌≡◌, ◌⊎◌, ℕ, List, length, Ok, Err}
use Rattle.git_rules.specs.Config.{ConfigEntry}
use Rattle.git_rules.specs.SshPrograms.{Program, Settings, program_of}
use Rattle.git_rules.specs.declared.ssh.SshVariant.TheVariants as variant
use Rattle.git_rules.specs.declared.ssh.program.ProgramVariant.{ProgramVariant}
use Rattle.git_rules.specs.declared.ssh.program.ProgramVariant.TheVariants.{Known, Asked}
use Rattle.git_rules.specs.declared.ssh.program.SshProgramError.TheVariants.{NoValue}
use Rattle.c_values.specs.declared.rules.programs.GivenVariables.{GivenVariables}
use Rattle.c_values.specs.declared.rules.programs.ProgramNumbers.{ProgramNumbers}
use Rattle.c_values.specs.declared.rules.stops.Stop.{Stop}
use Rattle.c_values.specs.Input.{present}
use Rattle.c_values.specs.Output.{Puts}
use Rattle.c_values.specs.Stops.{StopsAt, no_stop, no_value}

-- the entries and the variables
abbrev pub settings_passed : List ConfigEntry → GivenVariables → Settings
settings_passed config passed = record {
  entries = config;
  git_ssh_command = present passed.has_command passed.command.now;
  git_ssh = present passed.has_path passed.path.now;
  git_ssh_variant = present passed.has_variant passed.variant.now;
}

-- the number of a variant, and one more if Git asks the program
abbrev pub variant_number : ProgramVariant → ℕ
variant_number (Known variant.Ssh) = 0
variant_number (Known variant.Simple) = 1
variant_number (Known variant.Plink) = 2
variant_number (Known variant.Putty) = 3
variant_number (Known variant.TortoisePlink) = 4
variant_number Asked = 5

-- the numbers of a program
abbrev pub program_numbers : Program → ProgramNumbers
program_numbers p =
    record { is_command_line = p.is_command_line; variant = variant_number p.variant; len = length p.text }

-- a program is copied
abbrev pub PutsProgram : Program → ProgramNumbers → List ℕ → List ℕ → ℕ → Type 0
PutsProgram p built old new code = (built ≡ program_numbers p) × Puts p.text old new code

-- the program by the settings is reported, or the entry at which Git stops
abbrev pub ReportsProgram : Settings → ProgramNumbers → List ℕ → List ℕ → Stop → ℕ → Type 0
ReportsProgram settings built old new stop code =
    ((at : ℕ) × (program_of settings ≡ Err (NoValue at)) × StopsAt no_value at stop code)
    ⊎ ((p : Program) × (program_of settings ≡ Ok p) × (stop ≡ no_stop) × PutsProgram p built old new code)
