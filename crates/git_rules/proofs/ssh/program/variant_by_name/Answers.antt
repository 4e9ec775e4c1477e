use Rattle.std.proofs.Common.{◌∙◌, ap, sym}
use Rattle.git_rules.specs.CommandLines.{base_name}
use Rattle.git_rules.specs.SshPrograms.{variant_by_name, variant_named}
use Rattle.git_rules.proofs.Programs.NameLemmas.{named_front}
use Rattle.git_rules.proofs.ssh.program.variant_by_name.Goals as goal

pub returns-then-not-is_line : goal.returns-then-not-is_line
returns-then-not-is_line c =
    c.variant_named.ensures ∙ ap variant_named (c.as_bytes.ensures c.args.text.now c.name_of_path-name.ensures) ∙ named_front (base_name c.args.text.now) ∙ ap (λ b. variant_by_name b c.args.text.now) (sym c.if-not-is_line.true)
