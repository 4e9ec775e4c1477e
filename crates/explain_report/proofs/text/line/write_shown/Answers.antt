use Rattle.std.proofs.Common.{◌≡◌, ◌++◌, string_bytes}
use Rattle.std.proofs.Output.{contents_after_writes}
use Rattle.explain_report.proofs.text.line.write_shown.Goals as goal

pub returns-in-Ok : goal.returns-in-Ok
returns-in-Ok c =
    let p = c.in-Ok.ensures in
    (p.text, contents_after_writes (λ s bs t. string_bytes t ≡ string_bytes s ++ bs) string_bytes (λ w bs v e. e) c.args.out.now p.text c.write_text.new.out p.wrote, p.printed)
