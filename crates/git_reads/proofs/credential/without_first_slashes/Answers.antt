-- One more slash precedes the rest.
use Rattle.std.proofs.Common.{◌∷◌, ◌++◌, [], ap, append_assoc, sym, ◌∙◌}
use Rattle.git_syntax.specs.Bytes.{slash}
use Rattle.git_reads.proofs.Reading.CredentialLemmas.{more_slashes}
use Rattle.git_reads.proofs.credential.without_first_slashes.Goals as goal

pub loop-suffix-preserved : goal.loop-suffix-preserved
loop-suffix-preserved c =
    let before = c.loop-suffix.invariant in
    (before.0 ++ slash ∷ [], before.1 ∙ ap (λ t. before.0 ++ t) c.in-Some.ensures ∙ sym (append_assoc before.0 (slash ∷ []) c.in-Some.suffix.now), more_slashes before.0 before.2)
