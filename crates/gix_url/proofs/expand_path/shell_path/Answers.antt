-- The name and the path below, written one after the other.
use Rattle.std.proofs.Common.{ap, ◌∙◌, ◌∷◌, ◌++◌}
use Rattle.git_syntax.specs.Bytes.{tilde}
use Rattle.gix_url.proofs.Homes.HomeLemmas.{shell_at}
use Rattle.gix_url.proofs.expand_path.shell_path.Goals as goal

pub returns-clause-written : goal.returns-clause-written
returns-clause-written c =
    let name = c.in-Some.name.now in
    let front = c.in_ok-extend_from_slice.ensures.items ∙ ap (λ t. t ++ name) c.in_ok-text.ensures.items in
    shell_at c.args.path.now name c.in-Some.below.now _ _ c.in-Some.ensures.0 c.in-Some.ensures.1 c.in_ok-rest.ensures
    (c.new.ensures ∙ c.in_ok-extend_from_slice-2.ensures.items ∙ ap (λ t. t ++ c.as_bytes.result.now) front ∙ ap (λ t. tilde ∷ (name ++ t)) c.as_bytes.ensures)
