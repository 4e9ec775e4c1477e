-- The path is the text that is tested, or that and `.git`.
use Rattle.std.proofs.Common.{⊎_elim, subst, sym}
use Rattle.git_syntax.specs.Bytes.{FreeOf, dot}
use Rattle.git_readers.proofs.PartLemmas.{no_dots_free, no_dots_git}
use Rattle.git_readers.proofs.path.is_dotless.Goals as goal

pub returns : goal.returns
returns c found =
    let path = c.args.path.now in
    let free = c.is_free_of.ensures.0 found in
    ⊎_elim (λ e. no_dots_git path c.without_git.result.now e free) (λ e. no_dots_free path (subst (FreeOf dot) (sym e) free)) c.without_git.ensures
