-- The address ends at the first closing bracket, which a colon follows.
use Rattle.std.proofs.lemmas.Bool.{false≢true}
use Rattle.git_syntax.proofs.Parsing.ClassifierLemmas.{addressed_no_path, addressed_other}
use Rattle.git_syntax.proofs.classify.cut_address.Goals as goal
use Rattle.git_syntax.proofs.classify.cut_address.Goals.{else-is_free_of-via-then-is_free_of+else-is_address, else-is_free_of-via-else-is_free_of}

pub returns-in-None-after : goal.returns-in-None-after
returns-in-None-after c =
    addressed_no_path _ c.args.user.now c.args.suffix.now c.in-Some.address.now c.in-Some.rest.now c.requires c.in-Some.ensures.0 c.in-Some.ensures.1 c.in-None-after.ensures

pub returns-else-is_free_of : goal.returns-else-is_free_of
returns-else-is_free_of c =
    addressed_other _ c.args.user.now c.args.suffix.now c.in-Some.address.now c.in-Some.rest.now c.requires c.in-Some.ensures.0 c.in-Some.ensures.1
    (λ free is. elim c.else-is_free_of.branch [
      | else-is_free_of-via-then-is_free_of+else-is_address w ↦ false≢true (w.if-is_address.ensures.1 is)
      | else-is_free_of-via-else-is_free_of w ↦ false≢true (w.if-is_free_of.ensures.1 free)
    ])
