use Rattle.std.proofs.Common.{◌≡◌, length}
use Rattle.git_modules.specs.ResolveParents.{chopped, form_of, whole_of}
use Rattle.git_modules.specs.ResolveSteps.{after_steps, ups}
use Rattle.git_modules.proofs.resolve.left.climb.Given as goal

-- the remaining steps leave the same rest as all of them
abbrev pub invariant-loop-next : goal.invariant-loop-next
invariant-loop-next l = record {
  form : l.form ≡ form_of l.parent;
  left : chopped l.form (ups l.rest) l.left ≡ chopped l.form (ups l.url) (whole_of l.parent);
  rest : after_steps l.rest ≡ after_steps l.url;
}

abbrev pub decreases-loop-next : goal.decreases-loop-next
decreases-loop-next l = length l.rest
