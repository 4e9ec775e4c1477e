use Rattle.std.proofs.Common.{◌≡◌, ℕ, true, List, ◌++◌, length}
use Rattle.std.specs.List.{concat, list_all, list_any}
use Rattle.git_modules.specs.SubmoduleUrls.{is_step, is_step_up}
use Rattle.git_modules.proofs.submodules.url.replaces_host.Given as goal

abbrev pub invariant-loop-is_up : goal.invariant-loop-is_up
invariant-loop-is_up l =
    (steps : List (List ℕ)) × (list_all is_step steps ≡ true) × (l.up ≡ list_any is_step_up steps) × (l.url ≡ concat steps ++ l.rest)

abbrev pub decreases-loop-is_up : goal.decreases-loop-is_up
decreases-loop-is_up l = length l.rest
