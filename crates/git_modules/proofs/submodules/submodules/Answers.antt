-- A name more adds its submodule.
use Rattle.std.proofs.Common.{[], option_map}
use Rattle.git_modules.specs.SubmoduleView.{used_value}
use Rattle.git_modules.proofs.Listed.UseLemmas.{listed_more}
use Rattle.git_modules.proofs.submodules.submodules.Goals as goal

pub loop-name-preserved : goal.loop-name-preserved
loop-name-preserved c =
    listed_more c.args.entries.now c.deref-name-items.result.now c.loop-name.name-index (record { ref_ptr = (0, 0); now = [] }) c.in_ok-paths.paths c.in_ok-urls.urls c.in_ok-updates.updates c.in_ok-branches.branches (option_map used_value c.use_of.result) (option_map used_value c.use_of-in-loop-name.result) (option_map used_value c.use_of-in-loop-name-2.result) (option_map used_value c.use_of-in-loop-name-3.result) c.loop-name.found.items c.push.new.self.items c.loop-name-test.true c.in_ok-paths.ensures c.in_ok-urls.ensures c.in_ok-updates.ensures c.in_ok-branches.ensures c.use_of.ensures c.use_of-in-loop-name.ensures c.use_of-in-loop-name-2.ensures c.use_of-in-loop-name-3.ensures c.loop-name.invariant c.in_ok-push.ensures.items
