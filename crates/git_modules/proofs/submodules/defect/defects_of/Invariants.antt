use Rattle.std.proofs.Common.{◌≡◌, map, take}
use Rattle.git_modules.specs.SubmoduleDefects.{has_no_path, has_no_url, has_same_path}
use Rattle.git_modules.proofs.submodules.defect.defects_of.Given as goal

abbrev pub invariant-loop-submodule : goal.invariant-loop-submodule
invariant-loop-submodule l = record {
  no_path : map (λ it. it.no_path) l.found.items ≡ map has_no_path (take l.submodule-index l.submodules);
  no_url : map (λ it. it.no_url) l.found.items ≡ map has_no_url (take l.submodule-index l.submodules);
  same_path : map (λ it. it.same_path) l.found.items ≡ map (has_same_path l.submodules) (take l.submodule-index l.submodules);
}
