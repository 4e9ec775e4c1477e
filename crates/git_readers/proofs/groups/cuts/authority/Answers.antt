-- An authority ends if a path starts.
use Rattle.git_readers.proofs.GroupLemmas.{before_path}
use Rattle.git_readers.proofs.groups.cuts.authority.Goals as goal

pub returns : goal.returns
returns c =
    let it = c.cut_before_path in
    before_path it.result.0.now it.result.1.now c.args.text.now it.ensures.joined it.ensures.front it.ensures.rest
