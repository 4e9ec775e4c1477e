-- The pieces around the place where a path may first start, or the whole if it may nowhere.
use Rattle.std.proofs.Common.{refl}
use Rattle.git_syntax.specs.Bytes.{is_path_start}
use Rattle.git_syntax.proofs.Texts.CutLemmas.{cut_at_place, cut_at_end}
use Rattle.git_syntax.proofs.bytes.cut_before_path.Goals as goal

pub returns-in-Some : goal.returns-in-Some
returns-in-Some c =
    let pieces = cut_at_place (is_path_start c.args.web) c.args.bytes.now c.in-Some.at c.in-Some.ensures in
    record {
      joined = rw (c.split_at.ensures.front, c.split_at.ensures.back) pieces.0;
      front = rw c.split_at.ensures.front pieces.1;
      rest = rw c.split_at.ensures.back pieces.2;
    }

pub returns-in-None : goal.returns-in-None
returns-in-None c =
    let pieces = cut_at_end (is_path_start c.args.web) c.args.bytes.now _ refl c.in-None.ensures in
    record {
      joined = rw (c.split_at-in-None.ensures.front, c.split_at-in-None.ensures.back) pieces.0;
      front = rw c.split_at-in-None.ensures.front pieces.1;
      rest = rw c.split_at-in-None.ensures.back pieces.2;
    }
