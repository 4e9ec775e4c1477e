-- The front is passed from `/` to `/`, up to a segment that counts.
use Rattle.std.proofs.Common.{inl, sym, ◌∙◌, rules}
use Rattle.gix_url.specs.Paths.{EndsInPiece}
use Rattle.gix_url.proofs.Homes.PathLemmas.{tail_more}
use Rattle.gix_url.proofs.expand_path.paths.up_to_last.Goals as goal

pub returns-then-counts : goal.returns-then-counts
returns-then-counts c =
    let (tail, idle, whole) = c.loop-before.invariant.suffix in
    record {
      tail = tail;
      idle = idle;
      whole = whole;
      last = inl (EndsInPiece.last_piece c.in-Some.before.now c.in-Some.segment.now (c.in-Some.ensures.0, sym c.counts.ensures ∙ c.if-counts.true) c.in-Some.ensures.1);
    }

pub loop-before-preserved : goal.loop-before-preserved
loop-before-preserved c = record {
  text = search rules;
  suffix = tail_more c.args.text.now c.loop-before.front.now c.in-Some.before.now c.in-Some.segment.now c.in-Some.ensures.1 (sym c.counts.ensures ∙ c.if-counts.false) c.loop-before.invariant.suffix;
}
