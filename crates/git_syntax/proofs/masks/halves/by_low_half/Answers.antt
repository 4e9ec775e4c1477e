-- Entries of a table, at places below 16.
use Rattle.git_syntax.proofs.ByMasks.LaneLemmas.{low_entries, low_ok}
use Rattle.git_syntax.proofs.masks.halves.by_low_half.Goals as goal

pub swizzle : goal.swizzle
swizzle c = low_ok c.args.bytes c.fits-bytes.0

pub returns : goal.returns
returns c = low_entries c.args.table c.args.bytes c.fits-bytes.0
