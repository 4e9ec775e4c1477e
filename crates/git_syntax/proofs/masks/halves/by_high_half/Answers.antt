-- Entries of a table, at places below 16.
use Rattle.git_syntax.proofs.ByMasks.LaneLemmas.{high_entries, high_ok}
use Rattle.git_syntax.proofs.masks.halves.by_high_half.Goals as goal

pub swizzle : goal.swizzle
swizzle c = high_ok c.args.bytes c.fits-bytes.0 c.fits-bytes.1

pub returns : goal.returns
returns c = high_entries c.args.table c.args.bytes c.fits-bytes.0 c.fits-bytes.1
