-- The empty text denotes itself.
use Rattle.std.proofs.Common.{sym}
use Rattle.gix_url.proofs.ComponentCuts.MeaningLemmas.{denoted-nil}
use Rattle.gix_url.proofs.components.cuts.EscapedText.nothing.Goals as goal

pub invariant_of-result : goal.invariant_of-result
invariant_of-result c = record { meaning = sym (denoted-nil c.args.self.escaped) }
