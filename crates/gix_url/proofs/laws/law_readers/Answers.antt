-- The laws are lemmas.
use Rattle.gix_url.proofs.Unique.ReaderLemmas.{readers_agree, same_with_buffer}
use Rattle.gix_url.proofs.laws.law_readers.Goals as goal

pub returns : goal.returns
returns c = record { agree = readers_agree; same = same_with_buffer }
