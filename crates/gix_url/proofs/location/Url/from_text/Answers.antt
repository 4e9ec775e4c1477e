-- The results are those of reading.
use Rattle.gix_url.proofs.Unique.ReaderLemmas.{reads_by}
use Rattle.gix_url.proofs.location.Url.from_text.Goals as goal

pub returns : goal.returns
returns c = reads_by c.as_bytes.result.now c.args.text.now c.read.result c.as_bytes.ensures.value c.read.ensures.found c.read.ensures.refused c.read.ensures.flaw c.read.ensures.empty
