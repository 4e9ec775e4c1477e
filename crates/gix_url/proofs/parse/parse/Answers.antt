-- The results are those of reading.
use Rattle.bstr.specs.BStr.{bstr_bytes}
use Rattle.gix_url.proofs.Unique.ReaderLemmas.{reads_by}
use Rattle.gix_url.proofs.parse.parse.Goals as goal

pub returns : goal.returns
returns c = reads_by c.as_bytes.result.now (bstr_bytes c.args.input) c.read.result c.as_bytes.ensures c.read.ensures.found c.read.ensures.refused c.read.ensures.flaw c.read.ensures.empty
