-- One byte more.
use Rattle.git_class.specs.WebClass.{is_uri_byte}
use Rattle.git_class.proofs.Classes.WebClassLemmas.{all_more}
use Rattle.git_class.proofs.web.are_uri_bytes.Goals as goal

pub loop-byte-preserved : goal.loop-byte-preserved
loop-byte-preserved c =
    all_more is_uri_byte c.args.text.now c.loop-byte.byte-index c.loop-byte.known c.is_uri_byte-known.result c.loop-byte-test.true c.is_uri_byte-known.ensures c.loop-byte.invariant
