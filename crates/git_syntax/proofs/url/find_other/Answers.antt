-- A URL fits, and a text that was classified may be known to be text.
use Rattle.std.proofs.Common.{sym}
use Rattle.std.proofs.lemmas.Bool.{false≢true}
use Rattle.git_syntax.proofs.Texts.LookLemmas.{known_utf8}
use Rattle.git_syntax.proofs.url.find_other.Goals as goal

pub returns-then-not-fits-clause-flaw : goal.returns-then-not-fits-clause-flaw
returns-then-not-fits-clause-flaw c =
    record { front = c.args.scheme.now; rest = c.args.rest.now; form = c.requires.form; unfit = λ fits. false≢true (c.if-not-fits.ensures.1 fits) }

pub as_text-requires : goal.as_text-requires
as_text-requires c = known_utf8 c.byte_class_of-byte_class.result c.args.input.now c.byte_class_of-byte_class.ensures (sym c.if-is_printable.ensures)
