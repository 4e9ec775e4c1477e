-- A local path, or a URL, by its first colon.
use Rattle.git_syntax.proofs.Parsing.ClassifierLemmas.{mark_at_colon, url_has_form}
use Rattle.git_syntax.proofs.simple.cut_simple.Goals as goal

pub url_pieces-requires-clause-form : goal.url_pieces-requires-clause-form
url_pieces-requires-clause-form c =
    let b = c.args.text.text.now in
    let front = c.in-Some.front.text.now in
    let rest = c.in-Some.rest.text.now in
    let suffix = c.in-Some-after_slashes.suffix.text.now in
    url_has_form b front suffix c.in-Some.ensures.cut.0
    (mark_at_colon b front rest suffix (record { joined = c.in-Some.ensures.cut.1; no_colon = c.in-Some.ensures.cut.0 }) c.in-Some-after_slashes.ensures.cut).1
