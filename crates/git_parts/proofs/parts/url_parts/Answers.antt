-- A URL is a file URL, one of the helper `ext`, or any other.
use Rattle.std.proofs.Common.{◌≡◌, true, bytes_eq, codes, sym, ap, ◌∙◌}
use Rattle.git_parts.specs.Parts.{HasParts}
use Rattle.git_parts.proofs.Cutting.PartLemmas.{ext_form}
use Rattle.git_parts.proofs.parts.url_parts.Goals as goal

pub returns-then-eq-2 : goal.returns-then-eq-2
returns-then-eq-2 c =
    let same : bytes_eq c.args.scheme.now (codes "ext") ≡ true = ap (bytes_eq c.args.scheme.now) (sym c.as_slice-2.ensures) ∙ sym c.eq-2.ensures ∙ c.if-eq-2.true in
    HasParts.ext_url c.args.rest.now (ext_form c.args.text.now c.args.scheme.now c.args.rest.now c.requires.form same) c.whole.ensures
