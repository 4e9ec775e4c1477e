-- The path of a file URL begins at the first `/` after its mark.
use Rattle.std.proofs.Common.{◌+◌, length, Option, Some, ap, ◌∙◌}
use Rattle.git_parts.specs.declared.parts.Parts.{Parts}
use Rattle.git_parts.specs.declared.parts.Span.{Span}
use Rattle.git_parts.specs.Parts.{HasParts, path_span, span}
use Rattle.git_parts.specs.declared.parts.PartForm.TheVariants as form
use Rattle.git_parts.proofs.Cutting.PartLemmas.{file_cut}
use Rattle.git_parts.proofs.parts.file_parts.Goals as goal

pub returns : goal.returns
returns c =
    let host = c.cut_before_path.result.0.now in
    let path = c.cut_before_path.result.1.now in
    let (cut, free, begins) = file_cut c.args.text.now c.args.rest.now host path c.requires.form c.requires.spelled c.cut_before_path.ensures.joined c.cut_before_path.ensures.front c.cut_before_path.ensures.rest in
    HasParts.file_url host path cut free begins
    (ap {A = Parts} {B = Parts} (λ parts. record parts {
      scheme = Some (span 0 4);
      host = c.unless_empty.result;
      path = span (7 + length host) (length path);
    }) c.whole.ensures
    ∙ ap {A = Option Span} {B = Parts} (λ named. record (path_span form.Url c.args.text.now) {
      scheme = Some (span 0 4);
      host = named;
      path = span (7 + length host) (length path);
    }) c.unless_empty.ensures)
