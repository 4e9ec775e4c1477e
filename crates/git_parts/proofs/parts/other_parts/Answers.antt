-- An authority and a path are after the mark of a URL.
use Rattle.std.proofs.Common.{refl}
use Rattle.git_syntax.proofs.Parsing.UrlLemmas.{rest_cut}
use Rattle.git_parts.specs.Parts.{HasParts}
use Rattle.git_parts.proofs.Cutting.PartLemmas.{spelled_cut}
use Rattle.git_parts.proofs.parts.other_parts.Goals as goal

pub authority_parts-parts-requires-clause-held : goal.authority_parts-parts-requires-clause-held
authority_parts-parts-requires-clause-held c =
    let cut = rest_cut c.rules_of.ensures.web c.cut_before_path.ensures.joined c.cut_before_path.ensures.front c.cut_before_path.ensures.rest in
    (spelled_cut c.args.text.now c.args.scheme.now c.args.rest.now _ _ c.requires.form c.requires.spelled cut).1

pub returns : goal.returns
returns c =
    let cut = rest_cut c.rules_of.ensures.web c.cut_before_path.ensures.joined c.cut_before_path.ensures.front c.cut_before_path.ensures.rest in
    let url = (spelled_cut c.args.text.now c.args.scheme.now c.args.rest.now _ _ c.requires.form c.requires.spelled cut).0 in
    HasParts.url c.args.scheme.now c.cut_before_path.result.0.now c.cut_before_path.result.1.now _ _ _ _ url c.requires.not_ext c.authority_parts-parts.ensures refl
