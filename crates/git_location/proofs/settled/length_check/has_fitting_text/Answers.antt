-- The pieces make up the text, and the scheme is that of the location.
use Rattle.std.proofs.Common.{◌∙◌, ap, subst, sym}
use Rattle.git_syntax.specs.Location.{Location}
use Rattle.git_location.specs.Internal.Pieces.{AreOwn, pieces_text}
use Rattle.git_syntax.specs.Schemes.{scheme_text}
use Rattle.git_location.proofs.SettledClass.SettledLemmas.{text_tested}
use Rattle.git_location.proofs.settled.length_check.has_fitting_text.Goals as goal

pub returns-in-Some : goal.returns-in-Some
returns-in-Some c = λ laid_own.
    let scheme = c.as_bytes.ensures.value ∙ c.as_str.ensures ∙ ap (λ (v : Location). scheme_text v.scheme) c.url.view_is in
    let own = subst (λ laid. AreOwn laid c.args.url.now) c.in-Some.is laid_own in
    text_tested c.args.url.now _ (pieces_text c.in-Some.pieces.now) _ scheme c.requires.no_colon c.requires.canonical (sym own) c.are_short.ensures
