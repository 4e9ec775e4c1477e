-- The pieces make up the text, and the scheme is that of the location.
use Rattle.std.proofs.Common.{◌∙◌, ap}
use Rattle.git_syntax.specs.Location.{Location}
use Rattle.git_location.specs.Internal.Pieces.{pieces_text}
use Rattle.git_syntax.specs.Schemes.{scheme_text}
use Rattle.git_location.proofs.SettledClass.SettledLemmas.{text_tested}
use Rattle.git_location.proofs.settled.length_check.is_own_short.Goals as goal

pub returns-in-Ok : goal.returns-in-Ok
returns-in-Ok c =
    let scheme = c.as_bytes.ensures.value ∙ c.as_str.ensures ∙ ap (λ (v : Location). scheme_text v.scheme) c.url.view_is in
    text_tested c.args.url.now _ (pieces_text c.in-Ok.pieces) _ scheme c.requires.no_colon c.requires.canonical c.in-Ok.ensures c.are_short.ensures
