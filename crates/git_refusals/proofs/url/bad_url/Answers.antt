-- If no check before it finds anything, the text after the scheme decides.
use Rattle.std.proofs.Common.{◌≡◌, true, Some, subst}
use Rattle.git_syntax.specs.Bytes.{LacksWhiteSpace, is_scheme_text}
use Rattle.git_refusals.specs.Internal.Readable.{Checks, IsScheme}
use Rattle.git_refusals.specs.Reasons.{BadScheme}
use Rattle.git_refusals.proofs.Refusing.UrlLemmas.{PassesFront, rest_decides, scheme_found, url_pieces_utf8}
use Rattle.git_refusals.proofs.url.bad_url.Goals as goal

pub as_text-requires-2 : goal.as_text-requires-2
as_text-requires-2 c = (url_pieces_utf8 c.args.text.now c.args.scheme.now c.args.rest.now c.requires.form.joined c.in_default-not_text.ensures.found).0

pub returns-in-Some-bad_scheme : goal.returns-in-Some-bad_scheme
returns-in-Some-bad_scheme c =
    let white : LacksWhiteSpace c.args.text.now = subst LacksWhiteSpace c.as_text.ensures c.in_default-white_space.ensures.found in
    scheme_found c.args.text.now c.args.scheme.now c.args.rest.now c.in-Some-bad_scheme.place c.requires c.in_default.ensures.found c.in_default-not_text.ensures.found white c.in_default-unsound.ensures.found
    (subst (λ s. Checks s (BadScheme s) (IsScheme s) (Some c.in-Some-bad_scheme.place)) c.as_text-2.ensures c.in-Some-bad_scheme.ensures)

pub returns : goal.returns
returns c =
    let white : LacksWhiteSpace c.args.text.now = subst LacksWhiteSpace c.as_text.ensures c.in_default-white_space.ensures.found in
    let front : PassesFront c.args.text.now c.args.scheme.now c.args.rest.now = record {
      form = c.requires;
      fits = c.in_default.ensures.found;
      text = c.in_default-not_text.ensures.found;
      white = white;
      sound = c.in_default-unsound.ensures.found;
      named = subst (λ s. is_scheme_text s ≡ true) c.as_text-2.ensures c.in_default-bad_scheme.ensures.found;
    } in
    rest_decides c.args.text.now c.args.scheme.now c.args.rest.now c.bad_rest.result front c.bad_rest.ensures
