-- The lengths that are added up are those of the location's parts.
use Rattle.std.proofs.Common.{◌∙◌, ap, arith, length}
use Rattle.git_syntax.specs.Location.{Location}
use Rattle.git_syntax.specs.Schemes.{scheme_text}
use Rattle.git_syntax.specs.Internal.FoundPieces.{optional_length}
use Rattle.git_location.proofs.Writing.LongestLemmas.{text_longest}
use Rattle.git_location.proofs.settled.length_check.longest_len.Goals as goal

pub returns : goal.returns
returns c =
    let scheme = ap length (c.as_str.ensures ∙ ap (λ (v : Location). scheme_text v.scheme) c.url.view_is) in
    let spelling = ap (λ (v : Location). optional_length v.spelling) c.url.view_is in
    let user = c.part_len.ensures.exact ∙ ap (λ (v : Location). optional_length v.user) c.url.view_is in
    let password = c.part_len-2.ensures.exact ∙ ap (λ (v : Location). optional_length v.password) c.url.view_is in
    let host = c.part_len-3.ensures.exact ∙ ap (λ (v : Location). optional_length v.host) c.url.view_is in
    let path = ap (λ (v : Location). length v.path) c.url.view_is in
    let text = text_longest c.args.url.now c.longest_path_len.result c.law_borrowed_value.ensures.value.port (omega (arith, spelling, c.longest_path_len.ensures.spelled)) (omega (arith, path, c.longest_path_len.ensures.escaped)) in
    omega (arith, scheme, user, password, host, text)
