-- The path starts soon after a short host.
use Rattle.std.proofs.Common.{◌≡◌, ◌∙◌, ◌≤◌, ℕ, List, Bor, ap, arith, length, option_map, Some, sym, subst}
use Rattle.git_syntax.specs.Location.{Location}
use Rattle.git_syntax.specs.Schemes.{scheme_text}
use Rattle.git_location.specs.Internal.SettledPieces.{IsShortHost}
use Rattle.git_location.proofs.SettledClass.FrontLemmas.{soon_fits}
use Rattle.git_location.proofs.settled.length_check.has_short_front.Goals as goal

pub returns-in-Some : goal.returns-in-Some
returns-in-Some c = λ short.
    let v = c.args.url.now in
    let rooted = c.is_rooted_without_user.ensures c.if-not-is_rooted_without_user.false in
    let scheme = c.as_str.ensures ∙ ap (λ (l : Location). scheme_text l.scheme) c.url.view_is in
    let few : length (scheme_text v.scheme) ≤ 1024 = subst (λ t. length t ≤ 1024) scheme c.if-as_str-gt-LIMIT.false in
    let host = sym (ap (λ (l : Location). l.host) c.url.view_is) ∙ ap (option_map (λ (t : Bor (List ℕ)). t.now)) c.in-Some.is in
    soon_fits v c.in-Some.host.now c.requires.no_colon c.requires.canonical c.law_borrowed_value.ensures.value.port rooted few host (subst IsShortHost c.as_bytes.ensures.value (c.is_short_host.ensures short))
