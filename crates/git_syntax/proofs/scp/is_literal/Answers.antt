-- An address holds no `%`, so the first `%` begins a zone.
use Rattle.std.proofs.Common.{refl, sym, subst}
use Rattle.std.proofs.lemmas.Bool.{false≢true}
use Rattle.git_syntax.specs.Escapes.{escaped_percents}
use Rattle.git_syntax.specs.Hosts.{IsLiteral}
use Rattle.git_syntax.proofs.Texts.EscapeLemmas.{escaped_percents_kept}
use Rattle.git_syntax.proofs.Parsing.HostLemmas.{literal_address, literal_alone, literal_zoned}
use Rattle.git_syntax.proofs.Parsing.ScpLemmas.{zone_cut, zone_parts}
use Rattle.git_syntax.proofs.scp.is_literal.Goals as goal

pub returns-then-is_address : goal.returns-then-is_address
returns-then-is_address c =
    let cut = zone_cut c.args.text.now c.in-Some.address.now c.in-Some.zone.now c.in-Some.ensures.0 c.in-Some.ensures.1 in (
      λ t. literal_zoned (escaped_percents c.args.text.now) c.in-Some.address.now _ cut (c.if-is_address.ensures.0 refl) (_, c.is_zone.ensures.0 t, refl),
      λ h. c.is_zone.ensures.1 (zone_parts c.args.text.now c.in-Some.address.now c.in-Some.zone.now c.in-Some.ensures.0 c.in-Some.ensures.1 h).1,
    )

pub returns-else-is_address : goal.returns-else-is_address
returns-else-is_address c = (
  λ t. absurd (false≢true (c.if-is_address.ensures.1 (c.is_address.ensures.0 t))),
  λ h. c.is_address.ensures.1 (zone_parts c.args.text.now c.in-Some.address.now c.in-Some.zone.now c.in-Some.ensures.0 c.in-Some.ensures.1 h).0,
)

pub returns-in-None : goal.returns-in-None
returns-in-None c =
    let kept = escaped_percents_kept c.args.text.now c.in-None.ensures in (
      λ t. subst IsLiteral (sym kept) (literal_alone c.args.text.now (c.is_address-in-None.ensures.0 t)),
      λ h. c.is_address-in-None.ensures.1 (literal_address c.args.text.now c.in-None.ensures (subst IsLiteral kept h)),
    )
