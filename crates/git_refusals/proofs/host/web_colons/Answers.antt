-- Colons that mark no port, in HTTP.
use Rattle.std.proofs.Common.{refl, ap, arith, ◌∙◌, ◌≡◌, ◌++◌, ◌∷◌, [], length, length-append}
use Rattle.std.proofs.lemmas.Bool.{false≢true}
use Rattle.git_syntax.specs.Bytes.{colon}
use Rattle.git_syntax.specs.Hosts.{IsAddressPiece}
use Rattle.git_refusals.specs.Reasons.{WebColons}
use Rattle.git_refusals.proofs.Refusing.HostLemmas.{no_address, only_in_front, other_front}
use Rattle.git_refusals.proofs.host.web_colons.Goals as goal
use Rattle.git_refusals.proofs.host.web_colons.Goals.{in-Some+else-is_address-2, in_default}

pub returns-then-is_address-2 : goal.returns-then-is_address-2
returns-then-is_address-2 c = record {
  found = WebColons.bare_colon c.in-Some.address.now (λ h. false≢true (c.if-is_address.ensures.1 h)) (c.if-is_address-2.ensures.0 refl) c.in-Some.ensures (record { named = refl; start = refl; size = refl });
  within = omega (arith, ap length c.in-Some.ensures, length-append c.in-Some.address.now (colon ∷ []));
}

pub returns-in-None : goal.returns-in-None
returns-in-None c =
    let none : ¬ IsAddressPiece c.args.piece.now = no_address c.args.piece.now (λ h. false≢true (c.if-is_address.ensures.1 h))
    (elim c.match-before.branch [
      | in-Some+else-is_address-2 w ↦ other_front c.args.piece.now w.in-Some.address.now w.in-Some.ensures (λ h. false≢true (w.if-is_address-2.ensures.1 h))
      | in_default w ↦ (λ front e h. w.in_default.ensures front e)
    ]) in
    record {
      found = WebColons.no_host c.in_ok-front.suffix.now none c.in-None.ensures (only_in_front c.args.piece.now c.in_ok-front.front.now c.in_ok-front.suffix.now c.requires c.in_ok-front.ensures.0 c.in-None.ensures c.in_ok-front.ensures.1) (record { named = refl; start = refl; size = refl });
      within = omega arith;
    }

pub returns-in-Some-cut : goal.returns-in-Some-cut
returns-in-Some-cut c =
    let none : ¬ IsAddressPiece c.args.piece.now = no_address c.args.piece.now (λ h. false≢true (c.if-is_address.ensures.1 h))
    (elim c.match-before.branch [
      | in-Some+else-is_address-2 w ↦ other_front c.args.piece.now w.in-Some.address.now w.in-Some.ensures (λ h. false≢true (w.if-is_address-2.ensures.1 h))
      | in_default w ↦ (λ front e h. w.in_default.ensures front e)
    ]) in
    let x = c.in_ok-front.front.now in
    let y = c.in-Some-cut.between.now in
    let z = c.in-Some-cut.field-0-1.now in
    let whole : c.args.piece.now ≡ x ++ colon ∷ (y ++ colon ∷ z) = c.in_ok-front.ensures.1 ∙ ap (λ t. x ++ colon ∷ t) c.in-Some-cut.ensures.1 in
    record {
      found = WebColons.second_colon x y z none c.in_ok-front.ensures.0 c.in-Some-cut.ensures.0 whole (record { named = refl; start = refl; size = refl });
      within = omega (arith, ap length whole, length-append x (colon ∷ (y ++ colon ∷ z)), length-append y (colon ∷ z));
    }
