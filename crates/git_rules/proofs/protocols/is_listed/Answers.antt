-- The list is its first name and the rest, or the last name alone.
use Rattle.std.proofs.Common.{◌≡◌, ◌∙◌, true, false, ap, sym}
use Rattle.std.specs.Prelude.{◌||◌, bytes_eq}
use Rattle.git_rules.specs.Protocols.{is_listed}
use Rattle.git_rules.proofs.Allowed.ListedLemmas.{listed-cut, listed-last}
use Rattle.git_rules.proofs.protocols.is_listed.Goals as goal

pub returns-then-eq : goal.returns-then-eq
returns-then-eq c =
    let piece = c.in-Some.piece.now in
    let suffix = c.in-Some.suffix.now in
    let name = c.args.name.now in
    let same : bytes_eq piece name ≡ true = sym c.eq.ensures ∙ c.if-eq.true in
    sym (c.loop-piece.invariant ∙ ap (λ rest. is_listed rest name) c.in-Some.ensures.1 ∙ listed-cut piece suffix name c.in-Some.ensures.0 ∙ ap (λ b. b || is_listed suffix name) same)

pub loop-piece-preserved : goal.loop-piece-preserved
loop-piece-preserved c =
    let piece = c.in-Some.piece.now in
    let suffix = c.in-Some.suffix.now in
    let name = c.args.name.now in
    let other : bytes_eq piece name ≡ false = sym c.eq.ensures ∙ c.if-eq.false in
    c.loop-piece.invariant ∙ ap (λ rest. is_listed rest name) c.in-Some.ensures.1 ∙ listed-cut piece suffix name c.in-Some.ensures.0 ∙ ap (λ b. b || is_listed suffix name) other

pub returns : goal.returns
returns c = c.eq-2.ensures ∙ sym (c.loop-piece.invariant ∙ listed-last c.loop-piece.rest.now c.args.name.now c.in_default.ensures)
