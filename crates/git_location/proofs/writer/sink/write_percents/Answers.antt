-- A front and one escape more, and then the rest.
use Rattle.std.proofs.Common.{◌++◌, ◌∷◌, [], refl, sym, subst, ◌∙◌, ap, rules}
use Rattle.git_syntax.proofs.Texts.EscapeLemmas.{escaped_percents_kept}
use Rattle.git_location.proofs.Writing.PieceLemmas.{percents_cut, written_on, on_ok}
use Rattle.git_location.proofs.writer.sink.write_percents.Goals as goal

pub loop-front-preserved : goal.loop-front-preserved
loop-front-preserved g c =
    let so_far = c.loop-front.invariant.1 in
    let cut = c.in-Some.ensures in
    let front = c.in-Some.front.now in
    let written = percents_cut c.loop-front.rest.now front c.in-Some.back.now cut.0 cut.1 in
    let joined = g.met.S.Sink.takes_joined in (
      search rules,
      (
        (so_far.0 ++ front) ++ 37 ∷ 50 ∷ 53 ∷ [],
        written_on _ _ _ (37 ∷ 50 ∷ 53 ∷ []) _ (written_on _ _ _ _ _ so_far.1 written) refl,
        joined _ _ _ _ _ (joined _ _ _ _ _ so_far.2 c.in_ok-put.ensures) c.in_ok-put-2.ensures,
      ),
    )

pub returns : goal.returns
returns g c =
    let so_far = c.loop-front.invariant.1 in
    let kept = escaped_percents_kept c.loop-front.rest.now c.in_default.ensures in
    on_ok c.put-2.result
    (λ took.
    subst (λ t. g.S.Sink.takes c.args.place.now t c.put-2.new.place) (sym (so_far.1 ∙ ap (λ x. so_far.0 ++ x) kept))
    (g.met.S.Sink.takes_joined _ _ _ _ _ so_far.2 took))
    c.put-2.ensures
