-- The text before the place precedes the text that is cut after it.
use Rattle.std.proofs.Common.{◌≡◌, ◌∙◌, ◌+◌, ◌++◌, ◌∷◌, sym, ap, subst, take, drop, length, append_assoc, arith}
use Rattle.std.proofs.lemmas.List.{take-append-drop, take_at, length-append, length-take-le}
use Rattle.git_syntax.specs.Bytes.{FreeOf}
use Rattle.git_syntax.proofs.Texts.CutLemmas.{free-append}
use Rattle.gix_url.proofs.components.near.cut_far.Goals as goal

pub returns-in_err-front : goal.returns-in_err-front
returns-in_err-front c =
    let bytes = c.args.bytes.now in
    let suffix = subst (FreeOf c.args.c) c.split_at.ensures.back c.in_err-front.ensures in
    rw c.from_residual.ensures (subst (FreeOf c.args.c) (take-append-drop c.args.from bytes) (free-append c.args.c (take c.args.from bytes) (drop c.args.from bytes) c.requires.free suffix))

pub returns : goal.returns
returns c =
    let bytes = c.args.bytes.now in
    let near = take c.args.from bytes in
    let front = c.in_ok-front.front.now in
    let suffix = c.args.c ∷ c.in_ok-front.suffix.now in
    let whole : bytes ≡ (near ++ front) ++ suffix = sym (take-append-drop c.args.from bytes) ∙ ap (λ t. near ++ t) (sym c.split_at.ensures.back ∙ c.in_ok-front.ensures.1) ∙ sym (append_assoc near front suffix) in
    let at = c.args.from + length front in
    let size : length (near ++ front) ≡ at = omega (arith, length-append near front, length-take-le c.args.from bytes c.requires.within) in
    let is : c.split_at-2.result.0.now ≡ near ++ front = c.split_at-2.ensures.front ∙ ap (take at) whole ∙ take_at (near ++ front) suffix at size in
    rw is (free-append c.args.c near front c.requires.free c.in_ok-front.ensures.0, whole)
