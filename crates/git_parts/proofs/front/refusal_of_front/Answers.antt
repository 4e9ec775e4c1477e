-- The first mark of the shown front cuts it into the scheme and the shown part of the rest.
use Rattle.std.proofs.Common.{Some, ap}
use Rattle.git_parts.proofs.Refusing.FrontLemmas.{front_marked, front_cut, long_scheme_named, long_rest_named}
use Rattle.git_parts.proofs.front.refusal_of_front.Goals as goal

pub returns-in_err-scheme : goal.returns-in_err-scheme
returns-in_err-scheme c b r h k e = absurd (c.in_err-scheme.ensures (front_marked c.args.shown.now b r h k e))

pub returns-then-scheme-gt1024 : goal.returns-then-scheme-gt1024
returns-then-scheme-gt1024 c b r h k e =
    let cut = c.in_ok-scheme in
    let named = front_cut c.args.shown.now b cut.scheme.now cut.rest.now r h k e cut.ensures.0 cut.ensures.1 in
    ap (λ x. Some x) (long_scheme_named cut.scheme.now cut.rest.now r named c.if-scheme-gt1024.true)

pub returns : goal.returns
returns c b r h k e =
    let cut = c.in_ok-scheme in
    let named = front_cut c.args.shown.now b cut.scheme.now cut.rest.now r h k e cut.ensures.0 cut.ensures.1 in
    ap (λ x. Some x) (long_rest_named cut.scheme.now cut.rest.now r named c.if-scheme-gt1024.false)
