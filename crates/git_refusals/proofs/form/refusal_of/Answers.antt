-- Each form has its check: its result is the refusal, and if it finds nothing a location is spelled.
use Rattle.std.proofs.Common.{◌≡◌, true, false, bytes_eq, codes, sym, ap, ◌∙◌}
use Rattle.git_syntax.specs.declared.refusal.UrlKind.TheVariants.{Url}
use Rattle.git_refusals.specs.Kinds as kinds
use Rattle.git_refusals.specs.Reasons.{Refused}
use Rattle.git_refusals.proofs.Refusing.FormLemmas.{helper_or_local, scp_spelled, addressed_spelled, file_form}
use Rattle.git_refusals.proofs.form.refusal_of.Goals as goal
use Rattle.git_refusals.proofs.form.refusal_of.Goals.{then-eq+in_ok-place-in-Url, else-eq+in_ok-place-in-Url-2}

pub returns-in-Empty-clause-found : goal.returns-in-Empty-clause-found
returns-in-Empty-clause-found c = Refused.empty c.empty.result c.in-Empty.ensures c.empty.ensures c.new.ensures

pub returns-in-Helper-clause-found : goal.returns-in-Helper-clause-found
returns-in-Helper-clause-found c = helper_or_local c.args.text.now c.classify.result c.classify.ensures c.in-Helper.is

pub returns-after-eq-clause-found : goal.returns-after-eq-clause-found
returns-after-eq-clause-found c =
    elim c.if-eq.branch [
      | then-eq+in_ok-place-in-Url w ↦
          let same : bytes_eq c.in-Url.scheme.now (codes "file") ≡ true = ap (bytes_eq c.in-Url.scheme.now) (sym c.as_slice.ensures) ∙ sym c.eq.ensures ∙ w.if-eq.true in
          Refused.file c.in-Url.rest.now w.in_ok-place-in-Url.place (file_form c.args.text.now c.in-Url.scheme.now c.in-Url.rest.now c.in-Url.ensures same) w.in_ok-place-in-Url.ensures.found (c.new-in-Url.ensures ∙ ap (kinds.refusal_of Url) w.place-is)
      | else-eq+in_ok-place-in-Url-2 w ↦
          let other : bytes_eq c.in-Url.scheme.now (codes "file") ≡ false = ap (bytes_eq c.in-Url.scheme.now) (sym c.as_slice.ensures) ∙ sym c.eq.ensures ∙ w.if-eq.false in
          Refused.url c.in-Url.scheme.now c.in-Url.rest.now w.in_ok-place-in-Url-2.place (record { form = c.in-Url.ensures; not_file = other }) w.in_ok-place-in-Url-2.ensures.found (c.new-in-Url.ensures ∙ ap (kinds.refusal_of Url) w.place-is)
    ]

pub returns-in_err-place-in-Addressed-clause-found : goal.returns-in_err-place-in-Addressed-clause-found
returns-in_err-place-in-Addressed-clause-found c = rw c.from_residual-in_err-place-in-Addressed.ensures (addressed_spelled c.args.text.now c.in_err-place-in-Addressed.ensures.found)

pub returns-in_ok-place-in-Addressed-clause-found : goal.returns-in_ok-place-in-Addressed-clause-found
returns-in_ok-place-in-Addressed-clause-found c =
    Refused.addressed c.in-Addressed.user.now c.in-Addressed.address.now c.in-Addressed.path.now c.in_ok-place-in-Addressed.place c.in-Addressed.ensures c.in_ok-place-in-Addressed.ensures.found c.new-in-Addressed.ensures

pub returns-in_err-place-in-Scp-clause-found : goal.returns-in_err-place-in-Scp-clause-found
returns-in_err-place-in-Scp-clause-found c = rw c.from_residual-in_err-place-in-Scp.ensures (scp_spelled c.args.text.now c.in_err-place-in-Scp.ensures.found)

pub returns-in_ok-place-in-Scp-clause-found : goal.returns-in_ok-place-in-Scp-clause-found
returns-in_ok-place-in-Scp-clause-found c =
    Refused.scp c.in-Scp.front.now c.in-Scp.path.now c.in_ok-place-in-Scp.place c.in-Scp.ensures.form c.in-Scp.ensures.not_addressed c.in_ok-place-in-Scp.ensures.found c.new-in-Scp.ensures
