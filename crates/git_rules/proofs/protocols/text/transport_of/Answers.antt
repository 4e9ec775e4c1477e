-- A text that names no helper and isn't for `rsync` is a URL with a scheme, or is cut by its first colon.
use Rattle.std.proofs.Common.{refl, sym, subst}
use Rattle.std.proofs.lemmas.Bool.{false≢true}
use Rattle.std.proofs.lemmas.Result.{IfErr-weaker, IfOk-weaker}
use Rattle.git_rules.specs.TextTransports.{HasTransport, LacksTransport, UsesTransport}
use Rattle.git_rules.proofs.Allowed.TransportLemmas.{for_rsync, unknown, uses_url}
use Rattle.git_rules.proofs.protocols.text.transport_of.Goals as goal
use Rattle.git_reads.specs.Unread.{IsGiven}

pub returns-then-begins_by_rsync-clause-none : goal.returns-then-begins_by_rsync-clause-none
returns-then-begins_by_rsync-clause-none c = (
  record { whole = c.if-not-is_free_of.ensures.0 refl; no_option = sym c.if-starts_with_byte.ensures },
  for_rsync c.args.text.now c.in_default.ensures (c.if-begins_by_rsync.ensures.0 refl),
)

pub returns-in-Some-cut_at_mark-clause-named : goal.returns-in-Some-cut_at_mark-clause-named
returns-in-Some-cut_at_mark-clause-named c =
    let scheme = c.in-Some-cut_at_mark.scheme.now in
    let input : IsGiven c.args.text.now = record { whole = c.if-not-is_free_of.ensures.0 refl; no_option = sym c.if-starts_with_byte.ensures } in
    IfOk-weaker c.by_scheme.result _ (λ name. HasTransport c.args.text.now name.now) (λ name h. record { input = input; uses = subst (UsesTransport c.args.text.now) (sym h.1) (uses_url c.args.text.now scheme c.in-Some-cut_at_mark.field-0-1.now (λ k. false≢true (c.if-begins_by_rsync.ensures.1 k)) c.in-Some-cut_at_mark.ensures.1 h.0) }) c.by_scheme.ensures.named

pub returns-in-Some-cut_at_mark-clause-none : goal.returns-in-Some-cut_at_mark-clause-none
returns-in-Some-cut_at_mark-clause-none c =
    let scheme = c.in-Some-cut_at_mark.scheme.now in
    let input : IsGiven c.args.text.now = record { whole = c.if-not-is_free_of.ensures.0 refl; no_option = sym c.if-starts_with_byte.ensures } in
    IfErr-weaker c.by_scheme.result _ (LacksTransport c.args.text.now) (λ w h. subst (LacksTransport c.args.text.now) (sym h.1) (input, unknown c.args.text.now scheme c.in-Some-cut_at_mark.field-0-1.now c.in_default.ensures (λ k. false≢true (c.if-begins_by_rsync.ensures.1 k)) c.in-Some-cut_at_mark.ensures.0 c.in-Some-cut_at_mark.ensures.1 h.0)) c.by_scheme.ensures.none
