-- Each segment is passed, or is appended as a piece.
use Rattle.std.proofs.Common.{ap, sym, subst, ◌∙◌, [], ◌∷◌, ◌++◌, append_assoc, rules}
use Rattle.std.specs.String.{string_bytes}
use Rattle.git_syntax.specs.Bytes.{slash}
use Rattle.gix_url.specs.Paths.{IsPiece}
use Rattle.gix_url.proofs.Homes.PathLemmas.{Gathers, unread, unread_none, segment_cut, shorter, gathers_none, gathers_past, gathers_more, gathers_all}
use Rattle.gix_url.proofs.expand_path.paths.push_pieces.Goals as goal

pub loop-rest-init : goal.loop-rest-init
loop-rest-init c = record { text = search rules; gathered = gathers_none _ _ }

pub loop-rest-smaller-then-not-counts : goal.loop-rest-smaller-then-not-counts
loop-rest-smaller-then-not-counts c =
    let cut = c.first_segment-in-Some.result in
    shorter c.loop-rest.rest c.in-Some.suffix cut.0 cut.1 c.in-Some.is c.first_segment-in-Some.ensures

pub loop-rest-preserved-then-not-counts : goal.loop-rest-preserved-then-not-counts
loop-rest-preserved-then-not-counts c =
    let cut = c.first_segment-in-Some.result in
    let left = ap unread c.in-Some.is ∙ ap (λ t. slash ∷ t) (segment_cut c.in-Some.suffix.now cut.0 cut.1 c.first_segment-in-Some.ensures) in
    record {
      text = search rules;
      gathered = gathers_past _ _ _ _ _ cut.0.now (unread cut.1) left (sym c.counts.ensures ∙ c.if-not-counts.true) c.loop-rest.invariant.gathered;
    }

pub loop-rest-smaller : goal.loop-rest-smaller
loop-rest-smaller c =
    let cut = c.first_segment-in-Some.result in
    shorter c.loop-rest.rest c.in-Some.suffix cut.0 cut.1 c.in-Some.is c.first_segment-in-Some.ensures

pub loop-rest-preserved : goal.loop-rest-preserved
loop-rest-preserved c =
    let cut = c.first_segment-in-Some.result in
    let left = ap unread c.in-Some.is ∙ ap (λ t. slash ∷ t) (segment_cut c.in-Some.suffix.now cut.0 cut.1 c.first_segment-in-Some.ensures) in
    let is : IsPiece cut.0.now = (c.first_segment-in-Some.ensures.0, sym c.counts.ensures ∙ c.if-not-counts.false) in
    let more = gathers_more _ _ _ _ _ cut.0.now (unread cut.1) left is c.loop-rest.invariant.gathered in
    let written = c.in_ok-push_str-2.ensures.bytes ∙ ap (λ t. t ++ cut.0.now) c.in_ok-push_str.ensures.bytes ∙ append_assoc (string_bytes c.loop-rest.out) c.loop-rest.separator.now cut.0.now in
    record { text = search rules; gathered = subst (λ t. Gathers (string_bytes c.args.out.now) t (slash ∷ []) (unread c.first_segment.result.1) (unread cut.1)) (sym written) more }

pub returns : goal.returns
returns c =
    let start = unread c.first_segment.result.1 in
    let all = subst (Gathers (string_bytes c.args.out.now) (string_bytes c.loop-rest.out) c.loop-rest.separator.now start) (unread_none c.loop-rest.rest c.in_default.not-Some) c.loop-rest.invariant.gathered in
    gathers_all _ _ _ c.args.path.now c.first_segment.result.0.now start c.first_segment.ensures.0 (segment_cut c.args.path.now c.first_segment.result.0 c.first_segment.result.1 c.first_segment.ensures) all
