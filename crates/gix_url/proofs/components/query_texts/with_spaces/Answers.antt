-- The text before the next `+` and a space are appended to the result, whose capacity suffices for both.
use Rattle.std.proofs.Common.{◌+◌, ◌≤◌, ◌∷◌, ◌++◌, ◌∙◌, arith, ap, length, [], vec_len, vec_capacity}
use Rattle.std.proofs.lemmas.List.{length-append}
use Rattle.git_syntax.specs.Bytes.{plus_sign}
use Rattle.gix_url.proofs.ComponentCuts.FieldLemmas.{denoted_as, spelled_cut, plus_parts, spaced_more, spaced_whole}
use Rattle.gix_url.proofs.components.query_texts.with_spaces.Goals as goal

pub append_within-requires : goal.append_within-requires
append_within-requires c =
    let cut = spelled_cut plus_sign c.loop-front.rest c.in-Some.front c.in-Some.suffix plus_parts c.in-Some.ensures in
    let fits : vec_len c.loop-front.bytes + length c.in-Some.front.denoted.now ≤ vec_capacity c.loop-front.bytes = omega (arith, ap length cut, length-append c.in-Some.front.denoted.now (plus_sign ∷ c.in-Some.suffix.denoted.now)) in
    fits

pub append_within-requires-in-Some : goal.append_within-requires-in-Some
append_within-requires-in-Some c =
    let cut = spelled_cut plus_sign c.loop-front.rest c.in-Some.front c.in-Some.suffix plus_parts c.in-Some.ensures in
    omega (arith, ap length cut, length-append c.in-Some.front.denoted.now (plus_sign ∷ c.in-Some.suffix.denoted.now))

pub loop-front-preserved : goal.loop-front-preserved
loop-front-preserved c =
    let around = c.in-Some.ensures in
    let rest = c.loop-front.rest in
    let escaped = around.front_escaped ∙ c.loop-front.invariant.escaped in
    let cut = spelled_cut plus_sign rest c.in-Some.front c.in-Some.suffix plus_parts around in record {
      escaped = around.after_escaped ∙ c.loop-front.invariant.escaped;
      built = spaced_more c.args.piece.escaped _ c.loop-front.bytes.items rest.text.now c.in-Some.front.text.now c.in-Some.suffix.text.now c.in-Some.front.denoted.now _ around.free around.joined (denoted_as c.in-Some.front c.args.piece.escaped escaped) c.loop-front.invariant.built (c.append_within-in-Some.ensures.items ∙ ap (λ t. t ++ 32 ∷ []) c.append_within.ensures.items);
      reserved = omega (arith, ap length cut, length-append c.in-Some.front.denoted.now (plus_sign ∷ c.in-Some.suffix.denoted.now));
    }

pub returns : goal.returns
returns c =
    c.append_within-2.ensures.items
    ∙ spaced_whole c.args.piece.escaped _ c.loop-front.bytes.items c.loop-front.rest.text.now c.loop-front.rest.denoted.now c.in_default.ensures (denoted_as c.loop-front.rest c.args.piece.escaped c.loop-front.invariant.escaped) c.loop-front.invariant.built
