-- The meaning of the text is cut if the front that was counted ends.
use Rattle.std.proofs.Common.{arith, ◌∙◌}
use Rattle.gix_url.proofs.ComponentCuts.MeaningLemmas.{Parts, denoted_front, denoted_after, denoted_within}
use Rattle.gix_url.proofs.components.cuts.EscapedText.around.Goals as goal

pub split_at-requires-2 : goal.split_at-requires-2
split_at-requires-2 c =
    let parts : Parts c.args.c = record { digit = c.requires.digit; percent = c.requires.percent } in
    denoted_within c.args.self.escaped c.args.self.text.now c.args.self.denoted.now c.args.front.now c.args.suffix.now c.args.c c.denoted_len-at.result parts c.args.self.meaning c.requires.joined c.denoted_len-at.ensures

pub split_at-requires : goal.split_at-requires
split_at-requires c =
    let parts : Parts c.args.c = record { digit = c.requires.digit; percent = c.requires.percent } in
    omega (arith, denoted_within c.args.self.escaped c.args.self.text.now c.args.self.denoted.now c.args.front.now c.args.suffix.now c.args.c c.denoted_len-at.result parts c.args.self.meaning c.requires.joined c.denoted_len-at.ensures)

pub invariant_of-result : goal.invariant_of-result
invariant_of-result c =
    let parts : Parts c.args.c = record { digit = c.requires.digit; percent = c.requires.percent } in record {
      meaning = c.split_at.ensures.front ∙ denoted_front c.args.self.escaped c.args.self.text.now c.args.self.denoted.now c.args.front.now c.args.suffix.now c.args.c c.denoted_len-at.result parts c.args.self.meaning c.requires.joined c.denoted_len-at.ensures;
    }

pub invariant_of-result-2 : goal.invariant_of-result-2
invariant_of-result-2 c =
    let parts : Parts c.args.c = record { digit = c.requires.digit; percent = c.requires.percent } in record {
      meaning = c.split_at-2.ensures.back ∙ denoted_after c.args.self.escaped c.args.self.text.now c.args.self.denoted.now c.args.front.now c.args.suffix.now c.args.c c.denoted_len-at.result parts c.args.self.meaning c.requires.joined c.denoted_len-at.ensures;
    }
