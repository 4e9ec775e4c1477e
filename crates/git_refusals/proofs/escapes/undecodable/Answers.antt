-- The place is that of the first bytes that are not UTF-8.
use Rattle.std.proofs.Common.{refl, sym, true≢false, ◌∙◌, IsUtf8}
use Rattle.percent_encoding.specs.Percent.{percent_decode}
use Rattle.git_refusals.proofs.Refusing.EscapeLemmas.{at_is, len_is, place_within}
use Rattle.git_refusals.proofs.escapes.undecodable.Goals as goal

pub returns : goal.returns
returns c =
    let text = c.args.piece.now in
    let left = c.undecodable_end-left.result.now in
    let suffix = c.suffix.result.now in
    let start = c.undecodable_end-left.ensures in
    let not : ¬ IsUtf8 (percent_decode text) = λ utf8. true≢false (sym (c.decodes_to_utf8.ensures.1 utf8) ∙ c.if-decodes_to_utf8.false) in
    record {
      found = record {
        undecodable = not;
        stands = record { named = refl; start = at_is text left start; size = len_is text left _ suffix _ not start c.front-count.ensures.bytes c.decode-size.ensures.size c.suffix.ensures };
      };
      within = place_within text left suffix _ start;
    }
