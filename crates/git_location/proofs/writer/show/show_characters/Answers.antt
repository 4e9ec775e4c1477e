-- None at first, then one character more.
use Rattle.std.proofs.Common.{[], ◌++◌, encode_utf8, encode_utf8_all, refl, sym, ap, ◌∙◌, append_assoc, true}
use Rattle.std.proofs.Output.{has_written_styled_nil}
use Rattle.git_location.proofs.Writing.DisplayLemmas.{shown_on}
use Rattle.git_location.proofs.writer.show.show_characters.Goals as goal

pub loop-character-init : goal.loop-character-init
loop-character-init g c = λ flush. ([], has_written_styled_nil _ _ flush, ap encode_utf8_all (c.into_iter-character-iterator.ensures.into_iter_gives ∙ c.chars-character-items.ensures.value))

pub loop-character-preserved : goal.loop-character-preserved
loop-character-preserved g c = λ flush.
    let so_far = c.loop-character.invariant flush in
    let character = c.in-Some.character in (
      so_far.0 ++ encode_utf8 character,
      shown_on _ _ _ _ _ _ _ so_far.1 (c.in_ok-write_char.ensures.styled so_far.1.flush (refl {a = true})) refl,
      append_assoc so_far.0 (encode_utf8 character) _ ∙ ap (λ t. so_far.0 ++ encode_utf8_all t) (sym c.in-Some.ensures.steps) ∙ so_far.2,
    )
