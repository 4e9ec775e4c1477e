-- The current character is the first, or none is.
use Rattle.std.proofs.Common.{[], ◌∷◌, ◌++◌, refl, sym, ap, ◌∙◌, append_assoc, arith, length, length-append, encode_utf8, encode_utf8_all}
use Rattle.std.specs.Str.Iter.{char_indices_rest}
use Rattle.std.proofs.lemmas.List.{append-nil, nil_from_length}
use Rattle.git_syntax.proofs.Texts.CutLemmas.{lacks-append, lacks-cons}
use Rattle.git_refusals.specs.Internal.Wrong.{wrong_test}
use Rattle.git_refusals.proofs.Refusing.CharacterLemmas.{character_within, encodes_push, none_stands, stands_character}
use Rattle.git_refusals.proofs.characters.first_wrong.Goals as goal

pub loop-at-preserved : goal.loop-at-preserved
loop-at-preserved c =
    let (seen, none, whole, offset) = c.loop-at.invariant in
    let (at, rest, further) = c.in-Some.ensures.steps in (
      seen ++ c.in-Some.character ∷ [],
      lacks-append (wrong_test c.args.wrong) seen (c.in-Some.character ∷ []) none (lacks-cons (wrong_test c.args.wrong) c.in-Some.character [] (sym c.if-holds.ensures) refl),
      whole ∙ ap (λ t. encode_utf8_all seen ++ t) rest ∙ sym (append_assoc (encode_utf8_all seen) (encode_utf8 c.in-Some.character) (char_indices_rest c.next.new.self))
          ∙ ap (λ t. t ++ char_indices_rest c.next.new.self) (sym (encodes_push seen c.in-Some.character)),
      omega (arith, further, offset, ap length (encodes_push seen c.in-Some.character), length-append (encode_utf8_all seen) (encode_utf8 c.in-Some.character)),
    )

pub returns-then-holds-clause-found : goal.returns-then-holds-clause-found
returns-then-holds-clause-found c =
    let (seen, none, whole, offset) = c.loop-at.invariant in
    let (at, rest, further) = c.in-Some.ensures.steps in
    stands_character (wrong_test c.args.wrong) c.args.text.now seen (char_indices_rest c.next.new.self) c.in-Some.character c.in-Some.at c.len_utf8.result c.utf8.text none (sym c.if-holds.ensures) (whole ∙ ap (λ t. encode_utf8_all seen ++ t) rest) (at ∙ offset) c.len_utf8.ensures.len

pub returns-then-holds-clause-within : goal.returns-then-holds-clause-within
returns-then-holds-clause-within c =
    let (seen, none, whole, offset) = c.loop-at.invariant in
    let (at, rest, further) = c.in-Some.ensures.steps in
    character_within c.args.text.now seen (char_indices_rest c.next.new.self) c.in-Some.character c.in-Some.at c.len_utf8.result (whole ∙ ap (λ t. encode_utf8_all seen ++ t) rest) (at ∙ offset) c.len_utf8.ensures.len

pub returns-clause-found : goal.returns-clause-found
returns-clause-found c =
    let (seen, none, whole, offset) = c.loop-at.invariant in
    let empty = nil_from_length (char_indices_rest c.loop-at.at-iterator) c.in-None.ensures.steps.0 in
    none_stands (wrong_test c.args.wrong) c.args.text.now seen c.utf8.text (sym (append-nil (encode_utf8_all seen)) ∙ ap (λ t. encode_utf8_all seen ++ t) (sym empty) ∙ sym whole) none
