-- No character so far passes the test.
use Rattle.std.proofs.Common.{◌≡◌, ◌++◌, ℕ, List, false, length, encode_utf8_all}
use Rattle.std.specs.List.{list_any}
use Rattle.std.specs.Str.Iter.{char_indices_offset, char_indices_rest}
use Rattle.git_refusals.specs.Internal.Wrong.{wrong_test}
use Rattle.git_refusals.proofs.characters.first_wrong.Given as goal

abbrev pub invariant-loop-at : goal.invariant-loop-at
invariant-loop-at l = (seen : List ℕ) × (list_any (wrong_test l.wrong) seen ≡ false) × (l.text ≡ encode_utf8_all seen ++ char_indices_rest l.at-iterator) × (char_indices_offset l.at-iterator ≡ length (encode_utf8_all seen))
