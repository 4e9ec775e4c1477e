-- The lengths of the words so far were appended.
use Rattle.std.proofs.Common.{◌≡◌, length, map, take}
use Rattle.bstr.specs.Owned.{bstring_bytes}
use Rattle.c_values.proofs.rules.commands.word_lengths.Given as goal

abbrev pub invariant-loop-word : goal.invariant-loop-word
invariant-loop-word l = l.lengths.items ≡ map length (map bstring_bytes (take l.word-index l.words))
