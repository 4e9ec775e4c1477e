-- The words so far were appended.
use Rattle.std.proofs.Common.{◌≡◌, map, take}
use Rattle.std.specs.List.{concat}
use Rattle.bstr.specs.Owned.{bstring_bytes}
use Rattle.c_values.proofs.rules.commands.joined_words.Given as goal

abbrev pub invariant-loop-word : goal.invariant-loop-word
invariant-loop-word l = l.bytes.items ≡ concat (map bstring_bytes (take l.word-index l.words))
