-- The characters so far were shown.
use Rattle.std.proofs.Common.{◌≡◌, ℕ, List, ◌++◌, encode_utf8_all}
use Rattle.std.specs.Fmt.{HasWrittenStyled, IsFlush}
use Rattle.git_syntax.specs.Bytes.{lossy_text}
use Rattle.git_location.proofs.writer.show.show_characters.Given as goal

abbrev pub invariant-loop-character : goal.invariant-loop-character
invariant-loop-character g l =
    IsFlush l.fn.f
    → (done : List ℕ) × HasWrittenStyled g.W.Write.write_str_gives l.fn.f done l.f
    × (done ++ encode_utf8_all l.character-iterator ≡ lossy_text l.fn.bytes)
