-- The bytes written so far and the rest of the word are the whole word.
use Rattle.std.proofs.Common.{◌≡◌, ◌≤◌, ◌+◌, ◌-◌, ◌++◌, length, take}
use Rattle.git_syntax.specs.Bytes.{lowercase}
use Rattle.git_modules.specs.ConfigFileBytes.{left_at, word, past_word}
use Rattle.git_modules.specs.ConfigFilePieces.{is_of}
use Rattle.git_modules.proofs.config_file.word.read_word.Given as goal

abbrev pub invariant-loop-byte : goal.invariant-loop-byte
invariant-loop-byte l = record {
  bytes : take l.len l.buffer ++ lowercase (word (is_of l.class) (left_at l.text l.at)) ≡ lowercase (word (is_of l.class) (left_at l.text l.start));
  left : past_word (is_of l.class) (left_at l.text l.at) ≡ past_word (is_of l.class) (left_at l.text l.start);
  size : l.len + l.start ≤ l.at;
  most : l.at ≤ length l.text;
  kept : length l.buffer ≡ length l.fn.buffer;
}

abbrev pub decreases-loop-byte : goal.decreases-loop-byte
decreases-loop-byte l = length l.text - l.at
