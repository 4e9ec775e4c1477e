-- The last name of a path, read byte by byte, as far as it distinguishes the known programs; and the first program
-- of a command line, read likewise.
use Rattle.std.specs.Prelude.{◌≡◌, ℕ, ◌≤◌, Bool, true, false, List, ◌++◌, Option, length, option_map, reverse, take}
use Rattle.git_syntax.specs.Bytes.{begins_with, slash}
use Rattle.git_rules.specs.declared.ssh.program.name.BaseName.{BaseName}
use Rattle.git_rules.specs.declared.ssh.program.name.FirstWord.{FirstWord}
use Rattle.git_rules.specs.declared.ssh.program.name.Spot.{Spot as Place}
use Rattle.git_rules.specs.declared.ssh.program.name.Spot.TheVariants as place
use Rattle.git_rules.specs.declared.ssh.program.name.Step.{Step}
use Rattle.git_rules.specs.declared.ssh.program.name.Step.TheVariants as step
use Rattle.git_rules.specs.CommandLines.{LineWords, Spot, after_end, base_name, line_words_from, with_byte}
use Rattle.git_rules.specs.CommandLines.Spot.{between, bare, single, double, escaped, escaped_in_double}

-- the number of bytes kept: one more than the longest known name has
abbrev pub most_kept : ℕ
most_kept = 18

-- `name` holds the first bytes of the last name of the path, and whether a slash ends the path
pub record IsNameOf (name : BaseName) (path : List ℕ) : Type 0 where
  pub whole : length name.bytes ≡ most_kept
  pub within : name.len ≤ most_kept
  pub kept : take name.len name.bytes ≡ take most_kept (base_name path)
  pub ended : name.is_ended ≡ begins_with slash (reverse path)

-- the state in a command line that a context of the code represents
abbrev pub spot_of : Place → Spot
spot_of place.Bare = bare
spot_of place.Single = single
spot_of place.Double = double
spot_of place.Escaped = escaped
spot_of place.EscapedInDouble = escaped_in_double

-- the words from a byte on, by the role of the byte
abbrev pub words_by : ℕ → Step → List ℕ → Option LineWords
words_by b step.Gap rest = after_end (line_words_from between rest)
words_by b (step.Mark next) rest = line_words_from (spot_of next) rest
words_by b (step.Part next) rest = with_byte b (line_words_from (spot_of next) rest)

-- the first word of a line, if the line can be split: the part already read, followed by the first of the other
-- words unless the word has ended
abbrev pub word_by : Bool → List ℕ → Option LineWords → Option (List ℕ)
word_by true read words = option_map (λ w. read ++ w.first) words
word_by false read words = option_map (λ w. read) words

-- the line is read up to `rest`; with it, the first word is `whole`
pub record IsReadTo (word : FirstWord) (rest : List ℕ) (whole : Option (List ℕ)) : Type 0 where
  pub read : List ℕ
  pub name : IsNameOf word.name read
  pub is : word_by word.is_first read (line_words_from (spot_of word.spot) rest) ≡ whole
