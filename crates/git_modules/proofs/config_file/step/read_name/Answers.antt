-- The name has a byte.
use Rattle.std.proofs.Common.{arith}
use Rattle.git_modules.specs.ConfigFileBytes.{left_at}
use Rattle.git_modules.proofs.ConfigFile.NameLemmas.{word_some}
use Rattle.git_modules.proofs.config_file.step.read_name.Goals as goal

pub returns-clause-least : goal.returns-clause-least
returns-clause-least c = omega (arith, word_some c.read_word.result.0 c.read_word.new.buffer (left_at c.args.text.now c.args.start) c.read_word.ensures.bytes c.requires.letter, c.read_word.ensures.size)
