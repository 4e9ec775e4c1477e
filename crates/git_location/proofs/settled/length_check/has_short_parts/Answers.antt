-- A text that is no longer than the limit is short enough.
use Rattle.std.proofs.Common.{arith}
use Rattle.std.proofs.lemmas.Bool.{leb-true}
use Rattle.git_location.proofs.SettledClass.SettledLemmas.{short_text}
use Rattle.git_location.proofs.settled.length_check.has_short_parts.Goals as goal

pub returns : goal.returns
returns c = λ short. short_text c.args.url.now c.requires.no_colon c.requires.canonical (let within = leb-true c.longest_len.result 1024 short in omega (arith, within, c.longest_len.ensures))
