-- White space counts only after a byte, and only if something follows it.
use Rattle.std.proofs.Common.{◌<◌, arith}
use Rattle.git_modules.proofs.ConfigFile.PartLemmas.{blank_goes, blank_tail}
use Rattle.git_modules.proofs.config_file.value.write_blank.Goals as goal

pub returns : goal.returns
returns c =
    let w = c.args.written in
    let tail = c.requires.tail in
    let some : 0 < w.end = omega arith in
    (λ d left e. blank_goes c.args.buffer.now w.end w.kept d w.mode left tail.0 some e, (omega arith, blank_tail c.args.buffer.now w.end w.kept tail.0 tail.1 c.requires.buffer), omega arith)
