-- The next byte is tested.
use Rattle.std.proofs.Common.{◌∙◌, ◌+◌, ◌&&◌, ap, drop, arith}
use Rattle.std.specs.List.{list_all}
use Rattle.git_readers.specs.Unambiguous.{is_path_byte}
use Rattle.git_readers.proofs.PlainBytes.{all_step}
use Rattle.git_readers.proofs.classes.are_path_bytes.Goals as goal

pub loop-byte-preserved : goal.loop-byte-preserved
loop-byte-preserved c =
    let path = c.args.path.now in
    let i = c.loop-byte.byte-index in
    ap (λ x. (c.loop-byte.all && x) && list_all is_path_byte (drop (i + 1) path)) c.is_path_byte-all.ensures
    ∙ all_step is_path_byte c.loop-byte.all path i (omega arith) ∙ c.loop-byte.invariant
