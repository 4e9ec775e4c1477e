-- The pieces that were read are appended.
use Rattle.std.proofs.Common.{length}
use denote.Text.{Utf8}
use denote.Shadow.{shadow}
use Rattle.std.specs.String.{string_bytes}
use Rattle.gix_url.proofs.Homes.PathLemmas.{Gathers, unread}
use Rattle.gix_url.proofs.expand_path.paths.push_pieces.Given as goal

abbrev pub invariant-loop-rest : goal.invariant-loop-rest
invariant-loop-rest l = record {
  text : shadow (Utf8 l.separator);
  gathered : Gathers (string_bytes l.fn.out) (string_bytes l.out) l.separator (unread l.initial.rest) (unread l.rest);
}

abbrev pub decreases-loop-rest : goal.decreases-loop-rest
decreases-loop-rest l = length (unread l.rest)
