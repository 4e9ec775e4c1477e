-- The bytes so far have their spaces, and the others are still those of the text.
use Rattle.std.proofs.Common.{◌≡◌, length, take, drop}
use Rattle.git_laws.specs.Components.{with_spaces}
use Rattle.gix_url.proofs.components.query_texts.spaced_raw.Given as goal

abbrev pub invariant-loop-byte : goal.invariant-loop-byte
invariant-loop-byte l = record {
  built : take l.byte-index l.byte-items ≡ with_spaces (take l.byte-index l.text);
  left : drop l.byte-index l.byte-items ≡ drop l.byte-index l.text;
  size : length l.byte-items ≡ length l.text;
}
