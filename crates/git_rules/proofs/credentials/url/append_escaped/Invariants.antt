-- The returned pieces were appended.
use Rattle.std.proofs.Common.{◌≡◌, ◌++◌}
use Rattle.percent_encoding.specs.Percent.{percent_encode}
use Rattle.percent_encoding.specs.Iter.{encoded_text}
use Rattle.git_rules.proofs.credentials.url.append_escaped.Given as goal

abbrev pub invariant-loop-slice : goal.invariant-loop-slice
invariant-loop-slice l =
    l.fn.out.items ++ percent_encode l.fn.set l.fn.text ≡ l.out.items ++ encoded_text l.slice-iterator
