-- The text up to the first `:`, and the text after it.
use Rattle.std.proofs.Common.{subst, IsUtf8, arith}
use Rattle.std.proofs.lemmas.Bool.{false≢true}
use Rattle.git_syntax.specs.Bytes.{colon}
use Rattle.git_syntax.specs.Internal.HostPieces.{host_syntax}
use Rattle.git_syntax.proofs.Texts.EscapeLemmas.{utf8_parts}
use Rattle.git_syntax.proofs.Parsing.HostLemmas.{colon_again, colon_first}
use Rattle.git_refusals.proofs.Refusing.HostLemmas.{plain_alone}
use Rattle.git_refusals.proofs.host.bad_unbracketed.Goals as goal
use Rattle.git_refusals.proofs.host.bad_unbracketed.Goals.{then-is_empty-via-then-is_empty, then-is_empty-via-else-is_empty+then-not-is_free_of}

pub returns-in_default : goal.returns-in_default
returns-in_default c =
    plain_alone (host_syntax c.args.syntax) c.args.piece.now c.bad_name.result (record { nonempty = c.requires.some; no_colon = c.in_default.ensures; no_bracket = c.requires.no_bracket }) c.bad_name.ensures

pub bad_colons-requires-clause-colons : goal.bad_colons-requires-clause-colons
bad_colons-requires-clause-colons c =
    elim c.then-is_empty.branch [
      | then-is_empty-via-then-is_empty w ↦ colon_first c.args.piece.now c.in-Some.text.now c.in-Some.digits.now w.if-is_empty.ensures c.in-Some.ensures.1
      | then-is_empty-via-else-is_empty+then-not-is_free_of w ↦ colon_again c.args.piece.now c.in-Some.text.now c.in-Some.digits.now (λ h. false≢true (w.if-not-is_free_of.ensures.1 h)) c.in-Some.ensures.1
    ]

pub bad_pair-requires-clause-text : goal.bad_pair-requires-clause-text
bad_pair-requires-clause-text c =
    (utf8_parts c.in-Some.text.now c.in-Some.digits.now colon (subst IsUtf8 c.in-Some.ensures.1 c.requires.text) (omega arith)).0
