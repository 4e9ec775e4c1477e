-- The text up to the first `:`, and the text after it.
use Rattle.std.proofs.Common.{◌∷◌, Some, inr, refl}
use Rattle.std.proofs.lemmas.Bool.{false≢true}
use Rattle.git_syntax.specs.Bytes.{colon}
use Rattle.git_syntax.specs.Flaws.{HasBadHost, HasBadPort}
use Rattle.git_syntax.specs.Internal.HostPieces.{named_text, denoted_host, host_syntax}
use Rattle.git_syntax.proofs.Parsing.HostLemmas.{colon_again, colon_first, not_digits, plain_front, plain_name}
use Rattle.git_syntax.proofs.host.read_unbracketed.Goals as goal
use Rattle.git_syntax.proofs.host.read_unbracketed.Goals.{then-is_empty-via-then-is_empty, then-is_empty-via-else-is_empty+then-not-is_free_of}

pub read_colons-requires-clause-colons : goal.read_colons-requires-clause-colons
read_colons-requires-clause-colons c =
    elim c.then-is_empty.branch [
      | then-is_empty-via-then-is_empty w ↦ colon_first c.args.piece.now c.in-Some.text.now c.in-Some.digits.now w.if-is_empty.ensures c.in-Some.ensures.1
      | then-is_empty-via-else-is_empty+then-not-is_free_of w ↦ colon_again c.args.piece.now c.in-Some.text.now c.in-Some.digits.now (λ h. false≢true (w.if-not-is_free_of.ensures.1 h)) c.in-Some.ensures.1
    ]

pub returns-then-not-are_digits : goal.returns-then-not-are_digits
returns-then-not-are_digits c =
    let front = plain_front c.args.piece.now c.in-Some.text.now (colon ∷ c.in-Some.digits.now) c.if-is_empty.ensures c.in-Some.ensures.0 c.requires.no_bracket c.in-Some.ensures.1 in
    HasBadPort.plain c.in-Some.text.now c.in-Some.digits.now front (c.if-not-is_free_of.ensures.0 refl) c.in-Some.ensures.1 (not_digits (host_syntax c.args.syntax) c.in-Some.digits.now c.if-not-are_digits.ensures)

pub returns-in_default-read_text : goal.returns-in_default-read_text
returns-in_default-read_text c =
    let front = plain_front c.args.piece.now c.in-Some.text.now (colon ∷ c.in-Some.digits.now) c.if-is_empty.ensures c.in-Some.ensures.0 c.requires.no_bracket c.in-Some.ensures.1 in
    HasBadHost.plain c.in-Some.text.now (colon ∷ c.in-Some.digits.now) front (inr (c.in-Some.digits.now, c.if-not-is_free_of.ensures.0 refl, refl)) c.in-Some.ensures.1 c.in_default-read_text.ensures

pub returns-in-Some-with_port : goal.returns-in-Some-with_port
returns-in-Some-with_port c =
    let front = plain_front c.args.piece.now c.in-Some.text.now (colon ∷ c.in-Some.digits.now) c.if-is_empty.ensures c.in-Some.ensures.0 c.requires.no_bracket c.in-Some.ensures.1 in
    plain_name (host_syntax c.args.syntax) c.args.piece.now c.in-Some.text.now c.in-Some.digits.now (denoted_host c.in-Some-read_text.host) (Some (named_text c.in-Some-with_port.named)) c.in-Some-with_port.named.port
    front c.in-Some.ensures.1 c.in-Some-read_text.ensures c.in-Some-with_port.ensures

pub returns-in-None : goal.returns-in-None
returns-in-None c =
    let front = plain_front c.args.piece.now c.in-Some.text.now (colon ∷ c.in-Some.digits.now) c.if-is_empty.ensures c.in-Some.ensures.0 c.requires.no_bracket c.in-Some.ensures.1 in
    HasBadPort.plain c.in-Some.text.now c.in-Some.digits.now front (c.if-not-is_free_of.ensures.0 refl) c.in-Some.ensures.1 c.in-None.ensures
