-- A text that is hardly longer than its scheme, or a walk past it.
use Rattle.std.proofs.Common.{◌∙◌, ◌+◌, drop, length, ap, sym, arith}
use Rattle.std.proofs.lemmas.Bool.{le-leb, or_left}
use Rattle.std.proofs.lemmas.List.{length-drop}
use Rattle.git_syntax.specs.declared.length.LengthCheck.{LengthCheck}
use Rattle.git_syntax.specs.Schemes.{is_web_scheme}
use Rattle.git_location.specs.Internal.Pieces.{pieces_text}
use Rattle.git_syntax.specs.Internal.LengthChecks.{is_text_in_time}
use Rattle.git_syntax.proofs.Parsing.LengthLemmas.{long_tested}
use Rattle.git_location.proofs.settled.length_check.is_rest_short.Goals as goal

pub returns-then-len-scheme : goal.returns-then-len-scheme
returns-then-len-scheme c =
    let suffix = drop (length c.args.scheme.now + 3) (pieces_text c.args.pieces.now) in
    sym (or_left _ _ (le-leb (length suffix) 1024 (omega (arith, c.len.ensures, length-drop (length c.args.scheme.now + 3) (pieces_text c.args.pieces.now)))))

pub returns : goal.returns
returns c =
    let suffix = drop (length c.args.scheme.now + 3) (pieces_text c.args.pieces.now) in
    c.is_in_time.ensures ∙ ap (λ (w : LengthCheck). is_text_in_time w (pieces_text c.args.pieces.now)) c.over.ensures
    ∙ sym (long_tested (is_web_scheme c.args.scheme.now) suffix (omega (arith, c.len.ensures, length-drop (length c.args.scheme.now + 3) (pieces_text c.args.pieces.now))))
