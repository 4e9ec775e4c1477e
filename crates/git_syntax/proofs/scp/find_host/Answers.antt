-- The host is read as one in which each `%` is escaped.
use Rattle.std.proofs.Common.{refl, sym, subst}
use Rattle.std.proofs.lemmas.Bool.{false≢true}
use Rattle.git_syntax.specs.Flaws.{ScpHostFlaw}
use Rattle.git_syntax.specs.Internal.ScpPieces.{ReadsScpPiece}
use Rattle.git_syntax.proofs.Parsing.ClassifierLemmas.{nil_tested}
use Rattle.git_syntax.proofs.Parsing.ScpLemmas.{scp_host_read, simple_scp_host}
use Rattle.git_syntax.proofs.scp.find_host.Goals as goal

pub returns-then-is_simple_host-clause-read : goal.returns-then-is_simple_host-clause-read
returns-then-is_simple_host-clause-read c = simple_scp_host c.args.host.now (c.if-is_simple_host.ensures refl)

pub returns-then-not-has_no_white_space-clause-read : goal.returns-then-not-has_no_white_space-clause-read
returns-then-not-has_no_white_space-clause-read c = ScpHostFlaw.white_space c.requires.text (λ lacks. false≢true (c.if-not-has_no_white_space.ensures.1 lacks))

pub returns-then-not-is_free_of-clause-read : goal.returns-then-not-is_free_of-clause-read
returns-then-not-is_free_of-clause-read c = ScpHostFlaw.holds_backslash (λ free. false≢true (c.if-not-is_free_of.ensures.1 free))

pub returns-then-is_empty-clause-read : goal.returns-then-is_empty-clause-read
returns-then-is_empty-clause-read c = ScpHostFlaw.empty (nil_tested c.args.host.now c.if-is_empty.ensures)

pub returns-in-Some-clause-read : goal.returns-in-Some-clause-read
returns-in-Some-clause-read c =
    scp_host_read c.args.host.now c.find_in_brackets.result c.requires.no_at (c.if-not-is_free_of.ensures.0 refl) (c.if-not-has_no_white_space.ensures.0 refl)
    (subst (λ t. ReadsScpPiece t c.find_in_brackets.result) (sym c.in-Some.ensures) c.find_in_brackets.ensures.read)

pub returns-in-None-clause-read : goal.returns-in-None-clause-read
returns-in-None-clause-read c =
    scp_host_read c.args.host.now c.find_name.result c.requires.no_at (c.if-not-is_free_of.ensures.0 refl) (c.if-not-has_no_white_space.ensures.0 refl) c.find_name.ensures.read
