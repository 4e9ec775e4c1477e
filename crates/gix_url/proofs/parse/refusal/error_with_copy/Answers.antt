-- The error has the flaw that its refusal names, and the copy that it keeps.
use Rattle.std.proofs.Common.{refl, sym, ◌∙◌}
use Rattle.gix_url.proofs.parse.refusal.error_with_copy.Goals as goal

pub returns-in-EmptyLocal-clause-flaw : goal.returns-in-EmptyLocal-clause-flaw
returns-in-EmptyLocal-clause-flaw c = (c.args.refusal, c.requires, sym c.in-EmptyLocal.ensures)

pub returns-in_ok-copy-in-MissingPath-clause-flaw : goal.returns-in_ok-copy-in-MissingPath-clause-flaw
returns-in_ok-copy-in-MissingPath-clause-flaw c = (c.args.refusal, c.requires, (sym c.in-MissingPath.ensures, refl, c.in_ok-copy-in-MissingPath.ensures))

pub returns-in_ok-copy-in-NotUtf8-clause-flaw : goal.returns-in_ok-copy-in-NotUtf8-clause-flaw
returns-in_ok-copy-in-NotUtf8-clause-flaw c = (c.args.refusal, c.requires, (sym c.in-NotUtf8.ensures, refl, c.in_ok-copy-in-NotUtf8.ensures))

pub returns-in_ok-copy-in-TooLong-clause-flaw : goal.returns-in_ok-copy-in-TooLong-clause-flaw
returns-in_ok-copy-in-TooLong-clause-flaw c = (c.args.refusal, c.requires, (sym c.in-TooLong.ensures, c.in_ok-copy-in-TooLong.ensures ∙ c.shown_front.ensures, refl))

pub returns-in_ok-copy-in-BadUrl-clause-flaw : goal.returns-in_ok-copy-in-BadUrl-clause-flaw
returns-in_ok-copy-in-BadUrl-clause-flaw c = (c.args.refusal, c.requires, (sym c.in-BadUrl.ensures, refl, c.in_ok-copy-in-BadUrl.ensures))
