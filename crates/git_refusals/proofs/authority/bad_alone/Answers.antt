-- An authority without user information is a host and a port.
use Rattle.std.proofs.lemmas.Bool.{both_ways}
use Rattle.git_syntax.proofs.Parsing.ClassifierLemmas.{nil_tested}
use Rattle.git_syntax.proofs.Parsing.HostLemmas.{some_tested}
use Rattle.git_refusals.specs.Reasons.{BadParts, Then}
use Rattle.git_refusals.proofs.Refusing.AuthorityLemmas.{alone_held, missing_found}
use Rattle.git_refusals.proofs.authority.bad_alone.Goals as goal
use Rattle.git_refusals.proofs.authority.bad_alone.Goals.{else-needed-via-then-needed+else-is_empty, else-needed-via-else-needed}

pub returns-in-Some : goal.returns-in-Some
returns-in-Some c = record {
  found = BadParts.alone c.requires.no_user (Then.at_first c.in-Some.ensures.found);
  within = c.in-Some.ensures.within;
}

pub returns-then-is_empty : goal.returns-then-is_empty
returns-then-is_empty c =
    missing_found _ c.args.needed c.args.authority.now c.requires.no_user c.if-needed.true (nil_tested c.args.authority.now c.if-is_empty.ensures)

pub returns : goal.returns
returns c = record {
  found =
      alone_held _ c.args.needed c.args.authority.now c.requires.clean c.requires.no_user c.in_default.ensures.found
      (λ need. elim c.else-needed.branch [
        | else-needed-via-then-needed+else-is_empty w ↦ some_tested c.args.authority.now w.if-is_empty.ensures
        | else-needed-via-else-needed w ↦ absurd (both_ways _ w.if-needed.false need)
      ]);
  within = tt;
}
