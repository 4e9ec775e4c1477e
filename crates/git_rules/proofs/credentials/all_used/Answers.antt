-- One entry further, and the entry at which Git stops.
use Rattle.std.proofs.Common.{◌+◌, subst, sym, ap, take}
use Rattle.std.proofs.lemmas.Bool.{both_ways}
use Rattle.std.proofs.lemmas.Result.{err_from_is_err_and}
use Rattle.git_reads.specs.Views.{credential_reading}
use Rattle.git_rules.specs.CredentialEntries.{AppliesTo, CredentialUse}
use Rattle.git_rules.specs.Credentials.{AreCredentials}
use Rattle.git_rules.proofs.Asked.AnswerLemmas.{further_passed, further_taken, refused_at}
use Rattle.git_rules.proofs.credentials.all_used.Goals.{then-branch+in_ok-take, else-branch}
use Rattle.git_rules.proofs.credentials.all_used.Goals as goal

pub returns-in_err-take-clause-refused : goal.returns-in_err-take-clause-refused
returns-in_err-take-clause-refused c =
    let r = credential_reading c.args.request.now in
    let e = c.index-entries-i.result in
    let applies = subst (λ u. AppliesTo r u e) (ap (λ (u : CredentialUse). u.user) c.used.view_is) (c.in_ok-applies.ensures.0 c.if-branch.true) in
    let reported = err_from_is_err_and c.from_residual-in_err-take.result c.from_residual-in_err-take.ensures.1 in
    rw (reported.1, reported.2) (refused_at r c.args.entries.now c.loop-i.i e c.loop-i.used _ c.loop-i-test.true c.index-entries-i.is c.loop-i.invariant applies c.in_err-take.ensures.refused)

pub loop-i-preserved : goal.loop-i-preserved
loop-i-preserved c =
    let r = credential_reading c.args.request.now in
    let e = c.index-entries-i.result in
    let front = take (c.loop-i.i + 1) c.args.entries.now in
    let user = ap (λ (u : CredentialUse). u.user) c.used.view_is in
    elim c.if-branch.branch [
      | then-branch+in_ok-take w ↦
          let applies = subst (λ u. AppliesTo r u e) user (c.in_ok-applies.ensures.0 w.if-branch.true) in
          subst (AreCredentials r front) (sym w.used-is) (further_taken r c.args.entries.now c.loop-i.i e c.loop-i.used w.take.new.used c.loop-i-test.true c.index-entries-i.is c.loop-i.invariant applies w.in_ok-take.ensures.taken)
      | else-branch w ↦
          let other : ¬ AppliesTo r c.loop-i.used.user e = λ applies. both_ways _ w.if-branch.false (c.in_ok-applies.ensures.1 (subst (λ u. AppliesTo r u e) (sym user) applies)) in
          subst (AreCredentials r front) (sym w.used-is) (further_passed r c.args.entries.now c.loop-i.i e c.loop-i.used c.loop-i-test.true c.index-entries-i.is c.loop-i.invariant other)
    ]
