-- The report for the built location and request is the report for the passed ones.
use Rattle.std.proofs.Common.{subst}
use mathlib.Core.Logic.{inr}
use Rattle.c_values.specs.Codes.{UnlessMemory}
use Rattle.c_values.specs.Input.{location_of}
use Rattle.c_values.specs.WordNumbers.{ReportsWords}
use Rattle.c_values.proofs.CallLemmas.{neither}
use Rattle.gix_url_c.proofs.rules.commands.gix_url_c_ssh_words.Goals as goal

pub returns-in-Some-request_of-clause-reported : goal.returns-in-Some-request_of-clause-reported
returns-in-Some-request_of-clause-reported c =
    let new = c.write_command.new in
    let code = c.write_command.result in
    let buffer = c.args.buffer.now in
    let lengths = c.args.lengths.now in
    let asked = c.in-Some-request_of in
    inr (
      neither c.in-Some.ensures.whole asked.ensures.whole,
      subst
          (λ r. UnlessMemory code (ReportsWords (location_of c.args.passed.now) r new.built buffer new.buffer lengths new.lengths code))
          asked.ensures.built
          (subst
          (λ v. UnlessMemory code (ReportsWords v asked.request new.built buffer new.buffer lengths new.lengths code))
          c.in-Some.ensures.built c.write_command.ensures.reported),
    )
