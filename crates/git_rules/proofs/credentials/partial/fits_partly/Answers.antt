-- By the one reading of the text.
use Rattle.std.proofs.Common.{ℕ, List, Bor, option_map}
use Rattle.git_reads.specs.Views.{credential_reading}
use Rattle.git_rules.proofs.Asked.PartialLemmas.{decided_partly, reads_partly}
use Rattle.git_rules.proofs.credentials.partial.fits_partly.Goals as goal

pub returns : goal.returns
returns c =
    let wanted = credential_reading c.in_ok-wanted.wanted in
    let reads = reads_partly c.args.text.now c.cut_partly.result.protocol.now c.cut_partly.result.authority.now c.cut_partly.result.suffix.now wanted (c.is_free_of.ensures.0 c.if-not-is_free_of.false) c.cut_partly.ensures c.in_ok-wanted.ensures.protocol c.in_ok-wanted.ensures.read in
    decided_partly c.args.text.now wanted (credential_reading c.args.request.now) (option_map (λ (t : Bor (List ℕ)). t.now) c.args.user) c.is_met.result reads c.is_met.ensures
