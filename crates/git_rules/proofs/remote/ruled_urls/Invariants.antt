use Rattle.std.proofs.Common.{take}
use Rattle.git_rules.specs.Remotes.{AreRuled, url_key, values_of}
use Rattle.git_rules.proofs.remote.ruled_urls.Given as goal

abbrev pub invariant-loop-entry : goal.invariant-loop-entry
invariant-loop-entry l =
    AreRuled l.rules.pushing (values_of l.name url_key (take l.entry-index l.entries)) l.found.items
