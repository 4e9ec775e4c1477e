-- The scheme decides: `ext` keeps the text, a missing path is
-- reported, and any other URL denotes the location of its parts.
use Rattle.std.proofs.Common.{sym, ◌∙◌}
use Rattle.std.proofs.lemmas.Bool.{both_ways, false≢true}
use Rattle.git_syntax.proofs.Parsing.HostLemmas.{some_tested}
use Rattle.git_syntax.proofs.Parsing.ClassifierLemmas.{nil_tested}
use Rattle.git_syntax.proofs.Parsing.SchemeRuleLemmas.{named_ext}
use Rattle.git_syntax.proofs.Parsing.UrlLocationLemmas.{texts, scheme_utf8, path_missed}
use Rattle.git_syntax.proofs.Parsing.FoundLemmas.{found_url}
use Rattle.git_syntax.proofs.Parsing.BufferLemmas.{parts_within}
use Rattle.git_syntax.proofs.url.found_of_url.Goals as goal
use Rattle.git_syntax.proofs.url.found_of_url.Goals.{else-rules-via-then-rules+else-is_empty, else-rules-via-else-rules}

pub returns-then-is_empty-clause-flaw : goal.returns-then-is_empty-clause-flaw
returns-then-is_empty-clause-flaw c =
    path_missed c.requires.spelled (sym c.requires.rules.path ∙ c.if-rules.true) (nil_tested c.args.url.path.now c.if-is_empty.ensures)

pub returns-clause-found : goal.returns-clause-found
returns-clause-found c =
    found_url c.requires.spelled (λ e. false≢true (c.if-is_ext.ensures.1 (named_ext c.args.rules.known c.args.url.scheme.now (c.requires.rules.known ∙ e))))
    (λ need. elim c.else-rules.branch [
      | else-rules-via-then-rules+else-is_empty w ↦ some_tested c.args.url.path.now w.if-is_empty.ensures
      | else-rules-via-else-rules w ↦ absurd (both_ways _ w.if-rules.false (c.requires.rules.path ∙ need))
    ])

pub returns-clause-ready : goal.returns-clause-ready
returns-clause-ready c = record { ruled = c.requires.rules; scheme_text = scheme_utf8 c.requires.spelled; texts = texts c.requires.spelled; escaped = c.requires.escaped }

pub returns-clause-buffer : goal.returns-clause-buffer
returns-clause-buffer c = parts_within c.requires.spelled
