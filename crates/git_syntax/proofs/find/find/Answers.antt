-- A text that is refused has a flaw, so it spells nothing; the name of a helper is text.
use Rattle.std.proofs.lemmas.Result.{IfErr-weaker}
use Rattle.git_syntax.specs.Flaws.{NamesFlaw}
use Rattle.git_syntax.specs.Grammar.{Spells}
use Rattle.git_syntax.specs.Location.{Location}
use Rattle.git_syntax.proofs.Parsing.ClassifierLemmas.{helper_name_utf8}
use Rattle.git_syntax.proofs.Errors.RefusalLemmas.{refused_unspelled}
use Rattle.git_syntax.proofs.find.find.Goals as goal

pub returns-in-Helper-clause-ready : goal.returns-in-Helper-clause-ready
returns-in-Helper-clause-ready over c = helper_name_utf8 c.in-Helper.name.now c.in-Helper.ensures.named

pub returns-in-Url-clause-refused : goal.returns-in-Url-clause-refused
returns-in-Url-clause-refused over c = IfErr-weaker c.find_url.result (NamesFlaw c.args.bytes.now) (λ _. (v : Location) → ¬ Spells c.args.bytes.now v) (refused_unspelled c.args.bytes.now) c.find_url.ensures.flaw

pub returns-in-Addressed-clause-refused : goal.returns-in-Addressed-clause-refused
returns-in-Addressed-clause-refused over c = IfErr-weaker c.find_addressed.result (NamesFlaw c.args.bytes.now) (λ _. (v : Location) → ¬ Spells c.args.bytes.now v) (refused_unspelled c.args.bytes.now) c.find_addressed.ensures.flaw

pub returns-in-Scp-clause-refused : goal.returns-in-Scp-clause-refused
returns-in-Scp-clause-refused over c = IfErr-weaker c.find_scp.result (NamesFlaw c.args.bytes.now) (λ _. (v : Location) → ¬ Spells c.args.bytes.now v) (refused_unspelled c.args.bytes.now) c.find_scp.ensures.flaw
