-- A simple host is the whole authority.
use Rattle.std.proofs.Common.{refl, inr, ◌⊎◌}
use Rattle.std.proofs.lemmas.Bool.{false≢true}
use Rattle.std.proofs.lemmas.Result.{IfErr-weaker}
use Rattle.git_syntax.specs.Bytes.{FreeOf, backslash}
use Rattle.git_syntax.specs.Flaws.{AuthorityFlaw}
use Rattle.git_syntax.specs.Internal.HostPieces.{host_syntax}
use Rattle.git_syntax.specs.Internal.UrlPieces.{IsNoAuthority}
use Rattle.git_syntax.proofs.Parsing.UrlLemmas.{on_each_ok, simple_clean, simple_held}
use Rattle.git_syntax.proofs.url_syntax.read_authority.Goals as goal

pub returns-in-Some-clause-read : goal.returns-in-Some-clause-read
returns-in-Some-clause-read c = simple_held (host_syntax c.args.syntax) c.args.needed c.args.authority.now c.in-Some.host c.in-Some.ensures.simple c.in-Some.ensures.host c.in-Some.ensures.port

pub returns-in-Some-clause-clean : goal.returns-in-Some-clause-clean
returns-in-Some-clause-clean c = simple_clean c.args.authority.now c.in-Some.ensures.simple

pub returns-then-not-is_free_of-clause-flaw : goal.returns-then-not-is_free_of-clause-flaw
returns-then-not-is_free_of-clause-flaw c = AuthorityFlaw.holds_backslash (λ free. false≢true (c.if-not-is_free_of.ensures.1 free))

pub returns-clause-clean : goal.returns-clause-clean
returns-clause-clean c = on_each_ok c.read_marked.result (FreeOf backslash c.args.authority.now) (c.if-not-is_free_of.ensures.0 refl)

pub returns-clause-refused : goal.returns-clause-refused
returns-clause-refused c =
    let no_authority = IsNoAuthority (host_syntax c.args.syntax) c.args.needed c.args.authority.now in
    IfErr-weaker c.read_marked.result (λ _. no_authority) (λ _. (¬ FreeOf backslash c.args.authority.now) ⊎ no_authority) (λ _ h. inr h) c.read_marked.ensures.refused
