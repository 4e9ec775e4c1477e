use Rattle.std.proofs.Common.{inl, inr, subst}
use Rattle.std.proofs.lemmas.Result.{IfOk-weaker}
use Rattle.git_rules.specs.Remotes.{ArePushUrls, AreUrls, HasPushUrls}
use Rattle.git_rules.proofs.Remoted.UrlLemmas.{nothing, something}
use Rattle.git_rules.proofs.remote.pushed_to.Goals as goal

pub returns-then-is_empty : goal.returns-then-is_empty
returns-then-is_empty c =
    let pushed = c.in_ok-found.found in
    let empty = nothing pushed.items pushed.len c.is_empty.result pushed.ok.0 c.is_empty.ensures c.if-is_empty.true in
    let none = subst (HasPushUrls c.args.rules.now c.args.name.now c.args.entries.now) empty c.in_ok-found.ensures in
    IfOk-weaker c.urls_of.result (λ found. AreUrls c.args.rules.now c.args.name.now c.args.entries.now found.items) (λ found. ArePushUrls c.args.rules.now c.args.name.now c.args.entries.now found.items) (λ found k. inr (none, k)) c.urls_of.ensures

pub returns : goal.returns
returns c =
    let pushed = c.in_ok-found.found in
    inl (c.in_ok-found.ensures, something pushed.items pushed.len c.is_empty.result pushed.ok.0 c.is_empty.ensures c.if-is_empty.false)
