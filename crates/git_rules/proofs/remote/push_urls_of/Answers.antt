use Rattle.std.proofs.Common.{sym, ◌∙◌}
use Rattle.std.proofs.lemmas.Result.{IfOk-weaker}
use Rattle.git_rules.specs.Remotes.{AreRuled, HasPushUrls, url_key, values_of}
use Rattle.git_rules.proofs.Remoted.UrlLemmas.{nothing, push_given, push_own, push_ruled, something}
use Rattle.git_rules.proofs.remote.push_urls_of.Goals as goal

pub returns-then-is_its_own_url : goal.returns-then-is_its_own_url
returns-then-is_its_own_url c =
    push_own c.args.rules.now c.args.name.now c.args.entries.now c.in_ok-found.found.items c.push_ruled.new.found.items (sym c.is_its_own_url.ensures ∙ c.if-is_its_own_url.true) c.in_ok-found.ensures c.in_ok-push_ruled.ensures

pub returns-then-is_empty : goal.returns-then-is_empty
returns-then-is_empty c =
    let configured = c.in_ok-found.found in
    let empty = nothing configured.items configured.len c.is_empty.result configured.ok.0 c.is_empty.ensures c.if-is_empty.true in
    IfOk-weaker c.ruled_urls.result (λ found. AreRuled c.args.rules.now.pushing (values_of c.args.name.now url_key c.args.entries.now) found.items) (λ found. HasPushUrls c.args.rules.now c.args.name.now c.args.entries.now found.items) (λ found k. push_ruled c.args.rules.now c.args.name.now c.args.entries.now configured.items found.items (sym c.is_its_own_url.ensures ∙ c.if-is_its_own_url.false) c.in_ok-found.ensures empty k) c.ruled_urls.ensures

pub returns : goal.returns
returns c =
    let configured = c.in_ok-found.found in
    let some = something configured.items configured.len c.is_empty.result configured.ok.0 c.is_empty.ensures c.if-is_empty.false in
    push_given c.args.rules.now c.args.name.now c.args.entries.now configured.items (sym c.is_its_own_url.ensures ∙ c.if-is_its_own_url.false) c.in_ok-found.ensures some
