-- Each part decides if those before it don't.
use Rattle.std.proofs.Common.{rules, ◌≡◌, nat_cmp}
use Rattle.std.specs.Option.{option_cmp}
use Rattle.std.specs.Ordering.{bool_cmp}
use Rattle.git_laws.specs.Order.{bytes_cmp, scheme_cmp, text_cmp}
use Rattle.git_laws.proofs.Order.OrderLemmas.{before, found, known}
use Rattle.gix_url.proofs.order.UrlOrd.cmp.Goals as goal

pub returns : goal.returns
returns c =
    let v = c.args.self.now in
    let w = c.args.other.now in
    let scheme : c.compare.result ≡ scheme_cmp v.scheme w.scheme = search rules in
    let user = found c.compare.result (text_cmp v.user w.user) c.then_with.result c.then_with.ensures (λ h. search rules) in
    let password = found c.then_with.result (text_cmp v.password w.password) c.then_with-2.result c.then_with-2.ensures (λ h. search rules) in
    let host = found c.then_with-2.result (text_cmp v.host w.host) c.then_with-3.result c.then_with-3.ensures (λ h. search rules) in
    let flag = found c.then_with-3.result (bool_cmp v.flag w.flag) c.then_with-4.result c.then_with-4.ensures (λ h. search rules) in
    let port = found c.then_with-4.result (option_cmp nat_cmp v.port w.port) c.then_with-5.result c.then_with-5.ensures (λ h. search rules) in
    let path = found c.then_with-5.result (bytes_cmp v.path w.path) c.then_with-6.result c.then_with-6.ensures (λ h. search rules) in
    let spelling = found c.then_with-6.result (text_cmp v.spelling w.spelling) c.then_with-7.result c.then_with-7.ensures (λ h. search rules) in
    (before (known scheme user) (before password (before host (before flag (before port (before path spelling)))))).is
