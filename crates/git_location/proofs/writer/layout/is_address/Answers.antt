-- The result of the test for addresses is that of the definitions, and no address lacks a colon.
use Rattle.std.proofs.Common.{◌≡◌, ◌∙◌, ℕ, false, List, sym, subst}
use Rattle.std.proofs.lemmas.Bool.{false_from_ne_true}
use Rattle.git_syntax.specs.Bytes.{colon, FreeOf}
use Rattle.git_syntax.specs.AddressTest.{is_ipv6_text}
use Rattle.git_syntax.proofs.Addresses.AddressLemmas.{address_two_colons}
use Rattle.git_syntax.proofs.Addresses.AddressTestLemmas.{answers_address, ipv6_text_from}
use Rattle.git_syntax.proofs.Texts.CutLemmas.{not_free}
use Rattle.git_location.proofs.writer.layout.is_address.Goals as goal

no_address : (t : List ℕ) → FreeOf colon t → is_ipv6_text t ≡ false
no_address t free = false_from_ne_true _ (λ passes.
    let two = address_two_colons t (ipv6_text_from t passes) in
    not_free colon two.0 _ (subst (FreeOf colon) two.3 free))

pub returns-then-has_colon : goal.returns-then-has_colon
returns-then-has_colon c = answers_address c.is_address.result c.args.host.now c.is_address.ensures

pub returns-else-has_colon : goal.returns-else-has_colon
returns-else-has_colon c = c.if-has_colon.false ∙ sym (no_address c.args.host.now (sym c.if-has_colon.ensures))
