-- The two halves are the lemmas on the test.
use Rattle.git_syntax.proofs.Addresses.AddressTestLemmas.{ipv6_text_from, ipv6_text_to}
use Rattle.git_syntax.proofs.address_law.law_address_test.Goals as goal

pub returns : goal.returns
returns c = record { decides = λ t. (ipv6_text_from t, ipv6_text_to t) }
