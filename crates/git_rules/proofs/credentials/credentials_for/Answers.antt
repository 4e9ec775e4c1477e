-- The URL has no normal form.
use Rattle.std.proofs.Common.{◌∙◌, false, subst}
use Rattle.std.proofs.lemmas.Bool.{both_ways}
use Rattle.git_rules.specs.Normal.{IsNormalOf, NormalPlace}
use Rattle.git_rules.proofs.Matched.EntryLemmas.{no_form}
use Rattle.git_rules.proofs.credentials.credentials_for.Goals as goal

pub all_used-requires-else-is_short_buffer : goal.all_used-requires-else-is_short_buffer
all_used-requires-else-is_short_buffer c =
    let none = no_form false c.deref.result.now _ c.in-Err.error (λ same. both_ways _ c.if-is_short_buffer.false (c.is_short_buffer.ensures.1 same)) c.in-Err.ensures in
    subst (λ t. (n : NormalPlace) → ¬ IsNormalOf false t n) (c.deref.ensures.value ∙ c.in_ok-url.ensures) none
