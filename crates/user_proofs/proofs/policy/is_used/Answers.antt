-- The entries of the section decide as all entries do.
use Rattle.std.proofs.Common.{◌≡◌, ◌∙◌, ℕ, Bool, List, None, codes, subst}
use Rattle.git_rules.specs.Config.{ConfigEntry, of_section}
use Rattle.git_rules.specs.Protocols.{Decides, SectionDecides}
use Rattle.user_proofs.specs.Policy.{DecidesUse}
use Rattle.user_proofs.proofs.policy.is_used.Goals as goal

by_all : SectionDecides → (entries own : List ConfigEntry) (name : List ℕ) (used : Bool) → own ≡ of_section (codes "protocol") entries → DecidesUse own name used → DecidesUse entries name used
by_all law entries own name used is (decision, decides, allowed) =
    let same = law (record { entries = entries; allow_list = None; from_user = None }) name decision in
    (decision, same.1 (subst (λ it. Decides (record { entries = it; allow_list = None; from_user = None }) name decision) is decides), allowed)

pub returns : goal.returns
returns c = by_all c.law_section.ensures c.args.entries.now _ _ _ (c.deref.ensures.value ∙ c.in_ok-of_protocol.ensures) c.is_used_by.ensures
