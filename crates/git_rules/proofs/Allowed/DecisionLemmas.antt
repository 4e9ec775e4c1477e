-- One entry is the last that sets a key, one entry counts for a transport, and Git decides in one way.
use Rattle.std.proofs.Common.{◌≡◌, ℕ, List, [], ◌∷◌, ◌++◌, Option, Some, None, All, refl, sym, subst, ap, ◌∙◌, inl, inr}
use Rattle.std.proofs.lemmas.List.Elements.{All-head, All-tail}
use Rattle.git_rules.specs.Config.{ConfigEntry}
use Rattle.git_rules.specs.Policies.{Policy}
use Rattle.git_rules.specs.Protocols.{Counts, Decides, DecidesBy, IsLastOf, SetsAllow, by_entry}
use Rattle.git_rules.specs.declared.protocols.Permission.{Permission}

module _ (P : ConfigEntry → Type 0) where
  abbrev Lacks : ConfigEntry → Type 0
  Lacks e = ¬ P e

  -- a property that no entry has is one that no entry among them has
  lacked : (before after : List ConfigEntry) (e : ConfigEntry) → All Lacks (before ++ e ∷ after) → ¬ P e
  lacked [] after e none = All-head Lacks e after none
  lacked (b ∷ before) after e none = lacked before after e (All-tail Lacks b (before ++ e ∷ after) none)

  -- two that are the last in one list are one
  ends_alike : (before after front suffix : List ConfigEntry) (e f : ConfigEntry) → before ++ e ∷ after ≡ front ++ f ∷ suffix → P e → P f → All Lacks after → All Lacks suffix → e ≡ f
  ends_alike [] after [] suffix e f same has holds none no_other = cc
  ends_alike [] after (g ∷ front) suffix e f same has holds none no_other =
      let tail : after ≡ front ++ f ∷ suffix = cc in
      absurd (lacked front suffix f (subst (λ l. All Lacks l) tail none) holds)
  ends_alike (b ∷ before) after [] suffix e f same has holds none no_other =
      let tail : suffix ≡ before ++ e ∷ after = cc in
      absurd (lacked before after e (subst (λ l. All Lacks l) tail no_other) has)
  ends_alike (b ∷ before) after (g ∷ front) suffix e f same has holds none no_other =
      let tail : before ++ e ∷ after ≡ front ++ f ∷ suffix = cc in
      ends_alike before after front suffix e f tail has holds none no_other

  -- a list has one last entry with the property, or none
  pub one_last : (entries : List ConfigEntry) (o q : Option ConfigEntry) → IsLastOf P entries o → IsLastOf P entries q → o ≡ q
  one_last entries None None none no_other = refl
  one_last entries None (Some f) none (front, suffix, same, holds, no_other) = absurd (lacked front suffix f (subst (λ l. All Lacks l) same none) holds)
  one_last entries (Some e) None (before, after, is, has, none) no_other = absurd (lacked before after e (subst (λ l. All Lacks l) is no_other) has)
  one_last entries (Some e) (Some f) (before, after, is, has, none) (front, suffix, same, holds, no_other) =
      ap Some (ends_alike before after front suffix e f (sym is ∙ same) has holds none no_other)

-- one entry counts for a transport, or none
pub one_counts : (entries : List ConfigEntry) (name : List ℕ) (o q : Option ConfigEntry) → Counts entries name o → Counts entries name q → o ≡ q
one_counts entries name None None h k = refl
one_counts entries name None (Some f) h (inl k) = one_last (SetsAllow (Some name)) entries None (Some f) h.0 k
one_counts entries name None (Some f) h (inr k) = one_last (SetsAllow None) entries None (Some f) h.1 k.1
one_counts entries name (Some e) None (inl h) k = one_last (SetsAllow (Some name)) entries (Some e) None h k.0
one_counts entries name (Some e) None (inr h) k = one_last (SetsAllow None) entries (Some e) None h.1 k.1
one_counts entries name (Some e) (Some f) (inl h) (inl k) = one_last (SetsAllow (Some name)) entries (Some e) (Some f) h k
one_counts entries name (Some e) (Some f) (inl h) (inr k) = let wrong : Some e ≡ None = one_last (SetsAllow (Some name)) entries (Some e) None h k.0 in cc
one_counts entries name (Some e) (Some f) (inr h) (inl k) = let wrong : None ≡ Some f = one_last (SetsAllow (Some name)) entries None (Some f) h.0 k in cc
one_counts entries name (Some e) (Some f) (inr h) (inr k) = one_last (SetsAllow None) entries (Some e) (Some f) h.1 k.1

one_decision_by : (list : Option (List ℕ)) (policy : Policy) (name : List ℕ) (r s : Permission) → DecidesBy list policy name r → DecidesBy list policy name s → r ≡ s
one_decision_by (Some list) policy name r s is same = is ∙ sym same
one_decision_by None policy name r s (o, counts, is) (q, alike, same) =
    is ∙ ap (λ c. by_entry name c policy.from_user) (one_counts policy.entries name o q counts alike) ∙ sym same

-- Git decides in one way about a transport
pub one_decision : (policy : Policy) (name : List ℕ) (r s : Permission) → Decides policy name r → Decides policy name s → r ≡ s
one_decision policy name r s is same = one_decision_by policy.allow_list policy name r s is same

-- without a list Git decides by the entry that counts
pub decides-by_entry : (policy : Policy) (name : List ℕ) (r : Permission) (chosen : Option ConfigEntry) → policy.allow_list ≡ None → Counts policy.entries name chosen → r ≡ by_entry name chosen policy.from_user → Decides policy name r
decides-by_entry policy name r chosen unset counts is = subst (λ list. DecidesBy list policy name r) (sym unset) (chosen, counts, is)
