-- The last entry that sets a key is the last one among those of the section, and the other way round.
use Rattle.std.proofs.Common.{◌≡◌, ℕ, Bool, true, false, ◌&&◌, cond, codes, List, [], ◌∷◌, ◌++◌, Option, Some, None, All, refl, sym, subst, ap, ◌∙◌, inl, inr}
use Rattle.std.specs.List.{filter}
use Rattle.std.proofs.lemmas.Bool.{both_ways}
use Rattle.std.proofs.lemmas.List.Elements.{All-cons, All-filter, All-head, All-tail, filter-append}
use Rattle.git_rules.specs.Config.{ConfigEntry, has_name, is_of_section, of_section}
use Rattle.git_rules.specs.Policies.{Policy}
use Rattle.git_rules.specs.Protocols.{Counts, DecidesBy, IsLastOf, SectionDecides, SetsAllow, of_protocol}
use Rattle.git_rules.specs.declared.protocols.Permission.{Permission}

module _ (P : ConfigEntry → Type 0) (q : ConfigEntry → Bool) (passes : (e : ConfigEntry) → P e → q e ≡ true) where
  -- the last one is the last of those that pass
  pub last_kept : (es : List ConfigEntry) (o : Option ConfigEntry) → IsLastOf P es o → IsLastOf P (filter q es) o
  last_kept es None none = All-filter q (λ e. ¬ P e) es none
  last_kept es (Some last) (before, after, whole, has, none) =
      let cut : filter q es ≡ filter q before ++ filter q (last ∷ after) = ap (filter q) whole ∙ filter-append q before (last ∷ after) in
      let here : filter q (last ∷ after) ≡ last ∷ filter q after = ap (λ b. cond b (last ∷ filter q after) (filter q after)) (passes last has) in
      (filter q before, filter q after, cut ∙ ap (λ rest. filter q before ++ rest) here, has, All-filter q (λ e. ¬ P e) after none)

  none_by : (e : ConfigEntry) (es : List ConfigEntry) (b : Bool) → q e ≡ b → All (λ e. ¬ P e) (cond b (e ∷ filter q es) (filter q es)) → (All (λ e. ¬ P e) (filter q es) → All (λ e. ¬ P e) es) → All (λ e. ¬ P e) (e ∷ es)
  none_by e es true is none rest = All-cons (λ e. ¬ P e) e es (All-head (λ e. ¬ P e) e (filter q es) none) (rest (All-tail (λ e. ¬ P e) e (filter q es) none))
  none_by e es false is none rest = All-cons (λ e. ¬ P e) e es (λ has. both_ways (q e) is (passes e has)) (rest none)

  -- none has the property if none that passes has it
  none_back : (es : List ConfigEntry) → All (λ e. ¬ P e) (filter q es) → All (λ e. ¬ P e) es
  none_back [] none = none
  none_back (e ∷ es) none = none_by e es (q e) refl none (none_back es)

  -- one entry more before the last one
  last_more : (e : ConfigEntry) (es : List ConfigEntry) (last : ConfigEntry) → IsLastOf P es (Some last) → IsLastOf P (e ∷ es) (Some last)
  last_more e es last (before, after, whole, has, none) = (e ∷ before, after, ap (λ rest. e ∷ rest) whole, has, none)

  last_by : (e : ConfigEntry) (es : List ConfigEntry) (last : ConfigEntry) (b : Bool) (before after : List ConfigEntry) → cond b (e ∷ filter q es) (filter q es) ≡ before ++ last ∷ after → P last → All (λ e. ¬ P e) after → ((front : List ConfigEntry) → filter q es ≡ front ++ last ∷ after → IsLastOf P es (Some last)) → IsLastOf P (e ∷ es) (Some last)
  last_by e es last true [] after whole has none rest =
      let head : e ≡ last = cc in
      let tail : filter q es ≡ after = cc in
      ([], es, ap (λ x. x ∷ es) head, has, none_back es (subst (λ l. All (λ e. ¬ P e) l) (sym tail) none))
  last_by e es last true (d ∷ before) after whole has none rest =
      let tail : filter q es ≡ before ++ last ∷ after = cc in
      last_more e es last (rest before tail)
  last_by e es last false before after whole has none rest = last_more e es last (rest before whole)

  no_last : (before after : List ConfigEntry) (last : ConfigEntry) → ¬ ([] ≡ before ++ last ∷ after)
  no_last [] after last same = absurd (cc)
  no_last (d ∷ before) after last same = absurd (cc)

  -- the last of those that pass is the last one
  pub last_back : (es : List ConfigEntry) (o : Option ConfigEntry) → IsLastOf P (filter q es) o → IsLastOf P es o
  last_back es None none = none_back es none
  last_back [] (Some last) (before, after, whole, has, none) = absurd (no_last before after last whole)
  last_back (e ∷ es) (Some last) (before, after, whole, has, none) =
      last_by e es last (q e) before after whole has none (λ front tail. last_back es (Some last) (front, after, tail, has, none))

-- a variable of a section is set by an entry of the section
first_true : (a b : Bool) → a && b ≡ true → a ≡ true
first_true true b h = refl
first_true false b h = h

-- the entries of the section
abbrev protocol_entries : List ConfigEntry → List ConfigEntry
protocol_entries entries = of_section (codes "protocol") entries

sets_there : (name : Option (List ℕ)) (e : ConfigEntry) → SetsAllow name e → is_of_section (codes "protocol") e ≡ true
sets_there name e h = first_true (is_of_section (codes "protocol") e) (has_name (codes "allow") e) h.0

allow_kept : (name : Option (List ℕ)) (entries : List ConfigEntry) (o : Option ConfigEntry) → IsLastOf (SetsAllow name) entries o → IsLastOf (SetsAllow name) (protocol_entries entries) o
allow_kept name = last_kept (SetsAllow name) (is_of_section (codes "protocol")) (sets_there name)

allow_back : (name : Option (List ℕ)) (entries : List ConfigEntry) (o : Option ConfigEntry) → IsLastOf (SetsAllow name) (protocol_entries entries) o → IsLastOf (SetsAllow name) entries o
allow_back name = last_back (SetsAllow name) (is_of_section (codes "protocol")) (sets_there name)

-- the entry that counts is that of the section
counts_kept : (entries : List ConfigEntry) (name : List ℕ) (o : Option ConfigEntry) → Counts entries name o → Counts (protocol_entries entries) name o
counts_kept entries name None h = (allow_kept (Some name) entries None h.0, allow_kept None entries None h.1)
counts_kept entries name (Some e) (inl h) = inl (allow_kept (Some name) entries (Some e) h)
counts_kept entries name (Some e) (inr h) = inr (allow_kept (Some name) entries None h.0, allow_kept None entries (Some e) h.1)

counts_back : (entries : List ConfigEntry) (name : List ℕ) (o : Option ConfigEntry) → Counts (protocol_entries entries) name o → Counts entries name o
counts_back entries name None h = (allow_back (Some name) entries None h.0, allow_back None entries None h.1)
counts_back entries name (Some e) (inl h) = inl (allow_back (Some name) entries (Some e) h)
counts_back entries name (Some e) (inr h) = inr (allow_back (Some name) entries None h.0, allow_back None entries (Some e) h.1)

-- ---- the decision

decides_kept : (list : Option (List ℕ)) (policy : Policy) (name : List ℕ) (r : Permission) → DecidesBy list policy name r → DecidesBy list (of_protocol policy) name r
decides_kept (Some list) policy name r is = is
decides_kept None policy name r (chosen, counts, is) = (chosen, counts_kept policy.entries name chosen counts, is)

decides_back : (list : Option (List ℕ)) (policy : Policy) (name : List ℕ) (r : Permission) → DecidesBy list (of_protocol policy) name r → DecidesBy list policy name r
decides_back (Some list) policy name r is = is
decides_back None policy name r (chosen, counts, is) = (chosen, counts_back policy.entries name chosen counts, is)

-- Git's decision about a transport is the same by the entries of the section as by all
pub section_decides : SectionDecides
section_decides policy name r = (decides_kept policy.allow_list policy name r, decides_back policy.allow_list policy name r)
