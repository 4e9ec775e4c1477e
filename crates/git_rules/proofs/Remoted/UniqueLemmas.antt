-- The lists of a remote are determined, and those of one URL are the texts that `Rewrites` returns for a
-- push.
use Rattle.std.proofs.Common.{◌≡◌, ℕ, inl, inr, true, false, List, [], ◌∷◌, ◌++◌, None, refl, sym, ap, subst, ◌∙◌}
use Rattle.std.specs.Prelude.{filter, is_none, is_some, ◌&&◌, if◌then◌else◌}
use Rattle.git_rules.specs.Config.{ConfigEntry}
use Rattle.git_rules.specs.Rewrites.{IsRewritten, IsRewrittenToPush, NoneApplies, Outcome, Rule, Rules}
use Rattle.git_rules.specs.Remotes.{ArePushUrls, AreRewritten, AreRuled, HasPushUrls, first_of, has_none, is_its_own_url, url_key, values_of, vcs_key}
use Rattle.git_rules.specs.RemoteLaws.{HasOnePushUrl, HasOneUrl}
use Rattle.git_rules.proofs.Rules.UniqueLemmas.{one_outcome}
use Rattle.git_rules.proofs.Remoted.UrlLemmas.{push_given, push_ruled, urls_given}

-- ---- one list

-- texts have one list of outcomes
pub one_list : (rules : List Rule) (texts : List (List ℕ)) (a b : List Outcome) → AreRewritten rules texts a → AreRewritten rules texts b → a ≡ b
one_list rules [] [] [] h k = refl
one_list rules [] [] (p ∷ b) h k = absurd k
one_list rules [] (o ∷ a) b h k = absurd h
one_list rules (t ∷ texts) [] b h k = absurd h
one_list rules (t ∷ texts) (o ∷ a) [] h k = absurd k
one_list rules (t ∷ texts) (o ∷ a) (p ∷ b) h k =
    ap (λ x. x ∷ a) (one_outcome rules t o p h.0 k.0) ∙ ap (λ xs. p ∷ xs) (one_list rules texts a b h.1 k.1)

-- and one of those that a rule applies to
one_ruled : (rules : List Rule) (texts : List (List ℕ)) (a b : List Outcome) → AreRuled rules texts a → AreRuled rules texts b → a ≡ b
one_ruled rules texts a b (all, h, is) (others, k, equal) =
    is ∙ ap (filter (λ o. is_some o.base)) (one_list rules texts all others h k) ∙ sym equal

-- a remote has one list of push URLs
one_own_list : (rules : Rules) (remote : List ℕ) (entries : List ConfigEntry) (a b : List Outcome) → HasPushUrls rules remote entries a → HasPushUrls rules remote entries b → a ≡ b
one_own_list rules remote entries a b h k =
    h.joined ∙ ap (λ xs. xs ++ h.ruled) (one_list rules.fetching _ h.configured k.configured h.rewritten k.rewritten) ∙ ap (λ xs. k.configured ++ xs) (one_ruled rules.pushing _ h.ruled k.ruled h.tried k.tried) ∙ sym k.joined

-- Git pushes to one list
pub one_push_list : (rules : Rules) (remote : List ℕ) (entries : List ConfigEntry) (a b : List Outcome) → ArePushUrls rules remote entries a → ArePushUrls rules remote entries b → a ≡ b
one_push_list rules remote entries a b (inl h) (inl k) = one_own_list rules remote entries a b h.0 k.0
one_push_list rules remote entries a b (inl h) (inr k) = absurd (h.1 (one_own_list rules remote entries a [] h.0 k.0))
one_push_list rules remote entries a b (inr h) (inl k) = absurd (k.1 (one_own_list rules remote entries b [] k.0 h.0))
one_push_list rules remote entries a b (inr h) (inr k) = one_list rules.fetching _ a b h.1 k.1

-- ---- one URL

-- a remote with a URL isn't its own
not_own : (remote : List ℕ) (entries : List ConfigEntry) (url : List ℕ) → values_of remote url_key entries ≡ url ∷ [] → is_its_own_url remote entries ≡ false
not_own remote entries url configured = ap (λ vs. is_none (first_of vs) && has_none remote vcs_key entries) configured

-- a list of one isn't empty
filled : (o : Outcome) → ¬ (o ∷ [] ≡ [])
filled o e = cc

-- an outcome of rules that apply has a base
based : (rules : List Rule) (text : List ℕ) (o : Outcome) → ¬ NoneApplies rules text → IsRewritten rules text o → is_some o.base ≡ true
based rules text o some (inl (base, rest, none)) = absurd (some none)
based rules text o some (inr (r, wins, base, cut)) = ap is_some base

-- and one of rules that don't has none
unbased : (rules : List Rule) (text : List ℕ) → NoneApplies rules text → IsRewritten rules text (record { base = None; rest = text })
unbased rules text none = inl (refl, refl, none)

-- the text to which a URL alone is pushed
pub one_url : (rules : Rules) (remote : List ℕ) (entries : List ConfigEntry) (url : List ℕ) (o : Outcome) → HasOneUrl remote entries url → IsRewrittenToPush rules false url o → ArePushUrls rules remote entries (o ∷ [])
one_url rules remote entries url o (configured, none) (inl (some, h)) =
    let kept : o ∷ [] ≡ filter (λ p. is_some p.base) (o ∷ []) =
    sym (ap (λ b. if b then o ∷ [] else []) (based rules.pushing url o some h)) in
    let ruled : AreRuled rules.pushing (values_of remote url_key entries) (o ∷ []) =
    subst (λ vs. AreRuled rules.pushing vs (o ∷ [])) (sym configured) (o ∷ [], (h, tt), kept) in
    inl (push_ruled rules remote entries [] (o ∷ []) (not_own remote entries url configured) (subst (λ vs. AreRewritten rules.fetching vs []) (sym none) tt) refl ruled, filled o)
one_url rules remote entries url o (configured, none) (inr (unruled, h)) =
    let own = not_own remote entries url configured in
    let tried : AreRuled rules.pushing (values_of remote url_key entries) [] =
    subst (λ vs. AreRuled rules.pushing vs []) (sym configured) (record { base = None; rest = url } ∷ [], (unbased rules.pushing url unruled, tt), refl) in
    let fetched : AreRewritten rules.fetching (values_of remote url_key entries) (o ∷ []) =
    subst (λ vs. AreRewritten rules.fetching vs (o ∷ [])) (sym configured) (h, tt) in
    inr (push_ruled rules remote entries [] [] own (subst (λ vs. AreRewritten rules.fetching vs []) (sym none) tt) refl tried, urls_given rules remote entries (o ∷ []) own fetched)

-- the text to which a push URL alone is pushed
pub one_push_url : (rules : Rules) (remote : List ℕ) (entries : List ConfigEntry) (url : List ℕ) (o : Outcome) → HasOnePushUrl remote entries url → IsRewrittenToPush rules true url o → ArePushUrls rules remote entries (o ∷ [])
one_push_url rules remote entries url o (own, configured) h =
    inl (push_given rules remote entries (o ∷ []) own (subst (λ vs. AreRewritten rules.fetching vs (o ∷ [])) (sym configured) (h, tt)) (filled o), filled o)
