-- Lists of URLs that are rewritten, and which of them Git pushes to.
use Rattle.std.proofs.Common.{◌≡◌, ℕ, Bool, ◌==◌, length, true, false, List, [], ◌∷◌, ◌++◌, refl, sym, ap, subst, ◌∙◌, append-nil}
use Rattle.std.specs.Prelude.{filter, is_none, is_some, ◌||◌, if◌then◌else◌}
use Rattle.std.proofs.lemmas.Bool.{eqb-true}
use Rattle.std.proofs.lemmas.List.{nil_from_length}
use Rattle.std.proofs.lemmas.List.Elements.{filter-append}
use Rattle.git_rules.specs.Config.{ConfigEntry}
use Rattle.git_rules.specs.Rewrites.{IsRewritten, Outcome, Rule, Rules}
use Rattle.git_rules.specs.Remotes.{AddsRuled, AreRewritten, AreRuled, AreUrls, HasPushUrls, first_of, has_none, is_its_own_url, pushurl_key, tried_urls, url_key, values_of}

-- ---- one text more

-- one text more that is rewritten
pub rewritten-push : (rules : List Rule) (texts : List (List ℕ)) (outcomes : List Outcome) (t : List ℕ) (o : Outcome) → AreRewritten rules texts outcomes → IsRewritten rules t o → AreRewritten rules (texts ++ t ∷ []) (outcomes ++ o ∷ [])
rewritten-push rules [] [] t o h k = (k, tt)
rewritten-push rules [] (p ∷ outcomes) t o h k = absurd h
rewritten-push rules (u ∷ texts) [] t o h k = absurd h
rewritten-push rules (u ∷ texts) (p ∷ outcomes) t o h k = (h.0, rewritten-push rules texts outcomes t o h.1 k)

-- the same of lists that are equal to these
pub rewritten_more : (rules : List Rule) (all texts : List (List ℕ)) (t : List ℕ) (old new : List Outcome) (o : Outcome) → all ≡ texts ++ t ∷ [] → new ≡ old ++ o ∷ [] → AreRewritten rules texts old → IsRewritten rules t o → AreRewritten rules all new
rewritten_more rules all texts t old new o more added h k =
    subst (λ ts. AreRewritten rules ts new) (sym more) (subst (AreRewritten rules (texts ++ t ∷ [])) (sym added) (rewritten-push rules texts old t o h k))

-- the same if no text is added
pub rewritten_kept : (rules : List Rule) (all texts : List (List ℕ)) (old new : List Outcome) → all ≡ texts → new ≡ old → AreRewritten rules texts old → AreRewritten rules all new
rewritten_kept rules all texts old new same kept h =
    subst (λ ts. AreRewritten rules ts new) (sym same) (subst (AreRewritten rules texts) (sym kept) h)

-- one text more that a rule may apply to
pub ruled-push : (rules : List Rule) (texts : List (List ℕ)) (t : List ℕ) (old new : List Outcome) → AreRuled rules texts old → AddsRuled rules t old new → AreRuled rules (texts ++ t ∷ []) new
ruled-push rules texts t old new (outcomes, h, is) (o, k, added) =
    let test = λ (p : Outcome). is_some p.base in
    (outcomes ++ o ∷ [], rewritten-push rules texts outcomes t o h k, added ∙ ap (λ os. os ++ filter test (o ∷ [])) is ∙ sym (filter-append test outcomes (o ∷ [])))

-- ---- the URLs of a remote

-- those of its entries
pub urls_given : (rules : Rules) (remote : List ℕ) (entries : List ConfigEntry) (found : List Outcome) → is_its_own_url remote entries ≡ false → AreRewritten rules.fetching (values_of remote url_key entries) found → AreUrls rules remote entries found
urls_given rules remote entries found own h =
    subst (λ b. AreRewritten rules.fetching (if b then remote ∷ [] else values_of remote url_key entries) found) (sym own) h

-- ---- push URLs

-- its name is tried
tried_own : (remote : List ℕ) (entries : List ConfigEntry) → is_its_own_url remote entries ≡ true → tried_urls remote entries ≡ remote ∷ []
tried_own remote entries own =
    ap (λ b. if b || has_none remote pushurl_key entries then (if b then remote ∷ [] else values_of remote url_key entries) else []) own

-- its URLs are tried, or none
tried_given : (remote : List ℕ) (entries : List ConfigEntry) → is_its_own_url remote entries ≡ false → tried_urls remote entries ≡ (if has_none remote pushurl_key entries then values_of remote url_key entries else [])
tried_given remote entries own =
    ap (λ b. if b || has_none remote pushurl_key entries then (if b then remote ∷ [] else values_of remote url_key entries) else []) own

-- no text makes no outcome
none_rewritten : (rules : List Rule) (texts : List (List ℕ)) → AreRewritten rules texts [] → texts ≡ []
none_rewritten rules [] h = refl
none_rewritten rules (t ∷ texts) h = absurd h

-- and outcomes come from texts
some_rewritten : (rules : List Rule) (texts : List (List ℕ)) (found : List Outcome) → AreRewritten rules texts found → ¬ (found ≡ []) → is_none (first_of texts) ≡ false
some_rewritten rules [] [] h some = absurd (some refl)
some_rewritten rules [] (o ∷ found) h some = absurd h
some_rewritten rules (t ∷ texts) found h some = refl

-- the push URLs of a remote whose name is its URL
pub push_own : (rules : Rules) (remote : List ℕ) (entries : List ConfigEntry) (old new : List Outcome) → is_its_own_url remote entries ≡ true → AreRewritten rules.fetching (values_of remote pushurl_key entries) old → AddsRuled rules.pushing remote old new → HasPushUrls rules remote entries new
push_own rules remote entries old new own h (o, k, added) = record {
  configured = old;
  ruled = filter (λ p. is_some p.base) (o ∷ []);
  rewritten = h;
  tried = subst (λ texts. AreRuled rules.pushing texts (filter (λ p. is_some p.base) (o ∷ []))) (sym (tried_own remote entries own)) (o ∷ [], (k, tt), refl);
  joined = added;
}

-- the push URLs of a remote that has none of its own
pub push_ruled : (rules : Rules) (remote : List ℕ) (entries : List ConfigEntry) (configured found : List Outcome) → is_its_own_url remote entries ≡ false → AreRewritten rules.fetching (values_of remote pushurl_key entries) configured → configured ≡ [] → AreRuled rules.pushing (values_of remote url_key entries) found → HasPushUrls rules remote entries found
push_ruled rules remote entries configured found own h empty k =
    let none : values_of remote pushurl_key entries ≡ [] = none_rewritten rules.fetching _ (subst (AreRewritten rules.fetching (values_of remote pushurl_key entries)) empty h) in
    let all : tried_urls remote entries ≡ values_of remote url_key entries =
    tried_given remote entries own ∙ ap (λ vs. if is_none (first_of vs) then values_of remote url_key entries else []) none in
    record {
      configured = [];
      ruled = found;
      rewritten = subst (AreRewritten rules.fetching (values_of remote pushurl_key entries)) empty h;
      tried = subst (λ texts. AreRuled rules.pushing texts found) (sym all) k;
      joined = refl;
    }

-- the push URLs of a remote that has some of its own
pub push_given : (rules : Rules) (remote : List ℕ) (entries : List ConfigEntry) (found : List Outcome) → is_its_own_url remote entries ≡ false → AreRewritten rules.fetching (values_of remote pushurl_key entries) found → ¬ (found ≡ []) → HasPushUrls rules remote entries found
push_given rules remote entries found own h some =
    let some_given : has_none remote pushurl_key entries ≡ false = some_rewritten rules.fetching _ found h some in
    let all : tried_urls remote entries ≡ [] =
    tried_given remote entries own ∙ ap (λ b. if b then values_of remote url_key entries else []) some_given in
    record {
      configured = found;
      ruled = [];
      rewritten = h;
      tried = subst (λ texts. AreRuled rules.pushing texts []) (sym all) ([], tt, refl);
      joined = sym (append-nil found);
    }

-- ---- empty lists

-- a list that is tested to have no length is empty
pub nothing : (xs : List Outcome) (n : ℕ) (r : Bool) → n ≡ length xs → r ≡ (n == 0) → r ≡ true → xs ≡ []
nothing xs n r size test is = nil_from_length xs (sym size ∙ eqb-true n 0 (sym test ∙ is))

-- one that is tested to have a length isn't
pub something : (xs : List Outcome) (n : ℕ) (r : Bool) → n ≡ length xs → r ≡ (n == 0) → r ≡ false → ¬ (xs ≡ [])
something xs n r size test is empty =
    let wrong : true ≡ false = ap (λ (ys : List Outcome). length ys == 0) (sym empty) ∙ ap (λ k. k == 0) (sym size) ∙ sym test ∙ is in cc
