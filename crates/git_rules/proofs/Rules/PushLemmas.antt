-- Texts to push to: by the rules for pushing if one applies, else by those for fetching.
use Rattle.std.proofs.Common.{◌≡◌, ℕ, inl, inr, Bool, true, false, List, sym, ap, subst}
use Rattle.std.specs.Prelude.{is_some}
use Rattle.std.proofs.lemmas.Bool.{both_ways}
use Rattle.git_rules.specs.Rewrites.{Outcome, Rule, Rules, IsRewritten, IsRewrittenToPush, NoneApplies}

-- if a rule won, one applies
some_applies : (rules : List Rule) (text : List ℕ) (o : Outcome) → is_some o.base ≡ true → IsRewritten rules text o → ¬ NoneApplies rules text
some_applies rules text o won (inl (base, rest, none)) = absurd (both_ways (is_some o.base) (ap is_some base) won)
some_applies rules text o won (inr (r, h, base, whole)) = λ none. none r h.0 h.1

-- if none won, none applies
none_applies : (rules : List Rule) (text : List ℕ) (o : Outcome) → is_some o.base ≡ false → IsRewritten rules text o → NoneApplies rules text
none_applies rules text o lost (inl (base, rest, none)) = none
none_applies rules text o lost (inr (r, h, base, whole)) = absurd (both_ways (is_some o.base) lost (ap is_some base))

-- a push URL
pub push_own : (rules : Rules) (own : Bool) (text : List ℕ) (o : Outcome) → own ≡ true → IsRewritten rules.fetching text o → IsRewrittenToPush rules own text o
push_own rules own text o is h = subst (λ b. IsRewrittenToPush rules b text o) (sym is) h

-- a URL that a rule for pushing applies to
pub push_ruled : (rules : Rules) (own : Bool) (text : List ℕ) (o : Outcome) → own ≡ false → is_some o.base ≡ true → IsRewritten rules.pushing text o → IsRewrittenToPush rules own text o
push_ruled rules own text o is won h =
    let some : ¬ NoneApplies rules.pushing text = some_applies rules.pushing text o won h in
    subst (λ b. IsRewrittenToPush rules b text o) (sym is) (inl (some, h))

-- a URL that none applies to
pub push_unruled : (rules : Rules) (own : Bool) (text : List ℕ) (o p : Outcome) → own ≡ false → is_some p.base ≡ false → IsRewritten rules.pushing text p → IsRewritten rules.fetching text o → IsRewrittenToPush rules own text o
push_unruled rules own text o p is lost h k =
    subst (λ b. IsRewrittenToPush rules b text o) (sym is) (inr (none_applies rules.pushing text p lost h, k))
