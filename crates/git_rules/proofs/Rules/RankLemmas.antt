-- Ranks: how many rules come before the first with a base, and that a rule more changes none; the records of
-- them.
use Rattle.std.proofs.Common.{◌≡◌, ℕ, suc, zero, ◌+◌, ◌<◌, ◌≤◌, Bool, true, false, cond, bytes_eq, List, [], ◌∷◌, ◌++◌, Option, Some, None, BTreeMap, Bor, length, take, drop, get_or, map, unwrap_or, inl, inr, refl, sym, ap, subst, ◌∙◌, add-one, append_assoc, arith}
use Rattle.std.specs.Bool.{Decides}
use Rattle.std.specs.List.{slice_get, slice_index_or}
use Rattle.std.specs.Prelude.{nat_lt}
use borrow.Author.Tests.{ltb-true}
use Rattle.std.proofs.lemmas.Bool.{both_ways}
use Rattle.std.proofs.lemmas.Option.{slice_get_read}
use Rattle.std.proofs.Math.Seq.{drop-cons, take-suc}
use Rattle.std.proofs.lemmas.List.{length-map, take-append-drop}
use Rattle.std.proofs.lemmas.Slice.Eq.{bytes_eq-Decides}
use Rattle.git_rules.specs.Rewrites.{Rule, ComesNoLater, LacksBase}
use Rattle.git_rules.specs.RuleTable.{HasBaseAt, HasNextRank, HasRank, IsNoted, IsRankIn, NotesAlso, NotesRanks, noted, rule_of}
use Rattle.git_rules.specs.declared.rewrite.table.Kept.{Kept}

-- joined rules lack a base that both lack
lacks_base-append : (base : List ℕ) (a b : List Rule) → LacksBase base a → LacksBase base b → LacksBase base (a ++ b)
lacks_base-append base [] b f g = g
lacks_base-append base (r ∷ a) b f g = (f.0, lacks_base-append base a b f.1 g)

-- items are those before one, it, and those after it
pub cut_here : {A : Type 0} (xs : List A) (i : ℕ) (d : A) → i < length xs → xs ≡ take i xs ++ get_or xs i d ∷ drop (suc i) xs
cut_here xs i d within = sym (take-append-drop i xs) ∙ ap (λ rest. take i xs ++ rest) (drop-cons xs i d within)

-- the items before one, and it
pub front_more : {A : Type 0} (xs : List A) (i : ℕ) (x : A) → i < length xs → x ≡ get_or xs i x → take i xs ++ x ∷ [] ≡ take (i + 1) xs
front_more xs i x within at =
    ap (λ y. take i xs ++ y ∷ []) at ∙ sym (take-suc xs i x within) ∙ ap (λ n. take n xs) (sym (add-one i))

-- ---- a rule more

-- a rule more, after the others, changes no rank
pub rank_kept : (rules : List Rule) (r : Rule) (base : List ℕ) (rank : ℕ) → HasRank rules base rank → HasRank (rules ++ r ∷ []) base rank
rank_kept rules r base rank (before, first, others, whole, same, lacks, size) =
    (before, first, others ++ r ∷ [], ap (λ rs. rs ++ r ∷ []) whole ∙ append_assoc before (first ∷ others) (r ∷ []), same, lacks, size)

-- and its base has the rank that comes next
pub rank_added : (rules : List Rule) (r : Rule) (rank : ℕ) → HasNextRank rules r.base rank → HasRank (rules ++ r ∷ []) r.base rank
rank_added rules r rank (inl h) = rank_kept rules r r.base rank h
rank_added rules r rank (inr (lacks, size)) = (rules, r, [], refl, refl, lacks, size)

-- ---- the rank that is noted

-- a rule that was read at a place is there
read_here : (kept : List Kept) (at : ℕ) (r : Kept) → true ≡ nat_lt at (length kept) → r ≡ slice_index_or kept at r → slice_get kept at ≡ Some r
read_here kept at r within is = slice_get_read kept (length kept) at r refl (ltb-true at (length kept) (sym within)) is

-- its base
pub base_here : (kept : List Kept) (at : ℕ) (r : Kept) (base : List ℕ) → true ≡ nat_lt at (length kept) → r ≡ slice_index_or kept at r → r.base.now ≡ base → HasBaseAt kept at base
base_here kept at r base within is same = (r, read_here kept at r within is, same)

-- and no other
pub base_there : (kept : List Kept) (at : ℕ) (r : Kept) (base : List ℕ) → true ≡ nat_lt at (length kept) → r ≡ slice_index_or kept at r → HasBaseAt kept at base → r.base.now ≡ base
base_there kept at r base within is (s, found, same) =
    let read = read_here kept at r within is in
    let one : r ≡ s = cc in
    ap (λ x. x.base.now) one ∙ same

-- a base at a place isn't lacking
base_found : (kept : List Kept) (at : ℕ) (base : List ℕ) → HasBaseAt kept at base → ¬ LacksBase base (map rule_of kept)
base_found [] at base (r, found, same) = λ lacks. absurd (cc)
base_found (k ∷ kept) zero base (r, found, same) = λ lacks.
    let head : k ≡ r = cc in
    lacks.0 (ap (λ z. z.base.now) head ∙ same)
base_found (k ∷ kept) (suc at) base (r, found, same) = λ lacks. base_found kept at base (r, found, same) lacks.1

-- the rule after so many is at this place
found_at : (kept : List Kept) (before : List Rule) (first : Rule) (others : List Rule) (base : List ℕ) (rank : ℕ) → map rule_of kept ≡ before ++ first ∷ others → first.base ≡ base → length before ≡ rank → HasBaseAt kept rank base
found_at [] [] first others base rank whole same size = absurd (cc)
found_at [] (b ∷ before) first others base rank whole same size = absurd (cc)
found_at (k ∷ kept) [] first others base zero whole same size =
    let head : rule_of k ≡ first = cc in
    (k, refl, ap (λ z. z.base) head ∙ same)
found_at (k ∷ kept) [] first others base (suc rank) whole same size = absurd (omega arith)
found_at (k ∷ kept) (b ∷ before) first others base zero whole same size = absurd (omega arith)
found_at (k ∷ kept) (b ∷ before) first others base (suc rank) whole same size =
    let tail : map rule_of kept ≡ before ++ first ∷ others = cc in
    found_at kept before first others base rank tail same (omega arith)

-- the first rule with a base is at its rank
ranked_at : (kept : List Kept) (base : List ℕ) (rank : ℕ) → HasRank (map rule_of kept) base rank → HasBaseAt kept rank base
ranked_at kept base rank (before, first, others, whole, same, lacks, size) = found_at kept before first others base rank whole same size

-- a rank is noted, and the rule there has the base
pub rank_known : (kept : List Kept) (base : List ℕ) (entry : Option ℕ) (at : ℕ) → entry ≡ Some at → HasBaseAt kept at base → IsNoted (map rule_of kept) base entry → HasRank (map rule_of kept) base at
rank_known kept base entry at is found (inl (rank, noted, h)) =
    let same : rank ≡ at = cc in
    subst (HasRank (map rule_of kept) base) same h
rank_known kept base entry at is found (inr lacks) = absurd (base_found kept at base found lacks)

-- a rank is noted, and the rule there has another base
pub rank_unknown : (kept : List Kept) (base : List ℕ) (entry : Option ℕ) (at : ℕ) → entry ≡ Some at → ¬ HasBaseAt kept at base → IsNoted (map rule_of kept) base entry → LacksBase base (map rule_of kept)
rank_unknown kept base entry at is missing (inl (rank, noted, h)) =
    let same : rank ≡ at = cc in
    absurd (missing (ranked_at kept base at (subst (HasRank (map rule_of kept) base) same h)))
rank_unknown kept base entry at is missing (inr lacks) = lacks

-- ---- the notes of all ranks

-- the record for another base stays correct
noted_kept : (rules : List Rule) (r : Rule) (base : List ℕ) (entry : Option ℕ) → ¬ (r.base ≡ base) → IsNoted rules base entry → IsNoted (rules ++ r ∷ []) base entry
noted_kept rules r base entry other (inl (rank, is, h)) = inl (rank, is, rank_kept rules r base rank h)
noted_kept rules r base entry other (inr lacks) = inr (lacks_base-append base rules (r ∷ []) lacks (other, tt))

-- the next rank of a base, though its rule isn't there
next_noted : (rules : List Rule) (base : List ℕ) (rank : ℕ) → HasNextRank rules base rank → IsNoted rules base (Some rank)
next_noted rules base rank (inl h) = inl (rank, refl, h)
next_noted rules base rank (inr (lacks, size)) = inr lacks

-- the record stays correct if the next rank of a base is recorded
either_noted : (rules : List Rule) (own base : List ℕ) (rank : ℕ) (entry : Option ℕ) (here : Bool) → Decides here (own ≡ base) → HasNextRank rules own rank → IsNoted rules base entry → IsNoted rules base (cond here (Some rank) entry)
either_noted rules own base rank entry true is h was = subst (λ b. IsNoted rules b (Some rank)) (is.0 refl) (next_noted rules own rank h)
either_noted rules own base rank entry false is h was = was

-- ranks that are noted, with the next rank of a base
pub ranks_noted : (rules : List Rule) (base : List ℕ) (rank : ℕ) (ranks after : BTreeMap (Bor (List ℕ)) ℕ) → NotesRanks rules ranks → HasNextRank rules base rank → NotesAlso ranks base rank after → NotesRanks rules after
ranks_noted rules base rank ranks after h next also =
    λ other. subst (IsNoted rules other) (sym (also other)) (either_noted rules base other rank (noted ranks other) (bytes_eq base other) (bytes_eq-Decides base other) next (h other))

-- and with its rule
either_more : (rules : List Rule) (r : Rule) (base : List ℕ) (rank : ℕ) (entry : Option ℕ) (here : Bool) → Decides here (r.base ≡ base) → HasNextRank rules r.base rank → IsNoted rules base entry → IsNoted (rules ++ r ∷ []) base (cond here (Some rank) entry)
either_more rules r base rank entry true is h was = subst (λ b. IsNoted (rules ++ r ∷ []) b (Some rank)) (is.0 refl) (inl (rank, refl, rank_added rules r rank h))
either_more rules r base rank entry false is h was = noted_kept rules r base entry (λ same. both_ways false refl (is.1 same)) was

pub ranks_more : (rules : List Rule) (r : Rule) (rank : ℕ) (ranks after : BTreeMap (Bor (List ℕ)) ℕ) → NotesRanks rules ranks → HasNextRank rules r.base rank → NotesAlso ranks r.base rank after → NotesRanks (rules ++ r ∷ []) after
ranks_more rules r rank ranks after h next also =
    λ other. subst (IsNoted (rules ++ r ∷ []) other) (sym (also other)) (either_more rules r other rank (noted ranks other) (bytes_eq r.base other) (bytes_eq-Decides r.base other) next (h other))

-- ---- which base comes first

-- a shorter front of the same rules lacks each byte that a longer one lacks
lacks_front : (base : List ℕ) (p q x y : List Rule) → p ++ x ≡ q ++ y → length p ≤ length q → LacksBase base q → LacksBase base p
lacks_front base [] q x y e shorter h = tt
lacks_front base (r ∷ p) [] x y e shorter h = absurd (omega arith)
lacks_front base (r ∷ p) (s ∷ q) x y e shorter h =
    let head : r ≡ s = cc in
    let tail : p ++ x ≡ q ++ y = cc in
    (λ same. h.0 (ap (λ z. z.base) (sym head) ∙ same), lacks_front base p q x y tail (omega arith) h.1)

-- a front that lacks a base ends no later than a rule with it begins
no_longer : (base : List ℕ) (p q x y : List Rule) (g : Rule) → p ++ x ≡ q ++ g ∷ y → g.base ≡ base → LacksBase base p → length p ≤ length q
no_longer base [] q x y g e has h = omega arith
no_longer base (r ∷ p) [] x y g e has h =
    let head : r ≡ g = cc in
    absurd (h.0 (ap (λ z. z.base) head ∙ has))
no_longer base (r ∷ p) (s ∷ q) x y g e has h =
    let tail : p ++ x ≡ q ++ g ∷ y = cc in
    let rest : length p ≤ length q = no_longer base p q x y g tail has h.1 in
    omega arith

-- a base of a lower rank comes no later
pub no_later : (rules : List Rule) (a b : List ℕ) (i j : ℕ) → HasRank rules a i → HasRank rules b j → i ≤ j → ComesNoLater rules a b
no_later rules a b i j (before, first, others, whole, same, lacks, size) (before_b, first_b, others_b, whole_b, same_b, lacks_b, size_b) lower =
    (before, first, others, whole, same, lacks_front b before before_b (first ∷ others) (first_b ∷ others_b) (sym whole ∙ whole_b) (omega (arith, size, size_b)) lacks_b)

-- a base that comes no later than a base that comes no later than another comes no later than that one
pub no_later_than : (rules : List Rule) (a b c : List ℕ) → ComesNoLater rules a b → ComesNoLater rules b c → ComesNoLater rules a c
no_later_than rules a b c (p, f, x, whole, has_a, lacks_b) (q, g, y, whole_b, has_b, lacks_c) =
    let same : p ++ f ∷ x ≡ q ++ g ∷ y = sym whole ∙ whole_b in
    (p, f, x, whole, has_a, lacks_front c p q (f ∷ x) (g ∷ y) same (no_longer b p q (f ∷ x) y g same has_b lacks_b) lacks_c)

-- a rule more changes none of this
pub no_later_kept : (rules : List Rule) (r : Rule) (a b : List ℕ) → ComesNoLater rules a b → ComesNoLater (rules ++ r ∷ []) a b
no_later_kept rules r a b (before, first, others, whole, same, lacks) =
    (before, first, others ++ r ∷ [], ap (λ rs. rs ++ r ∷ []) whole ∙ append_assoc before (first ∷ others) (r ∷ []), same, lacks)
