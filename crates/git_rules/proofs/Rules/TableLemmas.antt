-- The records of a table of its rules, after an addition and after one that was refused.
use Rattle.std.proofs.Common.{◌≡◌, ℕ, List, [], ◌∷◌, ◌++◌, Option, BTreeMap, BTreeSet, Bor, length, map, sym, subst, true}
use Rattle.std.specs.BTreeMap.{IsUnchanged, is_at}
use Rattle.std.specs.BTreeSet.{Updates}
use Rattle.std.specs.Cmp.Lexicographic.{slice_cmp}
use Rattle.std.specs.List.{list_any}
use Rattle.std.specs.Map.{lookup}
use Rattle.std.specs.Ordering.{nat_cmp}
use Rattle.std.proofs.lemmas.List.{map-append}
use Rattle.git_rules.specs.Rewrites.{Rule}
use Rattle.git_rules.specs.RuleTable.{HasNextRank, IsFrontNoted, IsNoted, NotesAlso, NotesFronts, NotesLengths, NotesLower, NotesRanks, rule_of}
use Rattle.git_rules.specs.declared.rewrite.table.Kept.{Kept}
use Rattle.git_rules.specs.declared.rewrite.table.Ranked.{Ranked}
use Rattle.git_rules.proofs.Rules.FrontLemmas.{fronts_more, lengths_kept, lengths_more}
use Rattle.git_rules.proofs.Rules.RankLemmas.{rank_added, ranks_more, ranks_noted}

-- the records of a table
abbrev pub NotesAll : List Kept → BTreeMap (Bor (List ℕ)) ℕ → BTreeMap (Bor (List ℕ)) Ranked → BTreeSet ℕ → Type 0
NotesAll items ranks fronts lengths =
    NotesRanks (map rule_of items) ranks × NotesFronts (map rule_of items) fronts × NotesLengths (map rule_of items) lengths

-- the next rank of a base, by the items as they are read
pub next_at : (items read : List Kept) (base : List ℕ) (rank : ℕ) (entry : Option ℕ) → read ≡ items → IsNoted (map rule_of items) base entry → (IsNoted (map rule_of read) base entry → HasNextRank (map rule_of read) base rank) → HasNextRank (map rule_of items) base rank
next_at items read base rank entry same h next =
    subst (λ xs. HasNextRank (map rule_of xs) base rank) same (next (subst (λ xs. IsNoted (map rule_of xs) base entry) (sym same) h))

-- the same ranks
ranks_same : (rules : List Rule) (ranks after : BTreeMap (Bor (List ℕ)) ℕ) → IsUnchanged ranks after → NotesRanks rules ranks → NotesRanks rules after
ranks_same rules ranks after same h =
    λ base. subst (λ es. IsNoted rules base (lookup (is_at (λ key. slice_cmp nat_cmp base key.now)) es)) (sym same) (h base)

-- the same fronts
fronts_same : (rules : List Rule) (fronts after : BTreeMap (Bor (List ℕ)) Ranked) → IsUnchanged fronts after → NotesFronts rules fronts → NotesFronts rules after
fronts_same rules fronts after same h =
    λ front. subst (λ es. IsFrontNoted rules front (lookup (is_at (λ key. slice_cmp nat_cmp front key.now)) es)) (sym same) (h front)

-- the same lengths
lengths_same : (rules : List Rule) (lengths after : BTreeSet ℕ) → after.keys ≡ lengths.keys → NotesLengths rules lengths → NotesLengths rules after
lengths_same rules lengths after same h =
    λ s among. subst (λ ks. list_any (is_at (nat_cmp (length s.front))) ks ≡ true) (sym same) (h s among)

-- nothing was noted
pub notes_same : (items after_items : List Kept) (ranks : BTreeMap (Bor (List ℕ)) ℕ) (fronts : BTreeMap (Bor (List ℕ)) Ranked) (lengths after_lengths : BTreeSet ℕ) → after_items ≡ items → after_lengths.keys ≡ lengths.keys → NotesAll items ranks fronts lengths → NotesAll after_items ranks fronts after_lengths
notes_same items after_items ranks fronts lengths after_lengths same unchanged h =
    subst (λ xs. NotesAll xs ranks fronts after_lengths) (sym same) (h.0, h.1, lengths_same (map rule_of items) lengths after_lengths unchanged h.2)

-- a length was noted, and no rank
pub notes_without : (items after_items : List Kept) (n : ℕ) (ranks after_ranks : BTreeMap (Bor (List ℕ)) ℕ) (fronts : BTreeMap (Bor (List ℕ)) Ranked) (lengths after_lengths : BTreeSet ℕ) → after_items ≡ items → NotesAll items ranks fronts lengths → IsUnchanged ranks after_ranks → Updates nat_cmp lengths after_lengths n true → NotesAll after_items after_ranks fronts after_lengths
notes_without items after_items n ranks after_ranks fronts lengths after_lengths same h unchanged more =
    let rules = map rule_of items in
    subst (λ xs. NotesAll xs after_ranks fronts after_lengths) (sym same) (ranks_same rules ranks after_ranks unchanged h.0, h.1, lengths_kept rules n lengths after_lengths h.2 more)

-- a length and a rank were noted, and no front
pub notes_refused : (items after_items : List Kept) (base : List ℕ) (rank n : ℕ) (ranks after_ranks : BTreeMap (Bor (List ℕ)) ℕ) (fronts after_fronts : BTreeMap (Bor (List ℕ)) Ranked) (lengths after_lengths : BTreeSet ℕ) → after_items ≡ items → NotesAll items ranks fronts lengths → HasNextRank (map rule_of items) base rank → NotesAlso ranks base rank after_ranks → IsUnchanged fronts after_fronts → Updates nat_cmp lengths after_lengths n true → NotesAll after_items after_ranks after_fronts after_lengths
notes_refused items after_items base rank n ranks after_ranks fronts after_fronts lengths after_lengths same h next also unchanged more =
    let rules = map rule_of items in
    subst (λ xs. NotesAll xs after_ranks after_fronts after_lengths) (sym same) (ranks_noted rules base rank ranks after_ranks h.0 next also, fronts_same rules fronts after_fronts unchanged h.1, lengths_kept rules n lengths after_lengths h.2 more)

-- all was noted of one rule more
pub notes_more : (items after_items : List Kept) (x : Kept) (rank : ℕ) (ranks after_ranks : BTreeMap (Bor (List ℕ)) ℕ) (fronts after_fronts : BTreeMap (Bor (List ℕ)) Ranked) (lengths after_lengths : BTreeSet ℕ) → after_items ≡ items ++ x ∷ [] → NotesAll items ranks fronts lengths → HasNextRank (map rule_of items) x.base.now rank → NotesAlso ranks x.base.now rank after_ranks → NotesLower fronts x.front.now (record { base = x.base; rank = rank }) after_fronts → Updates nat_cmp lengths after_lengths (length x.front.now) true → NotesAll after_items after_ranks after_fronts after_lengths
notes_more items after_items x rank ranks after_ranks fronts after_fronts lengths after_lengths same h next also lower more =
    let rules = map rule_of items in
    let r = rule_of x in
    let b : Ranked = record { base = x.base; rank = rank } in
    let kept = lengths_kept rules (length r.front) lengths after_lengths h.2 more in
    let noted_more : NotesRanks (rules ++ r ∷ []) after_ranks × NotesFronts (rules ++ r ∷ []) after_fronts × NotesLengths (rules ++ r ∷ []) after_lengths = (ranks_more rules r rank ranks after_ranks h.0 next also, fronts_more rules r.front b fronts after_fronts h.1 (rank_added rules r rank next) lower, lengths_more rules r after_lengths kept more.1) in
    let all : NotesAll (items ++ x ∷ []) after_ranks after_fronts after_lengths = subst (λ rs. NotesRanks rs after_ranks × NotesFronts rs after_fronts × NotesLengths rs after_lengths) (sym (map-append rule_of items (x ∷ []))) noted_more in
    subst (λ xs. NotesAll xs after_ranks after_fronts after_lengths) (sym same) all
