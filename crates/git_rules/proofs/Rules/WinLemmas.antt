-- The rule that wins, by the lengths of fronts in ascending order: the front that is found last is the longest.
use Rattle.std.proofs.Common.{Ordering, ◌≡◌, ℕ, ◌<◌, ◌≤◌, ◌⊎◌, Bool, true, ◌||◌, List, [], ◌∷◌, ◌++◌, Some, None, BTreeMap, BTreeSet, Bor, length, take, drop, refl, sym, ap, subst, ◌∙◌, inl, inr, arith, length-append}
use Rattle.std.specs.BTreeMap.{is_at}
use Rattle.std.specs.BTreeSet.{IsOrdered}
use Rattle.std.specs.List.{list_any}
use Rattle.std.specs.List.Sorted.{IsStrictlySortedBy}
use Rattle.std.specs.Ordering.{MatchOrdering, is_eq, nat_cmp}
use Rattle.std.specs.declared.cmp.Ordering.TheVariants.{Equal, Greater, Less}
use Rattle.std.proofs.Math.Seq.{take-append_seam}
use Rattle.std.proofs.lemmas.Cmp.{ranked}
use Rattle.std.proofs.lemmas.List.{take-append-drop}
use Rattle.std.proofs.lemmas.Map.Keys.{below_from_sorted, sorted_tail}
use Rattle.git_rules.specs.Rewrites.{Rule, Outcome, Applies, IsAmong, IsPreferred, IsRewritten}
use Rattle.git_rules.specs.RuleTable.{IsFrontNoted, LacksFront, IsFirstOfFront, NotesFronts, NotesLengths, noted, rule_with}
use Rattle.git_rules.specs.declared.rewrite.table.Ranked.{Ranked}

-- ---- lengths that are left

-- the number is one of these
abbrev pub IsLeft : ℕ → List ℕ → Type 0
IsLeft m left = list_any (is_at (nat_cmp m)) left ≡ true

left_by : (o : Ordering) (m n : ℕ) (rest : Bool) → MatchOrdering o (m < n) (m ≡ n) (n < m) → is_eq o || rest ≡ true → (m ≡ n) ⊎ (rest ≡ true)
left_by Less m n rest h one = inr one
left_by Equal m n rest h one = inl h
left_by Greater m n rest h one = inr one

-- one of these is the first or one of the others
left_cases : (m n : ℕ) (left : List ℕ) → IsLeft m (n ∷ left) → (m ≡ n) ⊎ IsLeft m left
left_cases m n left h = left_by (nat_cmp m n) m n (list_any (is_at (nat_cmp m)) left) (ranked m n (nat_cmp m n) refl) h

-- the first of two is less
first_less : (m n : ℕ) (left : List ℕ) → IsStrictlySortedBy nat_cmp (m ∷ n ∷ left) → m < n
first_less m n left sorted = below_from_sorted (m ∷ n ∷ left) 0 1 0 sorted (omega arith) (omega arith)

-- a length that is less than the first is none of these
not_left : (m n : ℕ) (left : List ℕ) → IsStrictlySortedBy nat_cmp (n ∷ left) → m < n → ¬ IsLeft m (n ∷ left)
not_left m n [] sorted less h = elim (left_cases m n [] h) [ inl same ↦ omega arith | inr none ↦ absurd (cc) ]
not_left m n (k ∷ left) sorted less h =
    let more : n < k = first_less n k left sorted in
    elim (left_cases m n (k ∷ left) h) [
      | inl same ↦ omega arith
      | inr rest ↦ not_left m k left (sorted_tail nat_cmp n (k ∷ left) sorted) (omega arith) rest
    ]

-- without the second these are in order still
sorted_without : (m n : ℕ) (left : List ℕ) → IsStrictlySortedBy nat_cmp (m ∷ n ∷ left) → IsStrictlySortedBy nat_cmp (m ∷ left)
unfolding IsStrictlySortedBy
sorted_without m n left h = (h.0.1, h.1.1)

-- ---- the fronts that are tested so far

-- the length of the rule's front is left
abbrev pub IsAhead : List ℕ → Rule → Type 0
IsAhead left s = IsLeft (length s.front) left

-- no rule was found: each that applies is ahead
pub record NoneSoFar (rules : List Rule) (text left : List ℕ) (o : Outcome) : Type 0 where
  pub base : o.base ≡ None
  pub rest : o.rest ≡ text
  pub sorted : IsStrictlySortedBy nat_cmp left
  pub ahead : (s : Rule) → IsAmong s rules → Applies text s → IsAhead left s

-- a rule was found: it is preferred to each that applies and isn't ahead
pub record WonSoFar (rules : List Rule) (text left : List ℕ) (o : Outcome) : Type 0 where
  pub rule : Rule
  pub among : IsAmong rule rules
  pub base : o.base ≡ Some rule.base
  pub rest : text ≡ rule.front ++ o.rest
  pub sorted : IsStrictlySortedBy nat_cmp (length rule.front ∷ left)
  pub preferred : (s : Rule) → IsAmong s rules → Applies text s → IsPreferred rules rule s ⊎ IsAhead left s

-- the outcome of the rules for a text, without those whose lengths are left
abbrev pub IsRewrittenSoFar : List Rule → List ℕ → List ℕ → Outcome → Type 0
IsRewrittenSoFar rules text left o = NoneSoFar rules text left o ⊎ WonSoFar rules text left o

-- all lengths are left
pub none_so_far : (rules : List Rule) (text : List ℕ) (lengths : BTreeSet ℕ) (o : Outcome) → o.base ≡ None → o.rest ≡ text → IsOrdered nat_cmp lengths → NotesLengths rules lengths → IsRewrittenSoFar rules text lengths.keys o
none_so_far rules text lengths o base rest sorted h =
    inl (record { base = base; rest = rest; sorted = sorted; ahead = λ s among a. h s among })

-- ---- the end

-- if none that applies is ahead
all_seen : (rules : List Rule) (text left : List ℕ) (o : Outcome) → ((s : Rule) → Applies text s → ¬ IsAhead left s) → IsRewrittenSoFar rules text left o → IsRewritten rules text o
all_seen rules text left o seen (inl h) = inl (h.base, h.rest, λ s among a. seen s a (h.ahead s among a))
all_seen rules text left o seen (inr h) =
    inr (h.rule, (h.among, (o.rest, h.rest), λ s among a. elim (h.preferred s among a) [ inl better ↦ better | inr ahead ↦ absurd (seen s a ahead) ]), h.base, h.rest)

-- no length is left
pub at_end : (rules : List Rule) (text left : List ℕ) (o : Outcome) → left ≡ [] → IsRewrittenSoFar rules text left o → IsRewritten rules text o
at_end rules text left o none h =
    all_seen rules text left o (λ s a ahead. let there : IsLeft (length s.front) [] = subst (IsLeft (length s.front)) none ahead in absurd (cc)) h

-- the lengths in order
in_order : (rules : List Rule) (text : List ℕ) (n : ℕ) (left : List ℕ) (o : Outcome) → IsRewrittenSoFar rules text (n ∷ left) o → IsStrictlySortedBy nat_cmp (n ∷ left)
in_order rules text n left o (inl h) = h.sorted
in_order rules text n left o (inr h) = sorted_tail nat_cmp (length h.rule.front) (n ∷ left) h.sorted

-- a rule that applies is no longer than the text
no_longer : (text : List ℕ) (s : Rule) → Applies text s → length s.front ≤ length text
no_longer text s (rest, whole) =
    let size : length text ≡ length (s.front ++ rest) = ap length whole in
    let parts = length-append s.front rest in
    omega arith

-- the next length is longer than the text
pub too_long : (rules : List Rule) (text all : List ℕ) (n : ℕ) (left : List ℕ) (o : Outcome) → all ≡ n ∷ left → length text < n → IsRewrittenSoFar rules text all o → IsRewritten rules text o
too_long rules text all n left o is longer h =
    let k = subst (λ xs. IsRewrittenSoFar rules text xs o) is h in
    all_seen rules text (n ∷ left) o (λ s a ahead. let short = no_longer text s a in not_left (length s.front) n left (in_order rules text n left o k) (omega arith) ahead) k

-- ---- one length more

-- a front of this length is the one that the text begins with
front_taken : (text : List ℕ) (s : Rule) (n : ℕ) → Applies text s → length s.front ≡ n → s.front ≡ take n text
front_taken text s n (rest, whole) size =
    sym (take-append_seam s.front rest) ∙ ap (λ t. take (length s.front) t) (sym whole) ∙ ap (λ k. take k text) size

-- no rule has the front
missed : (rules : List Rule) (text : List ℕ) (n : ℕ) (left : List ℕ) (o : Outcome) → LacksFront (take n text) rules → IsRewrittenSoFar rules text (n ∷ left) o → IsRewrittenSoFar rules text left o
missed rules text n left o lacks (inl h) =
    inl (record {
      base = h.base;
      rest = h.rest;
      sorted = sorted_tail nat_cmp n left h.sorted;
      ahead = λ s among a. elim (left_cases (length s.front) n left (h.ahead s among a)) [
        | inl same ↦ absurd (lacks s among (front_taken text s n a same))
        | inr ahead ↦ ahead
      ];
    })
missed rules text n left o lacks (inr h) =
    inr (record {
      rule = h.rule;
      among = h.among;
      base = h.base;
      rest = h.rest;
      sorted = sorted_without (length h.rule.front) n left h.sorted;
      preferred = λ s among a. elim (h.preferred s among a) [
        | inl better ↦ inl better
        | inr maybe ↦ elim (left_cases (length s.front) n left maybe) [
          | inl same ↦ absurd (lacks s among (front_taken text s n a same))
          | inr ahead ↦ inr ahead
        ]
      ];
    })

-- the next length, at which no rule has the front
pub so_far_missed : (rules : List Rule) (text all : List ℕ) (n : ℕ) (left : List ℕ) (o : Outcome) → all ≡ n ∷ left → LacksFront (take n text) rules → IsRewrittenSoFar rules text all o → IsRewrittenSoFar rules text left o
so_far_missed rules text all n left o is lacks h = missed rules text n left o lacks (subst (λ xs. IsRewrittenSoFar rules text xs o) is h)

-- a rule with a shorter front isn't preferred
preferred_to_shorter : (rules : List Rule) (old new s : Rule) → length old.front < length new.front → IsPreferred rules old s → IsPreferred rules new s
preferred_to_shorter rules old new s less (inl shorter) = inl (omega arith)
preferred_to_shorter rules old new s less (inr (same, first)) = inl (omega (arith, same))

-- a rule that applies is ahead still, or the rule of the first base of the front is preferred to it
preferred_here : (rules : List Rule) (text : List ℕ) (n : ℕ) (left : List ℕ) (b : Ranked) (s : Rule) → IsFirstOfFront rules (take n text) b → length (take n text) ≡ n → IsAmong s rules → Applies text s → IsLeft (length s.front) (n ∷ left) → IsPreferred rules (rule_with b (take n text)) s ⊎ IsAhead left s
preferred_here rules text n left b s first size among a h =
    elim (left_cases (length s.front) n left h) [
      | inl same ↦ inl (inr (same ∙ sym size, first.2 s among (front_taken text s n a same)))
      | inr ahead ↦ inr ahead
    ]

-- and to each that applies and isn't ahead
preferred_so_far : (rules : List Rule) (text : List ℕ) (n : ℕ) (left : List ℕ) (o : Outcome) (b : Ranked) → IsFirstOfFront rules (take n text) b → length (take n text) ≡ n → IsRewrittenSoFar rules text (n ∷ left) o → (s : Rule) → IsAmong s rules → Applies text s → IsPreferred rules (rule_with b (take n text)) s ⊎ IsAhead left s
preferred_so_far rules text n left o b first size (inl h) s among a = preferred_here rules text n left b s first size among a (h.ahead s among a)
preferred_so_far rules text n left o b first size (inr h) s among a =
    let less = first_less (length h.rule.front) n left h.sorted in
    elim (h.preferred s among a) [
      | inl better ↦ inl (preferred_to_shorter rules h.rule (rule_with b (take n text)) s (subst (λ k. length h.rule.front < k) (sym size) less) better)
      | inr maybe ↦ preferred_here rules text n left b s first size among a maybe
    ]

-- the next length, at which a base is noted for the front
pub so_far_found : (rules : List Rule) (text all : List ℕ) (n : ℕ) (left : List ℕ) (o new : Outcome) (b : Ranked) → all ≡ n ∷ left → IsFirstOfFront rules (take n text) b → length (take n text) ≡ n → new.base ≡ Some b.base.now → new.rest ≡ drop n text → IsRewrittenSoFar rules text all o → IsRewrittenSoFar rules text left new
so_far_found rules text all n left o new b is first size base rest h =
    let k = subst (λ xs. IsRewrittenSoFar rules text xs o) is h in
    inr (record {
      rule = rule_with b (take n text);
      among = first.0;
      base = base;
      rest = sym (take-append-drop n text) ∙ ap (λ t. take n text ++ t) (sym rest);
      sorted = subst (λ m. IsStrictlySortedBy nat_cmp (m ∷ left)) (sym size) (in_order rules text n left o k);
      preferred = preferred_so_far rules text n left o b first size k;
    })

-- ---- the record of a front

-- a base is noted for the front that a text begins with
pub front_found : (rules : List Rule) (fronts : BTreeMap (Bor (List ℕ)) Ranked) (front taken : List ℕ) (b : Ranked) → NotesFronts rules fronts → front ≡ taken → noted fronts front ≡ Some b → IsFirstOfFront rules taken b
front_found rules fronts front taken b h same is =
    subst (λ f. IsFirstOfFront rules f b) same (subst (IsFrontNoted rules front) is (h front))

-- and none is
pub front_missed : (rules : List Rule) (fronts : BTreeMap (Bor (List ℕ)) Ranked) (front taken : List ℕ) → NotesFronts rules fronts → front ≡ taken → noted fronts front ≡ None → LacksFront taken rules
front_missed rules fronts front taken h same is =
    subst (λ f. LacksFront f rules) same (subst (IsFrontNoted rules front) is (h front))
