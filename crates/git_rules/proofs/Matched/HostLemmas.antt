-- Hosts with the same labels are the same, except for a `.` at the end of one of them.
use Rattle.std.proofs.Common.{◌≡◌, ℕ, ◌==◌, inl, inr, List, [], ◌∷◌, refl, sym, subst, ◌∙◌, true, false, All, ◌⊎◌, ◌++◌}
use Rattle.std.proofs.lemmas.Bool.{both_ways, cases_Bool, eqb-true}
use Rattle.std.proofs.lemmas.List.Elements.{All-cons, All-head, All-nil, All-tail}
use Rattle.git_syntax.specs.Bytes.{dot, FreeOf}
use Rattle.git_syntax.proofs.Texts.CutLemmas.{free-cons, free_head_tail}
use Rattle.git_rules.specs.Normal.{asterisk}
use Rattle.git_rules.specs.Patterns.{in_first_label, labels_of, MatchesHost, MatchesLabel, MatchesLabels}
use Rattle.git_rules.specs.PatternLaws.{IsOwnHost}
use Rattle.git_rules.proofs.Matched.LabelLemmas.{labels_some}

-- ---- labels without `*`

-- a first label with one byte more is free of each byte that it was free of
free_first : (b : ℕ) (labels : List (List ℕ)) → (b == asterisk) ≡ false → All (FreeOf asterisk) labels → All (FreeOf asterisk) (in_first_label b labels)
free_first b [] other h = All-cons (FreeOf asterisk) (b ∷ []) [] (free-cons asterisk b [] other refl) (All-nil (FreeOf asterisk))
free_first b (label ∷ labels) other h =
    All-cons (FreeOf asterisk) (b ∷ label) labels (free-cons asterisk b label other (All-head (FreeOf asterisk) label labels h)) (All-tail (FreeOf asterisk) label labels h)

-- the labels of a host without `*` have none
free_labels : (host : List ℕ) → FreeOf asterisk host → All (FreeOf asterisk) (labels_of host)
free_labels [] free = All-nil (FreeOf asterisk)
free_labels (b ∷ bs) free =
    let parts = free_head_tail asterisk b bs free in
    let rest : All (FreeOf asterisk) (labels_of bs) = free_labels bs parts.1 in
    elim (cases_Bool (b == dot)) [
      | inl same ↦ rw same (All-cons (FreeOf asterisk) [] (labels_of bs) refl rest)
      | inr differs ↦ rw differs (free_first b (labels_of bs) parts.0 rest)
    ]

-- a label without `*` denotes itself alone
free_label : (wanted label : List ℕ) → FreeOf asterisk wanted → MatchesLabel wanted label → wanted ≡ label
free_label wanted label free (inl star) = absurd (both_ways true (subst (FreeOf asterisk) star free) refl)
free_label wanted label free (inr same) = same

-- labels without `*` match the same alone
same_labels : (wanted labels : List (List ℕ)) → All (FreeOf asterisk) wanted → MatchesLabels wanted labels → wanted ≡ labels
same_labels [] [] free h = refl
same_labels [] (label ∷ labels) free h = absurd h
same_labels (own ∷ more) [] free h = absurd h
same_labels (own ∷ more) (label ∷ labels) free h =
    let first : own ≡ label = free_label own label (All-head (FreeOf asterisk) own more free) h.0 in
    let rest : more ≡ labels = same_labels more labels (All-tail (FreeOf asterisk) own more free) h.1 in
    cc

-- ---- hosts of the same labels

-- a text that begins with a `.` has an empty first label
pub labels_dot : (b : ℕ) (bs : List ℕ) → (b == dot) ≡ true → labels_of (b ∷ bs) ≡ [] ∷ labels_of bs
labels_dot b bs same = rw same refl

-- a text that begins with another byte has that at the front of its first label
pub labels_byte : (b : ℕ) (bs : List ℕ) → (b == dot) ≡ false → labels_of (b ∷ bs) ≡ in_first_label b (labels_of bs)
labels_byte b bs differs = rw differs refl

-- a byte makes a first label that isn't empty
pub not_empty_first : (b : ℕ) (labels more : List (List ℕ)) → in_first_label b labels ≡ [] ∷ more → ⊥
not_empty_first b [] more e = cc
not_empty_first b (label ∷ labels) more e = cc

-- a host without labels is empty
no_labels : (host : List ℕ) → labels_of host ≡ [] → host ≡ []
no_labels [] e = refl
no_labels (b ∷ bs) e = absurd (labels_some b bs e)

-- a `.` with no label after it
one_dot : (b : ℕ) (bs : List ℕ) → b ≡ dot → [] ∷ labels_of bs ≡ [] ∷ [] → b ∷ bs ≡ dot ∷ []
one_dot b bs same e =
    let rest : labels_of bs ≡ [] = cc in
    let nothing : bs ≡ [] = no_labels bs rest in
    cc

-- a host with one empty label is `.`
one_empty : (host : List ℕ) → labels_of host ≡ [] ∷ [] → host ≡ dot ∷ []
one_empty [] e = cc
one_empty (b ∷ bs) e = elim (cases_Bool (b == dot)) [
  | inl same ↦ one_dot b bs (eqb-true b dot same) (sym (labels_dot b bs same) ∙ e)
  | inr differs ↦ absurd (not_empty_first b (labels_of bs) [] (sym (labels_byte b bs differs) ∙ e))
]

-- the hosts are the same, except for a `.` at the end of one of them
abbrev AreAlike : List ℕ → List ℕ → Type 0
AreAlike own host = (own ≡ host) ⊎ ((own ≡ host ++ dot ∷ []) ⊎ (host ≡ own ++ dot ∷ []))

-- one byte more before both
own_after : (b c : ℕ) (bs cs : List ℕ) → b ≡ c → AreAlike bs cs → AreAlike (b ∷ bs) (c ∷ cs)
own_after b c bs cs same (inl h) = inl (cc)
own_after b c bs cs same (inr (inl h)) = inr (inl (cc))
own_after b c bs cs same (inr (inr h)) = inr (inr (cc))

-- the bytes of first labels
first_bytes : (b c : ℕ) (bs cs : List ℕ) (l m : List (List ℕ)) → labels_of bs ≡ l → labels_of cs ≡ m → in_first_label b l ≡ in_first_label c m → (l ≡ m → AreAlike bs cs) → AreAlike (b ∷ bs) (c ∷ cs)
first_bytes b c bs cs [] [] own other e rest =
    let first : b ≡ c = cc in own_after b c bs cs first (rest refl)
first_bytes b c bs cs [] (m ∷ ms) own other e rest =
    let first : b ≡ c = cc in
    let empty : m ∷ ms ≡ [] ∷ [] = cc in
    let end : cs ≡ dot ∷ [] = one_empty cs (other ∙ empty) in
    let none : bs ≡ [] = no_labels bs own in
    inr (inr (cc))
first_bytes b c bs cs (l ∷ ls) [] own other e rest =
    let first : b ≡ c = cc in
    let empty : l ∷ ls ≡ [] ∷ [] = cc in
    let end : bs ≡ dot ∷ [] = one_empty bs (own ∙ empty) in
    let none : cs ≡ [] = no_labels cs other in
    inr (inl (cc))
first_bytes b c bs cs (l ∷ ls) (m ∷ ms) own other e rest =
    let first : b ≡ c = cc in
    let same : l ∷ ls ≡ m ∷ ms = cc in
    own_after b c bs cs first (rest same)

-- hosts with the same labels
own_by_labels : (own host : List ℕ) → labels_of own ≡ labels_of host → AreAlike own host
own_by_labels [] [] e = inl refl
own_by_labels [] (c ∷ cs) e = absurd (labels_some c cs (sym e))
own_by_labels (b ∷ bs) [] e = absurd (labels_some b bs e)
own_by_labels (b ∷ bs) (c ∷ cs) e =
    elim (cases_Bool (b == dot)) [
      | inl one ↦ elim (cases_Bool (c == dot)) [
        | inl two ↦ let heads : b ≡ c = eqb-true b dot one ∙ sym (eqb-true c dot two) in
            let whole : [] ∷ labels_of bs ≡ [] ∷ labels_of cs = sym (labels_dot b bs one) ∙ e ∙ labels_dot c cs two in
            let rest : labels_of bs ≡ labels_of cs = cc in
            own_after b c bs cs heads (own_by_labels bs cs rest)
        | inr two ↦ absurd (not_empty_first c (labels_of cs) (labels_of bs) (sym (labels_byte c cs two) ∙ sym e ∙ labels_dot b bs one))
      ]
      | inr one ↦ elim (cases_Bool (c == dot)) [
        | inl two ↦ absurd (not_empty_first b (labels_of bs) (labels_of cs) (sym (labels_byte b bs one) ∙ e ∙ labels_dot c cs two))
        | inr two ↦ first_bytes b c bs cs (labels_of bs) (labels_of cs) refl refl (sym (labels_byte b bs one) ∙ e ∙ labels_byte c cs two) (λ same. own_by_labels bs cs same)
      ]
    ]

-- if the other has none at its end, the pattern may
without_dot : (own host : List ℕ) → ((front : List ℕ) → ¬ (host ≡ front ++ dot ∷ [])) → AreAlike own host → IsOwnHost own host
without_dot own host none (inl same) = inl same
without_dot own host none (inr (inl more)) = inr more
without_dot own host none (inr (inr less)) = absurd (none own less)

-- a host without `*` denotes its own alone
pub own_host : (pattern host : List ℕ) → ((front : List ℕ) → ¬ (host ≡ front ++ dot ∷ [])) → FreeOf asterisk pattern → MatchesHost pattern host → IsOwnHost pattern host
own_host pattern host none free h =
    without_dot pattern host none (own_by_labels pattern host (same_labels (labels_of pattern) (labels_of host) (free_labels pattern free) h))
