-- How the library's cuts are those of readers.
use Rattle.std.proofs.Common.{◌≡◌, ◌∙◌, ℕ, ◌+◌, ◌-◌, ◌≤◌, Bool, true, List, [], ◌∷◌, ◌++◌, length, take, Option, Some, None, MatchOption, Bor, option_map, inl, inr, refl, sym, ap, arith}
use Rattle.std.proofs.Math.Seq.{take-append_seam}
use Rattle.std.proofs.lemmas.Bool.{both_ways}
use Rattle.std.proofs.lemmas.List.{append-nil, append_assoc, length-append}
use Rattle.git_syntax.specs.Bytes.{FreeOf, Lacks, StartsPath, begins_by, colon, is_path_start}
use Rattle.git_readers.specs.Readers.{cut_first, cut_last, from, until}
use Rattle.git_readers.proofs.ReaderCuts.{cut_first_at, cut_first_none, cut_last_at, cut_last_none, until_cut, until_from, until_whole}

-- the library's cut at the first byte is that of the definition
pub first_of : (c : ℕ) (t : List ℕ) (r : Option (Bor (List ℕ) × Bor (List ℕ)))
    → MatchOption r (FreeOf c t) (λ p. FreeOf c p.0.now × (t ≡ p.0.now ++ c ∷ p.1.now))
    → option_map (λ p. (p.0.now, p.1.now)) r ≡ cut_first c t
first_of c t None free = sym (cut_first_none c t free)
first_of c t (Some p) e = sym (ap (λ x. cut_first c x) e.1 ∙ cut_first_at c p.0.now p.1.now e.0)

-- and so is that at the last one
pub last_of : (c : ℕ) (t : List ℕ) (r : Option (Bor (List ℕ) × Bor (List ℕ)))
    → MatchOption r (FreeOf c t) (λ p. FreeOf c p.1.now × (t ≡ p.0.now ++ c ∷ p.1.now))
    → option_map (λ p. (p.0.now, p.1.now)) r ≡ cut_last c t
last_of c t None free = sym (cut_last_none c t free)
last_of c t (Some p) e = sym (ap (λ x. cut_last c x) e.1 ∙ cut_last_at c p.0.now p.1.now e.0)

-- a byte of the test ends the text before it
before_test : (test : ℕ → Bool) (front rest : List ℕ) → Lacks test front → begins_by test rest ≡ true → until test (front ++ rest) ≡ front
before_test test front [] lacks begins = absurd (both_ways _ refl begins)
before_test test front (b ∷ rest) lacks begins = until_cut test front b rest lacks begins

-- the text before a path is the text before the first byte of a path
pub before_path : (front rest t : List ℕ) → t ≡ front ++ rest → Lacks (is_path_start true) front → StartsPath true rest → front ≡ until (is_path_start true) t
before_path front rest t whole lacks (inl none) =
    sym (ap (λ x. until (is_path_start true) x) (whole ∙ ap (λ x. front ++ x) none ∙ append-nil front) ∙ until_whole (is_path_start true) front lacks)
before_path front rest t whole lacks (inr begins) =
    sym (ap (λ x. until (is_path_start true) x) whole ∙ before_test (is_path_start true) front rest lacks begins)

-- the text before a rest, by the lengths
pub before_rest : (p rest t : List ℕ) → t ≡ p ++ rest → take (length t - length rest) t ≡ p
before_rest p rest t whole =
    let total : length t ≡ length p + length rest = ap (λ x. length x) whole ∙ length-append p rest in
    let same : length t - length rest ≡ length p = grind arith in
    ap (λ n. take n t) same ∙ ap (λ x. take (length p) x) whole ∙ take-append_seam p rest

-- the text up to the first byte of the test after a colon is before the rest
port_joined : (test : ℕ → Bool) (front rest t : List ℕ) → t ≡ front ++ colon ∷ rest → t ≡ (front ++ colon ∷ until test rest) ++ from test rest
port_joined test front rest t whole =
    whole ∙ ap (λ x. front ++ colon ∷ x) (until_from test rest) ∙ sym (append_assoc front (colon ∷ until test rest) (from test rest))

-- and is found by the lengths
pub port_front : (test : ℕ → Bool) (front rest t : List ℕ) → t ≡ front ++ colon ∷ rest → take (length t - length (from test rest)) t ≡ front ++ colon ∷ until test rest
port_front test front rest t whole = before_rest (front ++ colon ∷ until test rest) (from test rest) t (port_joined test front rest t whole)

-- the rest isn't longer than the text
pub port_short : (test : ℕ → Bool) (front rest t : List ℕ) → t ≡ front ++ colon ∷ rest → length (from test rest) ≤ length t
port_short test front rest t whole =
    let total : length t ≡ length (front ++ colon ∷ until test rest) + length (from test rest) =
    ap (λ x. length x) (port_joined test front rest t whole) ∙ length-append (front ++ colon ∷ until test rest) (from test rest) in
    grind arith
