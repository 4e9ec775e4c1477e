-- Names and values up to the next place: those up to this one, and the one here.
use Rattle.std.proofs.Common.{◌≡◌, ◌∙◌, ℕ, zero, suc, add-one, ◌+◌, ◌<◌, List, [], ◌∷◌, ◌++◌, length, take, get_or, map, refl, sym, ap, arith, append_assoc, append-nil}
use Rattle.gix_url.specs.declared.components.QueryText.{QueryText}
use Rattle.gix_url.specs.ComponentViews.{pair_bytes}
use Rattle.c_values.specs.ComponentNumbers.{joined_pair, joined_pairs, lengths_of_pair, pair_lengths}

-- their bytes
pub joined_more : (ps : List (QueryText × QueryText)) (i : ℕ) (d : QueryText × QueryText) → i < length ps
    → joined_pairs (map pair_bytes (take (i + 1) ps)) ≡ joined_pairs (map pair_bytes (take i ps)) ++ joined_pair (pair_bytes (get_or ps i d))
joined_more [] i d h = absurd (omega (arith, h))
joined_more (p ∷ ps) zero d h = append-nil (joined_pair (pair_bytes p))
joined_more (p ∷ ps) (suc i) d h =
    let more : joined_pairs (map pair_bytes (take (i + 1) ps)) ≡ joined_pairs (map pair_bytes (take i ps)) ++ joined_pair (pair_bytes (get_or ps i d)) = joined_more ps i d (omega (arith, h)) in
    rw (add-one (suc i)) (ap (λ x. joined_pair (pair_bytes p) ++ x) (rw (add-one i) at more) ∙ sym (append_assoc (joined_pair (pair_bytes p)) (joined_pairs (map pair_bytes (take i ps))) (joined_pair (pair_bytes (get_or ps i d)))))

-- their lengths
pub lengths_more : (ps : List (QueryText × QueryText)) (i : ℕ) (d : QueryText × QueryText) → i < length ps
    → pair_lengths (map pair_bytes (take (i + 1) ps)) ≡ pair_lengths (map pair_bytes (take i ps)) ++ lengths_of_pair (pair_bytes (get_or ps i d))
lengths_more [] i d h = absurd (omega (arith, h))
lengths_more (p ∷ ps) zero d h = refl
lengths_more (p ∷ ps) (suc i) d h =
    let more : pair_lengths (map pair_bytes (take (i + 1) ps)) ≡ pair_lengths (map pair_bytes (take i ps)) ++ lengths_of_pair (pair_bytes (get_or ps i d)) = lengths_more ps i d (omega (arith, h)) in
    rw (add-one (suc i)) (ap (λ x. lengths_of_pair (pair_bytes p) ++ x) (rw (add-one i) at more))
