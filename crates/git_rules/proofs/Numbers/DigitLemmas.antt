-- Digits that are read one at a time, until the number is too large.
use Rattle.std.proofs.Common.{◌≡◌, ℕ, suc, ◌+◌, ◌*◌, ◌<◌, ◌≤◌, List, [], ◌∷◌, None, drop, get_or, length, arith, drop-cons, le_trans, le_refl, mul-le-mul_left}
use Rattle.std.proofs.lemmas.Bool.{lt-leb}
use Rattle.std.specs.Char.{digit_value}
use Rattle.std.specs.Str.Parse.{digits_value, digits_value_after}
use Rattle.git_rules.specs.Numbers.{fitting}

-- more digits don't make a number smaller
grows : (radix n : ℕ) (ds : List ℕ) → 1 ≤ radix → n ≤ digits_value_after radix n ds
grows radix n [] some = le_refl n
grows radix n (d ∷ ds) some =
    let step : n ≤ n * radix + digit_value d = omega (arith, mul-le-mul_left n some) in
    le_trans step (grows radix (n * radix + digit_value d) ds some)

-- a number above the greatest doesn't fit
unfitting : (greatest n : ℕ) → greatest < n → fitting greatest n ≡ None
unfitting greatest n large = rw (lt-leb n greatest large)

-- if the digits up to some byte write too large a number, so do all of them
pub fitting-front : (greatest radix n at : ℕ) (ds : List ℕ) → 1 ≤ radix → at < length ds → digits_value_after radix n (drop at ds) ≡ digits_value radix ds → greatest < n * radix + digit_value (get_or ds at 0) → fitting greatest (digits_value radix ds) ≡ None
fitting-front greatest radix n at ds some within same large =
    let whole = rw (drop-cons ds at 0 within) at same in
    let more = grows radix (n * radix + digit_value (get_or ds at 0)) (drop (suc at) ds) some in
    unfitting greatest (digits_value radix ds) (omega (arith, whole, more))
