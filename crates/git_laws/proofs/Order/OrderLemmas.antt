-- Lexicographic orders, and the laws of equality, order and hash.
use Rattle.std.proofs.Common.{◌≡◌, Bool, Ordering, Less, Equal, Greater, sym, ap, ◌∙◌, nat_cmp, arith}
use Rattle.std.proofs.lemmas.Bool.Decides.{nat_tests}
use Rattle.std.specs.Cmp.{Equal-is}
use Rattle.std.specs.Ordering.{MatchOrdering, eq_by_cmp, ordering_then}
use Rattle.git_laws.specs.Laws.{TiedIsEqual, SpellingLast}

-- the order is the first one, or the second if the first doesn't decide
pub record IsThen (first second order : Ordering) : Type 0 where
  pub is : order ≡ ordering_then first second

-- it is, if it is found that way
pub found : (first second order : Ordering) {P : Type 0} → MatchOrdering first (order ≡ Less) P (order ≡ Greater) → (P → order ≡ second) → IsThen first second order
found first second order h f = grind arith

-- two that come first go one by one
regroup : (a b c : Ordering) → ordering_then (ordering_then a b) c ≡ ordering_then a (ordering_then b c)
regroup a b c = grind arith

-- the first of two, and then the second and the rest
pub before : {first second both rest order : Ordering} → IsThen first second both → IsThen both rest order → IsThen first (ordering_then second rest) order
before {first} {second} {both} {rest} p q = record { is = q.is ∙ (ap (λ o. ordering_then o rest) p.is ∙ regroup first second rest) }

-- the first one may be named by its value
pub known : {given first second order : Ordering} → given ≡ first → IsThen given second order → IsThen first second order
known {second = second} e p = record { is = p.is ∙ ap (λ o. ordering_then o second) e }

-- ---- laws

-- an order that answers `Equal` if the test passes leaves it open which values are equal
pub tied_is_equal : {K : Type 0} (equal : K → K → Bool) (order : K → K → Ordering) → ((x y : K) → equal x y ≡ eq_by_cmp order x y) → TiedIsEqual equal order
tied_is_equal equal order ties x y = (λ e. ties x y ∙ (Equal-is (order x y)).1 e, λ t. (Equal-is (order x y)).0 (sym (ties x y) ∙ t))

-- a last part that is never there decides nothing
last : (a b : Ordering) → ordering_then a b ≡ ordering_then (ordering_then a Equal) b
last a b = grind arith

-- a comparison that goes last may be removed from the others
out : (a rest front b : Ordering) → rest ≡ ordering_then front b → ordering_then a rest ≡ ordering_then (ordering_then a front) b
out a rest front b e = ap (ordering_then a) e ∙ sym (regroup a front b)

-- the last of eight orders may be taken out of them
last_out : (a b c d e f g h : Ordering) → ordering_then a (ordering_then b (ordering_then c (ordering_then d (ordering_then e (ordering_then f (ordering_then g h)))))) ≡ ordering_then (ordering_then a (ordering_then b (ordering_then c (ordering_then d (ordering_then e (ordering_then f (ordering_then g Equal))))))) h
last_out a b c d e f g h = out a _ _ h (out b _ _ h (out c _ _ h (out d _ _ h (out e _ _ h (out f _ _ h (last g h))))))

pub spelling_last : SpellingLast
spelling_last = grind (arith, nat_tests, last_out, nat_cmp)
