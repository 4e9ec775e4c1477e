-- Equality of components: component by component, names and values by their bytes. Equal components are one
-- value.
use Rattle.std.specs.Prelude.{◌≡◌, ℕ, Bool, ◌&&◌, List, Option, bytes_eq}
use mathlib.Core.Path.{refl, ap}
use Rattle.std.specs.Bool.{Decides}
use Rattle.std.proofs.lemmas.Bool.Decides.{Decides-and}
use Rattle.std.proofs.lemmas.Slice.Eq.{slice_eq-Decides}
use Rattle.std.specs.Option.{option_eq}
use Rattle.std.specs.Cmp.{IsEquivalence, decided}
use Rattle.std.specs.Cmp.Lexicographic.{pointwise, bytes_decides}
use Rattle.git_laws.specs.OrderLaws.{options_decide, text_decides}
use Rattle.git_laws.specs.Components.{Components}
use Rattle.git_laws.specs.Order.{text_eq}

-- pairs of a name and a value are equal if both have the same bytes
abbrev pub pair_eq : List ℕ × List ℕ → List ℕ × List ℕ → Bool
pair_eq p q = bytes_eq p.0 q.0 && bytes_eq p.1 q.1

-- queries are equal if both are missing, or both are there with equal pairs in the same order
abbrev pub query_eq : Option (List (List ℕ × List ℕ)) → Option (List (List ℕ × List ℕ)) → Bool
query_eq = option_eq (pointwise pair_eq)

-- components are equal if path, query and fragment are
abbrev pub components_eq : Components → Components → Bool
components_eq c d = bytes_eq c.path d.path
    && (query_eq c.query d.query && text_eq c.fragment d.fragment)

-- ---- equal values are one value

pair_decides : (p q : List ℕ × List ℕ) → Decides (pair_eq p q) (p ≡ q)
pair_decides p q =
    let reported = Decides-and _ _ (bytes_decides p.0 q.0) (bytes_decides p.1 q.1) in (
      λ e. let same = reported.0 e in λ i. (same.0 i, same.1 i),
      λ e. reported.1 (ap (λ r. r.0) e, ap (λ r. r.1) e),
    )

query_decides : (p q : Option (List (List ℕ × List ℕ))) → Decides (query_eq p q) (p ≡ q)
query_decides = options_decide (pointwise pair_eq)
    (λ xs ys. slice_eq-Decides pair_decides xs ys (pointwise pair_eq xs ys) refl)

-- equal components are one value, and one value is equal to itself
pub components_decide : (c d : Components) → Decides (components_eq c d) (c ≡ d)
components_decide c d =
    let reported = Decides-and _ _ (bytes_decides c.path d.path)
    (Decides-and _ _ (query_decides c.query d.query) (text_decides c.fragment d.fragment)) in (
      λ e. let (path, (query, fragment)) = reported.0 e in
          λ i. record { path = path i; query = query i; fragment = fragment i },
      λ e. reported.1 (ap (λ u. u.path) e, (ap (λ u. u.query) e, ap (λ u. u.fragment) e)),
    )

-- equality of components is an equivalence
pub components_equiv : IsEquivalence components_eq
components_equiv = decided components_eq components_decide
