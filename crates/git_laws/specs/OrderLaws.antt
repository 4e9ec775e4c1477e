-- The laws of equality, order and hash: equal values are one value, and the order is total.
use Rattle.std.specs.Prelude.{◌≡◌, ℕ, zero, suc, Bool, true, false, List, [], Option, Some, None, is_none, unwrap_or, bytes_eq, nat_eq}
use mathlib.Core.Path.{refl, sym, ap, subst, ◌∙◌}
use mathlib.Core.Bool.{true≢false, beq}
use Rattle.std.specs.Bool.{Decides}
use Rattle.std.proofs.lemmas.Bool.Decides.{Decides-and}
use Rattle.std.specs.Option.{option_eq, option_cmp}
use Rattle.std.specs.declared.cmp.Ordering.{Ordering}
use Rattle.std.specs.Ordering.{nat_cmp, bool_cmp, eq_by_cmp}
use Rattle.std.specs.Cmp.{IsTotalOrder, IsEquivalence, IsPartialOrder, po, decided, nat_cmp_total, bool_cmp_total, on_total, then_total, both_tied, unsigned_ties, unsigned_Decides, booleans_Decides}
use Rattle.std.specs.Cmp.Lexicographic.{nat_list_cmp_total, options_total, texts_ties, bytes_decides}
use Rattle.git_syntax.specs.Location.{Scheme, Location}
use Rattle.git_syntax.specs.Location.Scheme.{file, git, ssh, http, https, ext, helper, helper_url}
use Rattle.git_laws.specs.Order.{rank, held_name, text_eq, scheme_eq, location_eq, bytes_cmp, text_cmp, scheme_cmp, location_cmp, fed_scheme, fed_location}

-- ---- equal values are one value

-- if a test decides equality, it does so for optional values too
pub options_decide : {K : Type 0} (E : K → K → Bool) → ((x y : K) → Decides (E x y) (x ≡ y))
    → (p q : Option K) → Decides (option_eq E p q) (p ≡ q)
options_decide E d None None = (λ e. refl, λ e. refl)
options_decide E d None (Some y) = (λ e. absurd (true≢false (sym e)), λ e. sym (ap is_none e))
options_decide E d (Some x) None = (λ e. absurd (true≢false (sym e)), λ e. ap is_none e)
options_decide E d (Some x) (Some y) =
    (λ e. ap Some ((d x y).0 e), λ e. (d x y).1 (ap (λ p. unwrap_or p x) e))

-- equality of optional texts decides that they are one value
pub text_decides : (p q : Option (List ℕ)) → Decides (text_eq p q) (p ≡ q)
text_decides = options_decide bytes_eq bytes_decides

-- the scheme with this kind and this name
scheme_at : ℕ → Option (List ℕ) → Scheme
scheme_at zero name = file
scheme_at (suc zero) name = git
scheme_at (suc (suc zero)) name = ssh
scheme_at (suc (suc (suc zero))) name = http
scheme_at (suc (suc (suc (suc zero)))) name = https
scheme_at (suc (suc (suc (suc (suc zero))))) name = ext
scheme_at (suc (suc (suc (suc (suc (suc zero)))))) name = helper (unwrap_or name [])
scheme_at (suc (suc (suc (suc (suc (suc (suc n))))))) name = helper_url (unwrap_or name [])

-- a scheme is the one with its kind and its name
at_itself : (p : Scheme) → scheme_at (rank p) (held_name p) ≡ p
unfolding scheme_at
at_itself file = refl
at_itself _ = refl

-- schemes with the same kind and the same name are one value
pub kind_and_name : (p q : Scheme) → rank p ≡ rank q → held_name p ≡ held_name q → p ≡ q
kind_and_name p q kinds names = sym (at_itself p) ∙
    ((λ i. scheme_at (kinds i) (names i)) ∙ at_itself q)

-- equality of schemes decides that they are one value
pub scheme_decides : (p q : Scheme) → Decides (scheme_eq p q) (p ≡ q)
scheme_decides p q =
    let reported = Decides-and _ _ (unsigned_Decides (rank p) (rank q))
    (text_decides (held_name p) (held_name q)) in (
      λ e. let same = reported.0 e in kind_and_name p q same.0 same.1,
      λ e. reported.1 (ap rank e, ap held_name e),
    )

-- equality of schemes is an equivalence
pub scheme_equiv : IsEquivalence scheme_eq
scheme_equiv = decided scheme_eq scheme_decides

-- two locations have the same fields
abbrev SameParts : Location → Location → Type 0
SameParts v w = (v.scheme ≡ w.scheme) × ((v.user ≡ w.user) × ((v.password ≡ w.password)
    × ((v.host ≡ w.host) × ((v.flag ≡ w.flag) × ((v.port ≡ w.port)
    × ((v.path ≡ w.path) × (v.spelling ≡ w.spelling)))))))

-- locations with the same fields are one value
parts_same : (v w : Location) → SameParts v w → v ≡ w
parts_same v w (scheme, (user, (password, (host, (flag, (port, (path, spelling))))))) = λ i. record {
  scheme = scheme i;
  user = user i;
  password = password i;
  host = host i;
  flag = flag i;
  port = port i;
  path = path i;
  spelling = spelling i;
}

-- equality of locations decides that their fields are the same
parts_decide : (v w : Location) → Decides (location_eq v w) (SameParts v w)
parts_decide v w =
    Decides-and _ _ (scheme_decides v.scheme w.scheme)
    (Decides-and _ _ (text_decides v.user w.user)
    (Decides-and _ _ (text_decides v.password w.password)
    (Decides-and _ _ (text_decides v.host w.host)
    (Decides-and _ _ (booleans_Decides v.flag w.flag)
    (Decides-and _ _ (options_decide nat_eq unsigned_Decides v.port w.port)
    (Decides-and _ _ (bytes_decides v.path w.path) (text_decides v.spelling w.spelling)))))))

-- equality of locations decides that they are one value
pub location_decides : (v w : Location) → Decides (location_eq v w) (v ≡ w)
location_decides v w = (
  λ e. parts_same v w ((parts_decide v w).0 e),
  λ e. subst (λ u. location_eq v u ≡ true) e
      ((parts_decide v v).1 (refl, (refl, (refl, (refl, (refl, (refl, (refl, refl)))))))),
)

-- equality of locations is an equivalence
pub location_equiv : IsEquivalence location_eq
location_equiv = decided location_eq location_decides

-- ---- the order is total

-- the order of optional texts is total
pub text_total : IsTotalOrder text_cmp
text_total = options_total nat_list_cmp_total

-- the order of schemes is total
pub scheme_total : IsTotalOrder scheme_cmp
scheme_total = then_total (on_total rank nat_cmp_total) (on_total held_name text_total)

-- the order of locations is total
pub location_total : IsTotalOrder location_cmp
location_total =
    then_total (on_total (λ v. v.scheme) scheme_total)
    (then_total (on_total (λ v. v.user) text_total)
    (then_total (on_total (λ v. v.password) text_total)
    (then_total (on_total (λ v. v.host) text_total)
    (then_total (on_total (λ v. v.flag) bool_cmp_total)
    (then_total (on_total (λ v. v.port) (options_total nat_cmp_total))
    (then_total (on_total (λ v. v.path) nat_list_cmp_total)
    (on_total (λ v. v.spelling) text_total)))))))

-- ---- values are equal exactly if the order doesn't distinguish them

-- if values are equal exactly if the order doesn't distinguish them, optional values are too
options_tie : {K : Type 0} (E : K → K → Bool) (R : K → K → Ordering)
    → ((x y : K) → E x y ≡ eq_by_cmp R x y) → (p q : Option K)
    → option_eq E p q ≡ eq_by_cmp (option_cmp R) p q
options_tie E R t None None = refl
options_tie E R t None (Some y) = refl
options_tie E R t (Some x) None = refl
options_tie E R t (Some x) (Some y) = t x y

-- optional texts are equal exactly if the order doesn't distinguish them
pub text_ties : (p q : Option (List ℕ)) → text_eq p q ≡ eq_by_cmp text_cmp p q
text_ties = options_tie bytes_eq bytes_cmp texts_ties

flag_ties : (a b : Bool) → beq a b ≡ eq_by_cmp bool_cmp a b
flag_ties false false = refl
flag_ties false true = refl
flag_ties true false = refl
flag_ties true true = refl

-- schemes are equal exactly if the order doesn't distinguish them
pub scheme_ties : (p q : Scheme) → scheme_eq p q ≡ eq_by_cmp scheme_cmp p q
scheme_ties p q = both_tied _ _ _ _ (unsigned_ties (rank p) (rank q))
    (text_ties (held_name p) (held_name q))

-- locations are equal exactly if the order doesn't distinguish them
pub location_ties : (v w : Location) → location_eq v w ≡ eq_by_cmp location_cmp v w
location_ties v w =
    both_tied _ _ _ _ (scheme_ties v.scheme w.scheme)
    (both_tied _ _ _ _ (text_ties v.user w.user)
    (both_tied _ _ _ _ (text_ties v.password w.password)
    (both_tied _ _ _ _ (text_ties v.host w.host)
    (both_tied _ _ _ _ (flag_ties v.flag w.flag)
    (both_tied _ _ _ _ (options_tie nat_eq nat_cmp unsigned_ties v.port w.port)
    (both_tied _ _ _ _ (texts_ties v.path w.path) (text_ties v.spelling w.spelling)))))))

-- the order of schemes is a partial order that agrees with equality
pub scheme_po : IsPartialOrder scheme_eq (λ p q. Some (scheme_cmp p q))
scheme_po = po scheme_total scheme_ties

-- the order of locations is a partial order that agrees with equality
pub location_po : IsPartialOrder location_eq (λ v w. Some (location_cmp v w))
location_po = po location_total location_ties

-- ---- equal values are fed to a hasher alike

-- equal schemes feed a hasher alike
pub schemes_alike : (p q : Scheme) → scheme_eq p q ≡ true → fed_scheme p ≡ fed_scheme q
schemes_alike p q h = ap fed_scheme ((scheme_decides p q).0 h)

-- equal locations feed a hasher alike
pub locations_alike : (v w : Location) → location_eq v w ≡ true → fed_location v ≡ fed_location w
locations_alike v w h = ap fed_location ((location_decides v w).0 h)
