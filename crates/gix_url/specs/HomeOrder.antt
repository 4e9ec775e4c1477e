-- Equality, order and hash of users of home folders: the current user comes first, others by the bytes of
-- their names.
use Rattle.std.specs.Prelude.{◌≡◌, Bool, true, List, ◌++◌, ℕ, Option, Some, None}
use mathlib.Core.Path.{refl, sym, ap, ◌∙◌}
use Rattle.std.specs.Bool.{Decides}
use Rattle.std.specs.declared.cmp.Ordering.{Ordering}
use Rattle.std.specs.Ordering.{eq_by_cmp, on}
use Rattle.std.specs.Cmp.{IsEquivalence, IsPartialOrder, IsTotalOrder, decided, on_total, po}
use Rattle.std.specs.Hash as fed
use Rattle.std.specs.Hash.{HashWrites}
use Rattle.gix_url.specs.Homes.{HomeUser}
use Rattle.gix_url.specs.Homes.HomeUser.{current, named}
use Rattle.git_laws.specs.Order.{text_eq, text_cmp, there, fed_bytes, fed_part}
use Rattle.git_laws.specs.OrderLaws.{text_decides, text_total, text_ties}

-- the name of a user, if there is one
abbrev pub user_name : HomeUser → Option (List ℕ)
user_name current = None
user_name (named name) = Some name

-- users are equal if their names are, or if both have none
abbrev pub user_eq : HomeUser → HomeUser → Bool
user_eq u v = text_eq (user_name u) (user_name v)

-- users are ordered by their names; a user without one comes first
abbrev pub user_cmp : HomeUser → HomeUser → Ordering
user_cmp = on user_name text_cmp

-- a user feeds a hasher whether there is a name, and the name
abbrev pub fed_user : HomeUser → HashWrites
fed_user u = fed.u8 (there (user_name u)) ++ fed_part fed_bytes (user_name u)

-- ---- laws

-- the user of that name
user_at : Option (List ℕ) → HomeUser
user_at None = current
user_at (Some name) = named name

user_itself : (u : HomeUser) → user_at (user_name u) ≡ u
unfolding user_at
user_itself current = refl
user_itself (named name) = refl

-- equal users are one user
pub user_decides : (u v : HomeUser) → Decides (user_eq u v) (u ≡ v)
user_decides u v = (
  λ e. sym (user_itself u) ∙
      (ap user_at ((text_decides (user_name u) (user_name v)).0 e) ∙ user_itself v),
  λ e.
      (text_decides (user_name u) (user_name v)).1 (ap user_name e),
)

-- equality of users is an equivalence
pub user_equiv : IsEquivalence user_eq
user_equiv = decided user_eq user_decides

-- the order of users is total
pub user_total : IsTotalOrder user_cmp
user_total = on_total user_name text_total

-- users are equal exactly if the order doesn't distinguish them
pub user_ties : (u v : HomeUser) → user_eq u v ≡ eq_by_cmp user_cmp u v
user_ties u v = text_ties (user_name u) (user_name v)

-- the order of users is a partial order that agrees with equality
pub user_po : IsPartialOrder user_eq (λ u v. Some (user_cmp u v))
user_po = po user_total user_ties

-- equal users feed a hasher alike
pub users_alike : (u v : HomeUser) → user_eq u v ≡ true → fed_user u ≡ fed_user v
users_alike u v e = ap fed_user ((user_decides u v).0 e)
