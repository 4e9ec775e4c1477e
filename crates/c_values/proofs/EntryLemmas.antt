-- The entries of a listing, read in turn.
use Rattle.std.proofs.Common.{◌≡◌, ◌∙◌, List, [], ◌∷◌, ◌++◌, map, Ok, refl, ap, sym, subst}
use Rattle.git_rules.specs.Config.{ConfigEntry}
use Rattle.git_rules.specs.ConfigItems.{Item, Place, ReadsItem, ReadsItems}
use Rattle.c_values.specs.EntryNumbers.{ReadsUpTo}

-- one item further
pub read_more : (first : Place) (done : List Item) (from next : Place) (item : Item)
    → ReadsUpTo first done from → ReadsItem from item next → ReadsUpTo first (done ++ item ∷ []) next
read_more first [] from next item h read = (next, subst (λ place. ReadsItem place item next) (sym h) read, refl)
read_more first (d ∷ done) from next item (place, one, others) read =
    (place, one, read_more place done from next item others read)

-- nothing is left
pub read_all : (first : Place) (done : List Item) (from : Place) → ReadsUpTo first done from → from.rest ≡ []
    → ReadsItems first done
read_all first [] from h empty = ap (λ place. place.rest) h ∙ empty
read_all first (d ∷ done) from (place, one, others) empty = (place, one, read_all place done from others empty)

-- the items that entries are
abbrev pub items_of : List ConfigEntry → List Item
items_of found = map Ok found

-- one entry more
pub kept_more : (found : List ConfigEntry) (e : ConfigEntry) → items_of found ++ Ok e ∷ [] ≡ items_of (found ++ e ∷ [])
kept_more [] e = refl
kept_more (f ∷ found) e = ap (λ items. Ok f ∷ items) (kept_more found e)
