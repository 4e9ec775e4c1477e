-- The items of a text, read in turn.
use Rattle.std.proofs.Common.{◌≡◌, List, [], ◌∷◌, ◌++◌, Ok, Err, refl, sym, ap, subst, append_assoc, append-nil, ◌∙◌}
use Rattle.git_rules.specs.Config.{ConfigEntry}
use Rattle.git_rules.specs.ConfigItems.{Item, Place, ReadsItem, ReadsItems, entries_of}

-- the reading from a place on, with the items before it, is the reading from the first place on
abbrev pub Continues : Place → List Item → Place → Type 0
Continues first done from = (more : List Item) → ReadsItems from more → ReadsItems first (done ++ more)

-- one item further
pub item_done : (first : Place) (done : List Item) (from next : Place) (item : Item) → Continues first done from → ReadsItem from item next → Continues first (done ++ item ∷ []) next
item_done first done from next item h read more rest =
    subst (λ all. ReadsItems first all) (sym (append_assoc done (item ∷ []) more)) (h (item ∷ more) (next, read, rest))

-- nothing is left
pub all_done : (first : Place) (done : List Item) (from : Place) → Continues first done from → from.rest ≡ [] → ReadsItems first done
all_done first done from h empty = subst (λ all. ReadsItems first all) (append-nil done) (h [] empty)

-- the entries among joined items
pub entries_of-append : (a b : List Item) → entries_of (a ++ b) ≡ entries_of a ++ entries_of b
entries_of-append [] b = refl
entries_of-append (Ok e ∷ a) b = ap (λ es. e ∷ es) (entries_of-append a b)
entries_of-append (Err e ∷ a) b = entries_of-append a b

-- the entries kept so far and the entry in one more item
pub one_kept : (done : List Item) (item : Item) (found new : List ConfigEntry) → found ≡ entries_of done → new ≡ found ++ entries_of (item ∷ []) → new ≡ entries_of (done ++ item ∷ [])
one_kept done item found new h more =
    more ∙ ap (λ es. es ++ entries_of (item ∷ [])) h ∙ sym (entries_of-append done (item ∷ []))
