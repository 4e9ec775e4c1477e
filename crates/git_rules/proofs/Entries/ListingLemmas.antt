-- The items of a text up to a place, and the items from there on.
use Rattle.std.proofs.Common.{◌≡◌, List, [], ◌∷◌, ◌++◌, refl, sym, ap, subst, append_assoc, ◌∙◌}
use Rattle.std.specs.List.{All, Contains}
use Rattle.std.proofs.lemmas.List.Elements.{All-contains, Contains-append_left, Contains-push}
use Rattle.git_rules.specs.ConfigItems.{IsEntry, Item, Place, ReadsItem, ReadsItems}
use Rattle.git_rules.proofs.Entries.OneReadingLemmas.{no_item, step_unique}

-- each reading from the first place has these items first, and goes on from another place
abbrev pub Splits : Place → List Item → Place → Type 0
Splits first done from = (items : List Item) → ReadsItems first items
    → (more : List Item) × (items ≡ done ++ more) × ReadsItems from more

-- an item at a place comes first in each reading from there
after_item : (from next : Place) (item : Item) (more : List Item) → ReadsItem from item next → ReadsItems from more → (rest : List Item) × (more ≡ item ∷ rest) × ReadsItems next rest
after_item from next item [] read h = absurd (no_item from item next h read)
after_item from next item (x ∷ more) read (n, also, rest) =
    let same = step_unique from x item n next also read in
    (more, ap (λ z. z ∷ more) same.0, subst (λ p. ReadsItems p more) same.1 rest)

-- one item further
pub splits_item : (first : Place) (done : List Item) (from next : Place) (item : Item) → Splits first done from → ReadsItem from item next → Splits first (done ++ item ∷ []) next
splits_item first done from next item h read items all =
    let at = h items all in
    let after = after_item from next item at.0 read at.2 in
    (after.0, at.1 ∙ ap (λ more. done ++ more) after.1 ∙ sym (append_assoc done (item ∷ []) after.0), after.2)

-- a reading with an item that isn't an entry has not only entries
pub lacks_entry : (first : Place) (done : List Item) (from next : Place) (item : Item) → Splits first done from → ReadsItem from item next → ¬ IsEntry item → (items : List Item) → ReadsItems first items → ¬ All IsEntry items
lacks_entry first done from next item h read lacks items all entries =
    let at = splits_item first done from next item h read items all in
    let held = Contains-append_left (done ++ item ∷ []) at.0 item (Contains-push done item) in
    lacks (All-contains IsEntry items item entries (subst (λ its. Contains its item) (sym at.1) held))
