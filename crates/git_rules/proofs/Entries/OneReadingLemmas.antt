-- A text is read in one way.
use Rattle.std.proofs.Common.{◌≡◌, ℕ, ◌+◌, ◌==◌, inl, inr, List, [], ◌∷◌, ◌++◌, Option, Some, None, Ok, Err, length, refl, sym, ap, subst, ◌∙◌}
use Rattle.git_syntax.specs.Bytes.{FreeOf, dot, newline}
use Rattle.git_syntax.proofs.Texts.CutLemmas.{class_cut_unique, cut_unique, not_free, tails}
use Rattle.git_rules.specs.Config.{ConfigEntry, SpellsEntry, name_text, value_text}
use Rattle.git_rules.specs.ConfigItems.{Item, MeansItem, Place, ReadsItem, ReadsItems}
use Rattle.git_rules.specs.declared.config.EntryError.TheVariants.{NoEnd, NoKey}
use Rattle.git_rules.proofs.Entries.KeyLemmas.{name_unique, value_begins}

-- the text after a key determines the value
value_unique : (v w : Option (List ℕ)) → value_text v ≡ value_text w → v ≡ w
value_unique None None e = refl
value_unique None (Some w) e = cc
value_unique (Some v) None e = cc
value_unique (Some v) (Some w) e = ap (λ t. Some t) (tails e)

-- a line spells one entry at a place
entry_unique : (line : List ℕ) (e f : ConfigEntry) → SpellsEntry line e → SpellsEntry line f → e.at ≡ f.at → e ≡ f
entry_unique line e f (k, free_k, (is_k, key_k), whole_k) (l, free_l, (is_l, key_l), whole_l) at =
    let pieces = class_cut_unique (λ d. d == newline) k l (value_text e.value) (value_text f.value) free_k free_l (value_begins e.value) (value_begins f.value) (sym whole_k ∙ whole_l) in
    let keys = cut_unique dot e.section f.section (name_text e.subsection e.name) (name_text f.subsection f.name) is_k.0 is_l.0 (sym key_k ∙ pieces.0 ∙ key_l) in
    let names = name_unique e.subsection f.subsection e.name f.name is_k.2 is_l.2 keys.1 in
    let values = value_unique e.value f.value pieces.1 in
    λ i. record { section = keys.0 i; subsection = names.0 i; name = names.1 i; value = values i; at = at i }

-- and denotes one item
item_unique : (at : ℕ) (line : List ℕ) (a b : Item) → MeansItem at line a → MeansItem at line b → a ≡ b
item_unique at line (Ok e) (Ok f) h k = ap (λ x. Ok x) (entry_unique line e f h.0 k.0 (h.1 ∙ sym k.1))
item_unique at line (Ok e) (Err (NoKey p)) h k = absurd (k.1 e h.0)
item_unique at line (Ok e) (Err (NoEnd p)) h k = absurd k
item_unique at line (Err (NoKey p)) (Ok f) h k = absurd (h.1 f k.0)
item_unique at line (Err (NoKey p)) (Err (NoKey q)) h k = ap (λ n. Err (NoKey n)) (h.0 ∙ sym k.0)
item_unique at line (Err (NoKey p)) (Err (NoEnd q)) h k = absurd k
item_unique at line (Err (NoEnd p)) b h k = absurd h

-- a place determines its item and the place after it
pub step_unique : (from : Place) (a b : Item) (m n : Place) → ReadsItem from a m → ReadsItem from b n → (a ≡ b) × (m ≡ n)
step_unique from a b m n (inl (line, free, whole, at, means)) (inl (other, free_o, whole_o, at_o, means_o)) =
    let cut = cut_unique 0 line other m.rest n.rest free free_o (sym whole ∙ whole_o) in
    let places : m.at ≡ n.at = at ∙ ap (λ l. from.at + length l + 1) cut.0 ∙ sym at_o in
    (item_unique from.at line a b means (subst (λ l. MeansItem from.at l b) (sym cut.0) means_o), λ i. record { rest = cut.1 i; at = places i })
step_unique from a b m n (inl (line, free, whole, at, means)) (inr (none, some, is, empty, end)) =
    absurd (not_free 0 line m.rest (subst (λ t. FreeOf 0 t) whole none))
step_unique from a b m n (inr (none, some, is, empty, end)) (inl (line, free, whole, at, means)) =
    absurd (not_free 0 line n.rest (subst (λ t. FreeOf 0 t) whole none))
step_unique from a b m n (inr (none, some, is, empty, end)) (inr (_, _, is_o, empty_o, end_o)) =
    let rests : m.rest ≡ n.rest = empty ∙ sym empty_o in
    let places : m.at ≡ n.at = end ∙ sym end_o in
    (is ∙ sym is_o, λ i. record { rest = rests i; at = places i })

-- no line and its end are the empty text
not_empty : (line rest : List ℕ) → ¬ (line ++ 0 ∷ rest ≡ [])
not_empty [] rest e = cc
not_empty (b ∷ line) rest e = cc

-- at the end there is no item
pub no_item : (from : Place) (a : Item) (m : Place) → from.rest ≡ [] → ¬ ReadsItem from a m
no_item from a m empty (inl (line, free, whole, at, means)) = not_empty line m.rest (sym whole ∙ empty)
no_item from a m empty (inr (none, some, is, rest, end)) = some empty

-- a place determines the items from there on
pub items_unique : (from : Place) (a b : List Item) → ReadsItems from a → ReadsItems from b → a ≡ b
items_unique from [] [] h k = refl
items_unique from [] (y ∷ b) h (n, read, rest) = absurd (no_item from y n h read)
items_unique from (x ∷ a) [] (m, read, rest) k = absurd (no_item from x m k read)
items_unique from (x ∷ a) (y ∷ b) (m, read, rest) (n, also, others) =
    let same = step_unique from x y m n read also in
    let more = items_unique n a b (subst (λ p. ReadsItems p a) same.1 rest) others in
    ap (λ z. z ∷ a) same.0 ∙ ap (λ zs. y ∷ zs) more
