-- A configuration file has one reading.
use Rattle.std.proofs.Common.{◌≡◌, ℕ, List, [], ◌∷◌, inl, inr, Result, Ok, Err, refl, sym, ap, subst, ◌∙◌}
use Rattle.git_modules.specs.ConfigFileBytes.{unix_text}
use Rattle.git_modules.specs.ConfigFileFlaws.{Refusal}
use Rattle.git_modules.specs.ConfigFileItems.{Item, item_of, start_of}
use Rattle.git_modules.specs.ConfigFiles.{Turn, AreItems}
use Rattle.git_modules.specs.ConfigFileLaws.{OneListOfItems, NoEntriesAndStop, OneStop, OneFileReading}

-- an item is one item, and one text follows it
one_item : (r : Result (Item × List ℕ) Refusal) (i j : Item) (s t : List ℕ) → r ≡ Ok (i, s) → r ≡ Ok (j, t) → (i ≡ j) × (s ≡ t)
one_item r i j s t a b =
    let p : Item × List ℕ = (i, s) in
    let q : Item × List ℕ = (j, t) in
    let both : p ≡ q = cc in
    (ap (λ (x : Item × List ℕ). x.0) both, ap (λ (x : Item × List ℕ). x.1) both)

-- a turn is the rest and its item
one_turn : (t u : Turn) (left : List ℕ) → t.0 ≡ left → u.0 ≡ left → t.1 ≡ u.1 → t ≡ u
one_turn t u left a b e = let f : t.0 ≡ u.0 = a ∙ sym b in λ i. (f i, e i)

-- the lists of items to the end are the same
pub items_same : OneListOfItems
items_same text [] [] h k = refl
items_same text [] (u ∷ us) h k = absurd (k.0 h)
items_same text (t ∷ ts) [] h k = absurd (h.0 k)
items_same text (t ∷ ts) (u ∷ us) h k =
    let same = one_item (item_of text) t.1 u.1 h.2.0 k.2.0 h.2.1 k.2.1 in
    let others = items_same h.2.0 ts us h.2.2 (subst (λ (x : List ℕ). AreItems x us []) (sym same.1) k.2.2) in
    let turn : t ≡ u = one_turn t u text h.1 k.1 same.0 in
    cc

-- an item isn't a refusal
not_both : (r : Result (Item × List ℕ) Refusal) (i : Item) (s : List ℕ) (e : Refusal) → r ≡ Ok (i, s) → r ≡ Err e → ⊥
not_both r i s e a b = cc

-- no item begins if nothing is left
none_at_end : (e : Refusal) → item_of [] ≡ Err e → ⊥
none_at_end e h = cc

-- if all items are read, no front of them ends in a refusal
pub read_or_stopped : (text : List ℕ) (a b : List Turn) (left : List ℕ) (e : Refusal) → AreItems text a [] → AreItems text b left → item_of left ≡ Err e → ⊥
read_or_stopped text [] [] left e h k s = none_at_end e (ap item_of (sym h ∙ k) ∙ s)
read_or_stopped text [] (u ∷ us) left e h k s = k.0 h
read_or_stopped text (t ∷ ts) [] left e h k s = not_both (item_of text) t.1 h.2.0 e h.2.1 (ap item_of k ∙ s)
read_or_stopped text (t ∷ ts) (u ∷ us) left e h k s =
    let same = one_item (item_of text) t.1 u.1 h.2.0 k.2.0 h.2.1 k.2.1 in
    read_or_stopped h.2.0 ts us left e h.2.2 (subst (λ (x : List ℕ). AreItems x us left) (sym same.1) k.2.2) s

-- two fronts that end in a refusal end in the same
pub stopped_once : (text : List ℕ) (a b : List Turn) (left other : List ℕ) (e f : Refusal) → AreItems text a left → AreItems text b other → item_of left ≡ Err e → item_of other ≡ Err f → e ≡ f
stopped_once text [] [] left other e f h k s t = let w : item_of text ≡ Err e = ap item_of h ∙ s in let v : item_of text ≡ Err f = ap item_of k ∙ t in cc
stopped_once text [] (u ∷ us) left other e f h k s t = absurd (not_both (item_of text) u.1 k.2.0 e k.2.1 (ap item_of h ∙ s))
stopped_once text (p ∷ ps) [] left other e f h k s t = absurd (not_both (item_of text) p.1 h.2.0 f h.2.1 (ap item_of k ∙ t))
stopped_once text (p ∷ ps) (u ∷ us) left other e f h k s t =
    let same = one_item (item_of text) p.1 u.1 h.2.0 k.2.0 h.2.1 k.2.1 in
    stopped_once h.2.0 ps us left other e f h.2.2 (subst (λ (x : List ℕ). AreItems x us other) (sym same.1) k.2.2) s t

-- the text after a byte order mark is one text
one_start : (r : Result (List ℕ) Refusal) (s t : List ℕ) → r ≡ Ok s → r ≡ Ok t → s ≡ t
one_start r s t a b = cc

-- a start isn't a refusal
no_start : (r : Result (List ℕ) Refusal) (s : List ℕ) (e : Refusal) → r ≡ Ok s → r ≡ Err e → ⊥
no_start r s e a b = cc

-- a text that is read to its end stops nowhere
pub entries_or_stop : NoEntriesAndStop
entries_or_stop text found refusal h (inl stop) = no_start (start_of (unix_text text)) h.0 refusal h.2 stop
entries_or_stop text found refusal h (inr stop) =
    let same = one_start (start_of (unix_text text)) stop.0 h.0 stop.3 h.2 in
    read_or_stopped h.0 h.1 stop.1 stop.2 refusal h.3 (subst (λ (x : List ℕ). AreItems x stop.1 stop.2) same stop.4) stop.5

-- a text stops once
pub stops_same : OneStop
stops_same text a b (inl h) (inl k) = cc
stops_same text a b (inl h) (inr k) = absurd (no_start (start_of (unix_text text)) k.0 a k.3 h)
stops_same text a b (inr h) (inl k) = absurd (no_start (start_of (unix_text text)) h.0 b h.3 k)
stops_same text a b (inr h) (inr k) =
    let same = one_start (start_of (unix_text text)) k.0 h.0 k.3 h.3 in
    stopped_once h.0 h.1 k.1 h.2 k.2 a b h.4 (subst (λ (x : List ℕ). AreItems x k.1 k.2) same k.4) h.5 k.5

-- a text has one reading
pub one_reading : OneFileReading
one_reading = (items_same, entries_or_stop, stops_same)
