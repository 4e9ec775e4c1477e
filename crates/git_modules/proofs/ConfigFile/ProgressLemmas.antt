-- How far a configuration file is read: its items up to a place, and their entries.
use Rattle.std.proofs.Common.{◌≡◌, ℕ, ◌≤◌, List, [], ◌∷◌, ◌++◌, length, Option, Ok, Err, refl, sym, ap, subst, ◌∙◌, append_assoc, option_map, inl, inr}
use Rattle.std.proofs.lemmas.List.{append-nil}
use Rattle.git_modules.specs.declared.config_file.FileEntry.{FileEntry}
use Rattle.git_modules.specs.declared.config_file.flaw.FileError.{FileError}
use Rattle.git_modules.specs.declared.config_file.flaw.FileError.TheVariants as error
use Rattle.git_modules.specs.declared.config_file.keep.Owner.{Owner}
use Rattle.git_modules.specs.declared.config_file.step.Step.{Step}
use Rattle.git_modules.specs.declared.config_file.step.Step.TheVariants.{Nothing, Header, Setting}
use Rattle.git_modules.specs.ConfigFileBytes.{unix_text, left_at}
use Rattle.git_modules.specs.ConfigFileFlaws.{Refusal}
use Rattle.git_modules.specs.ConfigFileItems.{Item, gap, header, setting, item_of, start_of}
use Rattle.git_modules.specs.ConfigFileSteps.{item_in}
use Rattle.git_modules.specs.ConfigFileKeeping.{Owns, IsMadeOf, Keeps}
use Rattle.git_modules.specs.ConfigFiles.{Turn, AreItems, AreEntries, HasFileEntries, IsPlace, IsEntry, StopsAt, SpellsStem, IsErrorOf, IsErrorAt, IsFileError, line_at}

-- one more item
pub one_more : (left : List ℕ) (ts : List Turn) (last rest : List ℕ) (item : Item) → AreItems left ts last → ¬ (last ≡ []) → item_of last ≡ Ok (item, rest) → AreItems left (ts ++ (last, item) ∷ []) rest
one_more left [] last rest item h some e = ((λ z. some (sym h ∙ z)), sym h, (rest, ap item_of h ∙ e, refl))
one_more left (t ∷ ts) last rest item h some e = (h.0, h.1, (h.2.0, h.2.1, one_more h.2.0 ts last rest item h.2.2 some e))

-- the items up to a place have these entries, and the keys after it begin with a stem: whatever the entries
-- of the text after are, they come after these
abbrev pub HasFront : List ℕ → List Turn → List FileEntry → List ℕ → Type 0
HasFront text done found stem = (ts : List Turn) (others : List FileEntry) → AreEntries text stem ts others → AreEntries text [] (done ++ ts) (found ++ others)

-- how far a text is read
abbrev pub IsAt : List ℕ → ℕ → ℕ → Owner → List FileEntry → Type 0
IsAt text at line owner found = (first : List ℕ) × (done : List Turn) × (stem : List ℕ) × (start_of (unix_text text) ≡ Ok first)
    × AreItems first done (left_at text at) × Owns stem owner × HasFront text done found stem × (line ≡ line_at text at) × (at ≤ length text)

-- the text that is read of an item is the front with the item
front_gap : (text : List ℕ) (done : List Turn) (found : List FileEntry) (stem left : List ℕ) → HasFront text done found stem → HasFront text (done ++ (left, gap) ∷ []) found stem
front_gap text done found stem left front ts others h = subst (λ (x : List Turn). AreEntries text [] x (found ++ others)) (sym (append_assoc done ((left, gap) ∷ []) ts)) (front ((left, gap) ∷ ts) others h)

front_header : (text : List ℕ) (done : List Turn) (found : List FileEntry) (stem next left : List ℕ) → HasFront text done found stem → HasFront text (done ++ (left, header next) ∷ []) found next
front_header text done found stem next left front ts others h = subst (λ (x : List Turn). AreEntries text [] x (found ++ others)) (sym (append_assoc done ((left, header next) ∷ []) ts)) (front ((left, header next) ∷ ts) others h)

front_setting : (text : List ℕ) (done : List Turn) (found : List FileEntry) (stem left key : List ℕ) (value : Option (List ℕ)) (e : FileEntry) → HasFront text done found stem → IsEntry text stem left key value e → HasFront text (done ++ (left, setting key value) ∷ []) (found ++ e ∷ []) stem
front_setting text done found stem left key value e front is ts others h =
    let all = front ((left, setting key value) ∷ ts) (e ∷ others) (e, others, refl, is, h) in
    let a : done ++ ((left, setting key value) ∷ ts) ≡ (done ++ (left, setting key value) ∷ []) ++ ts = sym (append_assoc done ((left, setting key value) ∷ []) ts) in
    let b : found ++ (e ∷ others) ≡ (found ++ e ∷ []) ++ others = sym (append_assoc found (e ∷ []) others) in
    subst (λ (x : List Turn). AreEntries text [] x ((found ++ e ∷ []) ++ others)) a (subst (λ (y : List FileEntry). AreEntries text [] (done ++ ((left, setting key value) ∷ ts)) y) b all)

-- the entry that is made is that of the setting
made_entry : (text stem left key : List ℕ) (value : Option (List ℕ)) (owner : Owner) (at line : ℕ) (e : FileEntry) → Owns stem owner → IsMadeOf owner key value at line e → at ≤ length text → left ≡ left_at text at → line ≡ line_at text at → IsEntry text stem left key value e
made_entry text stem left key value owner at line e owns made h l n =
    let s : e.entry.section ≡ owner.section.now = made.0 in
    let p : e.entry.at ≡ at = made.4 in
    let b = subst (λ (x : List ℕ). SpellsStem stem x (option_map (λ t. t.now) owner.subsection)) (sym made.0) owns in
    let d = subst (λ (x : Option (List ℕ)). SpellsStem stem e.entry.section x) (sym made.1) b in
    (d, made.2, made.3, subst (λ (k : ℕ). IsPlace text left k) (sym p) (h, sym l), made.5 ∙ n ∙ ap (line_at text) (sym p))

-- the text is read one item further
pub goes_on : (text : List ℕ) (at line next last : ℕ) (step : Step) (owner heir : Owner) (old new : List FileEntry) → IsAt text at line owner old → ¬ (left_at text at ≡ []) → item_of (left_at text at) ≡ Ok (item_in step, left_at text next) → Keeps step owner at line old new heir → last ≡ line_at text next → next ≤ length text → IsAt text next last heir new
goes_on text at line next last Nothing owner heir old new h some item kept counted within =
    let front = subst (λ (x : List FileEntry). HasFront text (h.1 ++ (left_at text at, gap) ∷ []) x h.2) (sym kept.0) (front_gap text h.1 old h.2 (left_at text at) h.6) in
    (h.0, h.1 ++ (left_at text at, gap) ∷ [], h.2, h.3, one_more h.0 h.1 (left_at text at) (left_at text next) gap h.4 some item, subst (λ (o : Owner). Owns h.2 o) (sym kept.1) h.5, front, counted, within)
goes_on text at line next last (Header stem) owner heir old new h some item kept counted within =
    let front = subst (λ (x : List FileEntry). HasFront text (h.1 ++ (left_at text at, header stem.now) ∷ []) x stem.now) (sym kept.0) (front_header text h.1 old h.2 stem.now (left_at text at) h.6) in
    (h.0, h.1 ++ (left_at text at, header stem.now) ∷ [], stem.now, h.3, one_more h.0 h.1 (left_at text at) (left_at text next) (header stem.now) h.4 some item, kept.1, front, counted, within)
goes_on text at line next last (Setting key value) owner heir old new h some item kept counted within =
    let v = option_map (λ t. t.now) value in
    let is = made_entry text h.2 (left_at text at) key.now v owner at line kept.1.0 h.5 kept.1.2 h.8 refl h.7 in
    let front = subst (λ (x : List FileEntry). HasFront text (h.1 ++ (left_at text at, setting key.now v) ∷ []) x h.2) (sym kept.1.1) (front_setting text h.1 old h.2 (left_at text at) key.now v kept.1.0 h.6 is) in
    (h.0, h.1 ++ (left_at text at, setting key.now v) ∷ [], h.2, h.3, one_more h.0 h.1 (left_at text at) (left_at text next) (setting key.now v) h.4 some item, subst (λ (o : Owner). Owns h.2 o) (sym kept.0) h.5, front, counted, within)

-- nothing is read after the mark
pub begins : (text : List ℕ) (at line : ℕ) (owner : Owner) (found : List FileEntry) → start_of (unix_text text) ≡ Ok (left_at text at) → Owns [] owner → line ≡ line_at text at → at ≤ length text → found ≡ [] → IsAt text at line owner found
begins text at line owner found start owns counted within none =
    let front : HasFront text [] [] [] = λ ts others h. h in
    (left_at text at, [], [], start, refl, owns, subst (λ (x : List FileEntry). HasFront text [] x []) (sym none) front, counted, within)

-- all is read: the entries are those of the text
pub all_read : (text : List ℕ) (at line : ℕ) (owner : Owner) (found : List FileEntry) → IsAt text at line owner found → left_at text at ≡ [] → HasFileEntries text found
all_read text at line owner found h e =
    let items = subst (λ (x : List ℕ). AreItems h.0 h.1 x) e h.4 in
    let kept = h.6 [] [] refl in
    let a = subst (λ (x : List Turn). AreEntries text [] x (found ++ [])) (append-nil h.1) kept in
    (h.0, h.1, h.3, items, subst (λ (x : List FileEntry). AreEntries text [] h.1 x) (append-nil found) a)
