-- Components that are returned: they are those of the location, and each borrowed text is part of its path.
use Rattle.std.proofs.Common.{◌≡◌, ◌∙◌, ℕ, Bool, true, false, ◌⊎◌, inl, inr, List, [], ◌∷◌, ◌++◌, map, length, Option, Some, None, option_map, IfSome, All, Result, Ok, Err, IsOk, IsErr, refl, sym, ap, subst, append_assoc, arith, ⊎_elim}
use Rattle.std.specs.List.{join_with_byte}
use Rattle.std.proofs.lemmas.Bool.{cases_Bool}
use Rattle.std.proofs.lemmas.List.{append-nil}
use Rattle.std.proofs.lemmas.List.Elements.{All-nil, All-cons, All-head, All-tail}
use Rattle.percent_encoding.specs.Percent.{percent_decode}
use Rattle.bstr.specs.declared.bstr.BStr.{BStr}
use Rattle.bstr.specs.BStr.{bstr_bytes}
use Rattle.gix_url.specs.declared.components.PathComponents.{PathComponents}
use Rattle.gix_url.specs.declared.components.QueryText.{QueryText}
use Rattle.gix_url.specs.declared.components.QueryText.TheVariants.{Borrowed, Owned}
use Rattle.gix_url.specs.declared.components.cuts.EscapedText.{EscapedText}
use Rattle.git_syntax.specs.Bytes.{slash, number_sign, question_mark, Holds, ampersand, equals_sign}
use Rattle.std.proofs.lemmas.Option.{IfSome_then}
use Rattle.git_syntax.specs.Location.{Location}
use Rattle.git_syntax.specs.Grammar.{or_root}
use Rattle.git_location.specs.Text.{matching_or, original_path}
use Rattle.git_laws.specs.Components.{Components, term_of, CutsText, CutsPath, SplitsField, PairsOf, QueryOf, WebComponents}
use Rattle.git_syntax.specs.Escapes.{matches}
use Rattle.gix_url.specs.Internal.Meanings.{denoted_by}
use Rattle.gix_url.specs.ComponentViews.{text_bytes, pair_bytes, components, BorrowedTerm, BorrowedPairs, BorrowedQuery}
use Rattle.gix_url.specs.Internal.ComponentPieces.{BorrowsTerm, BorrowsPairs, BorrowsQuery, BorrowsParts, HasQuery, SpellsPath}
use Rattle.git_laws.proofs.ComponentCuts.ComponentLemmas.{matched, unmatched}
use Rattle.gix_url.proofs.ComponentCuts.MeaningLemmas.{Parts, denoted-nil, denoted_around, denoted_spaces}
use Rattle.git_laws.proofs.ComponentCuts.CutComponentLemmas.{path_unique, no_query}

-- ---- the spelling that matches

-- no text is every text
not_every : (s : List ℕ) → ((t : List ℕ) → s ≡ t) → ⊥
not_every s h = omega (arith, ap length (h (0 ∷ s)))

-- the spelling that was found is the one that matches
pub found_spelling : (s : List ℕ) (spelling : Option (List ℕ)) (path : List ℕ) → ((other : List ℕ) → s ≡ matching_or spelling path other) → (matches spelling path ≡ true) × (percent_decode s ≡ path)
found_spelling s spelling path h = ⊎_elim
    (λ yes.
    let (t, is, decoded, chosen) = matched spelling path path yes in
    (yes, ap percent_decode (h path ∙ chosen) ∙ decoded))
    (λ none. absurd (not_every s (λ t. h t ∙ unmatched spelling path t none)))
    (cases_Bool (matches spelling path))

-- if none was found, none matches
pub no_spelling : (spelling : Option (List ℕ)) (path : List ℕ) → ((other : List ℕ) → other ≡ matching_or spelling path other) → matches spelling path ≡ false
no_spelling spelling path h = ⊎_elim
    (λ yes.
    let (s, is, decoded, chosen) = matched spelling path [] yes in
    absurd (not_every s (λ t. let (r, same, decoded_2, chosen_2) = matched spelling path t yes in
    let one : s ≡ r = let e : Some s ≡ Some r = sym is ∙ same in cc in
    one ∙ sym (h t ∙ chosen_2))))
    (λ none. none)
    (cases_Bool (matches spelling path))

-- ---- the texts that are part of the path

-- a text is part of itself
held_self : (t : List ℕ) → Holds t t
held_self t = ([], [], sym (append-nil t))

-- a part of a part of a text is part of the text
held_within : (a b c : List ℕ) → Holds a b → Holds b c → Holds a c
held_within a b c (x, y, e) (z, w, k) =
    (z ++ x, y ++ w, k ∙ ap (λ t. z ++ (t ++ w)) e ∙ ap (λ t. z ++ t) (append_assoc x (a ++ y) w ∙ ap (λ t. x ++ t) (append_assoc a y w)) ∙ sym (append_assoc z x (a ++ (y ++ w))))

-- the meaning of the texts around a delimiter is part of the meaning of the whole
held_around : (escaped : Bool) (text x y : List ℕ) (c : ℕ) → Parts c → text ≡ x ++ c ∷ y → Holds (denoted_by escaped x) (denoted_by escaped text) × Holds (denoted_by escaped y) (denoted_by escaped text)
held_around escaped text x y c parts cut =
    let split = ap (denoted_by escaped) cut ∙ denoted_around escaped x y c parts in (
      ([], c ∷ denoted_by escaped y, split),
      (denoted_by escaped x ++ c ∷ [], [], split ∙ sym (append_assoc (denoted_by escaped x) (c ∷ []) (denoted_by escaped y)) ∙ ap (λ t. (denoted_by escaped x ++ c ∷ []) ++ t) (sym (append-nil (denoted_by escaped y)))),
    )

-- `?` parts a text
question_parts : Parts question_mark
question_parts = record { digit = refl; percent = refl }

-- so does `#`
number_parts : Parts number_sign
number_parts = record { digit = refl; percent = refl }

-- the meaning of the parts of a text around its first c is part of the meaning of the text
held_off : (escaped : Bool) (text front : List ℕ) (suffix : Option (List ℕ)) (c : ℕ) → Parts c → CutsText c text front suffix → Holds (denoted_by escaped front) (denoted_by escaped text) × IfSome suffix (λ x. Holds (denoted_by escaped x) (denoted_by escaped text))
held_off escaped text front None c parts (free, e) =
    (subst (λ t. Holds (denoted_by escaped front) (denoted_by escaped t)) e (held_self (denoted_by escaped front)), tt)
held_off escaped text front (Some x) c parts (free, e) = held_around escaped text front x c parts e

-- the meaning of the pieces of a path is part of the meaning of the path
record HoldsPieces (escaped : Bool) (whole front : List ℕ) (query fragment : Option (List ℕ)) : Type 0 where
  front_held : Holds (denoted_by escaped front) whole
  query_held : IfSome query (λ q. Holds (denoted_by escaped q) whole)
  fragment_held : IfSome fragment (λ f. Holds (denoted_by escaped f) whole)

-- it does
held_pieces : (escaped : Bool) (text front : List ℕ) (query fragment : Option (List ℕ)) → CutsPath text front query fragment → HoldsPieces escaped (denoted_by escaped text) front query fragment
held_pieces escaped text front query fragment (middle, first, second) =
    let (middle_held, fragment_held) = held_off escaped text middle fragment number_sign number_parts first in
    let (front_held, query_held) = held_off escaped middle front query question_mark question_parts second in
    let held : (t : List ℕ) → Holds (denoted_by escaped t) (denoted_by escaped middle) → Holds (denoted_by escaped t) (denoted_by escaped text) =
    λ t inside. held_within (denoted_by escaped t) (denoted_by escaped middle) (denoted_by escaped text) inside middle_held in
    record { front_held = held front front_held; query_held = IfSome_then query query_held held; fragment_held = fragment_held }

-- the meaning of each of these texts is part of the path
abbrev AreHeld : Bool → List ℕ → List (List ℕ) → Type 0
AreHeld escaped path texts = All (λ t. Holds (denoted_by escaped t) path) texts

-- the meaning of the fields of a text is part of the meaning of the text
held_fields : (escaped : Bool) (path : List ℕ) (fields : List (List ℕ)) → Holds (denoted_by escaped (join_with_byte ampersand fields)) path → AreHeld escaped path fields
held_fields escaped path [] held = All-nil (λ t. Holds (denoted_by escaped t) path)
held_fields escaped path (t ∷ []) held = All-cons (λ x. Holds (denoted_by escaped x) path) t [] held (All-nil (λ x. Holds (denoted_by escaped x) path))
held_fields escaped path (t ∷ u ∷ us) held =
    let whole = join_with_byte ampersand (t ∷ u ∷ us) in
    let rest = join_with_byte ampersand (u ∷ us) in
    let parts = held_around escaped whole t rest ampersand (record { digit = refl; percent = refl }) refl in
    All-cons (λ x. Holds (denoted_by escaped x) path) t (u ∷ us) (held_within (denoted_by escaped t) (denoted_by escaped whole) path parts.0 held) (held_fields escaped path (u ∷ us) (held_within (denoted_by escaped rest) (denoted_by escaped whole) path parts.1 held))

-- the meaning of name and value is part of the meaning of the field
held_split : (escaped : Bool) (path field name value : List ℕ) → SplitsField field name value → Holds (denoted_by escaped field) path → Holds (denoted_by escaped name) path × Holds (denoted_by escaped value) path
held_split escaped path field name value (SplitsField.name_alone free e j) (x, y, k) =
    (subst (λ t. Holds (denoted_by escaped t) path) (sym e) (x, y, k), subst (λ t. Holds (denoted_by escaped t) path) (sym j) (subst (λ t. Holds t path) (sym (denoted-nil escaped)) ([], path, refl)))
held_split escaped path field name value (SplitsField.with_value free e) held =
    let parts = held_around escaped field name value equals_sign (record { digit = refl; percent = refl }) e in
    (held_within (denoted_by escaped name) (denoted_by escaped field) path parts.0 held, held_within (denoted_by escaped value) (denoted_by escaped field) path parts.1 held)

-- ---- names and values

-- a name or a value is the meaning of its piece
term_denoted : (v : Location) (piece : List ℕ) (text : QueryText) → BorrowsTerm (matches v.spelling v.path) piece text → text_bytes text ≡ term_of v piece
term_denoted v piece (Borrowed text) h = h.1 ∙ sym (denoted_spaces (matches v.spelling v.path) piece h.0)
term_denoted v piece (Owned text) h = h.1

-- and is part of the path if it is borrowed
term_borrowed : (v : Location) (piece : List ℕ) (text : QueryText) → BorrowsTerm (matches v.spelling v.path) piece text → Holds (denoted_by (matches v.spelling v.path) piece) v.path → BorrowedTerm v piece text
term_borrowed v piece (Borrowed text) h held = (h.0, subst (λ t. Holds t v.path) (sym h.1) held)
term_borrowed v piece (Owned text) h held = h.0

-- names and values are the meaning of their fields
pairs_denoted : (v : Location) (fields : List (List ℕ)) (pairs : List (QueryText × QueryText)) → BorrowsPairs (matches v.spelling v.path) fields pairs → PairsOf v fields (map pair_bytes pairs)
pairs_denoted v [] pairs h = ap (map pair_bytes) h
pairs_denoted v ([] ∷ fields) pairs h = pairs_denoted v fields pairs h
pairs_denoted v ((b ∷ bs) ∷ fields) pairs (pair, others, borrows, rest, e) =
    let name = term_denoted v borrows.name pair.0 borrows.name_borrowed in
    let value = term_denoted v borrows.value pair.1 borrows.value_borrowed in
    (borrows.name, borrows.value, map pair_bytes others, borrows.split, pairs_denoted v fields others rest, ap (map pair_bytes) e ∙ (λ i. (name i, value i) ∷ map pair_bytes others))

-- and are part of the path if they are borrowed
pairs_borrowed : (v : Location) (fields : List (List ℕ)) (pairs : List (QueryText × QueryText)) → BorrowsPairs (matches v.spelling v.path) fields pairs → AreHeld (matches v.spelling v.path) v.path fields → BorrowedPairs v fields pairs
pairs_borrowed v [] pairs h held = h
pairs_borrowed v ([] ∷ fields) pairs h held = pairs_borrowed v fields pairs h (All-tail (λ t. Holds (denoted_by (matches v.spelling v.path) t) v.path) [] fields held)
pairs_borrowed v ((b ∷ bs) ∷ fields) pairs (pair, others, borrows, rest, e) held =
    let syntax = matches v.spelling v.path in
    let parts = held_split syntax v.path (b ∷ bs) borrows.name borrows.value borrows.split (All-head (λ t. Holds (denoted_by syntax t) v.path) (b ∷ bs) fields held) in
    let more = pairs_borrowed v fields others rest (All-tail (λ t. Holds (denoted_by syntax t) v.path) (b ∷ bs) fields held) in
    (borrows.name, borrows.value, pair, others, borrows.split, term_borrowed v borrows.name pair.0 borrows.name_borrowed parts.0, term_borrowed v borrows.value pair.1 borrows.value_borrowed parts.1, more, e)

-- the names and values of a query are its meaning
query_denoted : (v : Location) (text : Option (List ℕ)) (pairs : Option (List (QueryText × QueryText))) → BorrowsQuery (matches v.spelling v.path) text pairs → QueryOf v text (option_map (map pair_bytes) pairs)
query_denoted v None pairs h = ap (option_map (map pair_bytes)) h
query_denoted v (Some text) None h = absurd h
query_denoted v (Some text) (Some pairs) h = (h.field ∷ h.fields, map pair_bytes pairs, h.cut, pairs_denoted v (h.field ∷ h.fields) pairs h.borrowed, refl)

-- so they are borrowed
query_given : (v : Location) (front : List ℕ) (fragment text : Option (List ℕ)) (pairs : Option (List (QueryText × QueryText))) → CutsPath (original_path v) front text fragment → IfSome text (λ q. Holds (denoted_by (matches v.spelling v.path) q) v.path) → BorrowsQuery (matches v.spelling v.path) text pairs → BorrowedQuery v pairs
query_given v front fragment None pairs cut held h = subst (BorrowedQuery v) (sym h) tt
query_given v front fragment (Some text) None cut held h = absurd h
query_given v front fragment (Some text) (Some pairs) cut held h =
    let syntax = matches v.spelling v.path in record {
      front = front;
      query = text;
      fragment = fragment;
      fields = h.field ∷ h.fields;
      cut = cut;
      split = h.cut;
      borrowed = pairs_borrowed v (h.field ∷ h.fields) pairs h.borrowed (held_fields syntax v.path (h.field ∷ h.fields) (subst (λ t. Holds (denoted_by syntax t) v.path) h.cut.joined held));
    }

-- ---- the components

-- a view of a view
viewed : {A B C : Type 0} (f : A → B) (g : B → C) (o : Option A) → option_map g (option_map f o) ≡ option_map (λ x. g (f x)) o
viewed f g None = refl
viewed f g (Some x) = refl

-- the returned components are those of a location of HTTP
pub parts_denoted : (v : Location) (parts : PathComponents) → BorrowsParts (matches v.spelling v.path) (original_path v) parts → WebComponents v (components parts)
parts_denoted v parts h = record {
  front = h.front;
  query = h.query;
  fragment = h.fragment;
  cut = h.cut;
  path_denoted = h.path_denoted;
  query_denoted = subst (QueryOf v h.query) (viewed (λ pairs. pairs.items) (map pair_bytes) parts.query) (query_denoted v h.query (option_map (λ pairs. pairs.items) parts.query) h.query_borrowed);
  fragment_denoted = h.fragment_denoted;
}

-- the meaning of the pieces of a location's original path is part of its path
held_parts : (v : Location) (front : List ℕ) (query fragment : Option (List ℕ)) → denoted_by (matches v.spelling v.path) (original_path v) ≡ v.path → CutsPath (original_path v) front query fragment → HoldsPieces (matches v.spelling v.path) v.path front query fragment
held_parts v front query fragment whole cut =
    let held = held_pieces (matches v.spelling v.path) (original_path v) front query fragment cut in
    subst (λ path. HoldsPieces (matches v.spelling v.path) path front query fragment) whole held

-- a path that denotes nothing is the root, and any other is part of the text that it was part of
rooted : (t path b : List ℕ) → Holds t path → b ≡ or_root t → Holds b path ⊎ (b ≡ slash ∷ [])
rooted [] path b held e = inr e
rooted (c ∷ t) path b held e = inl (subst (λ x. Holds x path) (sym e) held)

-- the path is part of the location's, or is the root
pub path_borrowed : (v : Location) (parts : PathComponents) → BorrowsParts (matches v.spelling v.path) (original_path v) parts → denoted_by (matches v.spelling v.path) (original_path v) ≡ v.path → Holds (bstr_bytes parts.path) v.path ⊎ (bstr_bytes parts.path ≡ slash ∷ [])
path_borrowed v parts h whole = rooted (denoted_by (matches v.spelling v.path) h.front) v.path (bstr_bytes parts.path) (held_parts v h.front h.query h.fragment whole h.cut).front_held h.path_denoted

-- the names and values of the query are borrowed
pub query_borrowed : (v : Location) (parts : PathComponents) → BorrowsParts (matches v.spelling v.path) (original_path v) parts → denoted_by (matches v.spelling v.path) (original_path v) ≡ v.path → BorrowedQuery v (option_map (λ pairs. pairs.items) parts.query)
query_borrowed v parts h whole = query_given v h.front h.fragment h.query (option_map (λ pairs. pairs.items) parts.query) h.cut (held_parts v h.front h.query h.fragment whole h.cut).query_held h.query_borrowed

-- a fragment is part of the text that its own text is part of
fragment_in : (escaped : Bool) (path : List ℕ) (given : Option BStr) (fragment : Option (List ℕ)) → option_map bstr_bytes given ≡ option_map (denoted_by escaped) fragment → IfSome fragment (λ f. Holds (denoted_by escaped f) path) → IfSome given (λ f. Holds (bstr_bytes f) path)
fragment_in escaped path None fragment e held = tt
fragment_in escaped path (Some f) None e held = absurd (cc)
fragment_in escaped path (Some f) (Some g) e held =
    let same : bstr_bytes f ≡ denoted_by escaped g = cc in
    subst (λ t. Holds t path) (sym same) held

-- the fragment is part of the location's path
pub fragment_borrowed : (v : Location) (parts : PathComponents) → BorrowsParts (matches v.spelling v.path) (original_path v) parts → denoted_by (matches v.spelling v.path) (original_path v) ≡ v.path → IfSome parts.fragment (λ f. Holds (bstr_bytes f) v.path)
fragment_borrowed v parts h whole = fragment_in (matches v.spelling v.path) v.path parts.fragment h.fragment h.fragment_denoted (held_parts v h.front h.query h.fragment whole h.cut).fragment_held

-- a location whose original path has a query has one
pub query_there : (v : Location) → HasQuery (original_path v) → (components : Components) → WebComponents v components → components.query ≡ None → ⊥
query_there v has components parts none =
    let absent = no_query v parts.query (subst (QueryOf v parts.query) none parts.query_denoted) in
    let (front, query, fragment) = path_unique (original_path v) has.front parts.front (Some has.query) parts.query has.fragment parts.fragment has.cut parts.cut in
    let wrong : Some has.query ≡ None = query ∙ absent in
    cc

-- a call that can't fail returns its value
pub given : {A E : Type 0} (r : Result A E) → (IsErr r → ⊥) → IsOk r
given (Ok x) h = refl
given (Err e) h = absurd (h refl)

-- ---- the original path

-- the meaning of the original path is the path
pub whole_denoted : (v : Location) (whole : EscapedText) → SpellsPath v whole → denoted_by (matches v.spelling v.path) (original_path v) ≡ v.path
whole_denoted v whole (text, denoted, syntax) =
    ap (λ b. denoted_by b (original_path v)) (sym syntax) ∙ ap (denoted_by whole.escaped) (sym text) ∙ sym whole.meaning ∙ denoted

-- a text that is borrowed from it is borrowed from the location's original path
pub borrows_whole : (v : Location) (whole : EscapedText) (parts : PathComponents) → SpellsPath v whole → BorrowsParts whole.escaped whole.text.now parts → BorrowsParts (matches v.spelling v.path) (original_path v) parts
borrows_whole v whole parts (text, denoted, syntax) h =
    subst (λ b. BorrowsParts b (original_path v) parts) syntax (subst (λ t. BorrowsParts whole.escaped t parts) text h)

-- a path alone is part of the location's
pub path_alone_held : (t path : List ℕ) → t ≡ path → Holds t path
path_alone_held t path e = subst (Holds t) e (held_self t)
