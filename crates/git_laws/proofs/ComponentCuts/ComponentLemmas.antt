-- Reading a settled location of HTTP again keeps its components.
use Rattle.std.proofs.Common.{◌≡◌, ℕ, ◌<◌, Bool, true, false, ◌==◌, ◌↔◌, inl, inr, List, [], ◌∷◌, ◌++◌, map, Option, Some, None, Ok, IsUtf8, IfSome, option_map, if◌then◌else◌, All, refl, sym, ap, subst, ◌∙◌, ⊎_elim, arith}
use Rattle.std.specs.List.{list_any, join_with_byte}
use Rattle.std.proofs.lemmas.Bool.{cond-true, cond-false, cases_Bool, both_ways, false≢true, or_parts, eqb-true, false_from_ne_true}
use Rattle.std.proofs.lemmas.Bool.Decides.{nat_tests}
use Rattle.std.proofs.lemmas.List.{map-append}
use Rattle.std.proofs.lemmas.List.Elements.{All-nil, All-cons, All-head, All-tail, All-map, All-weaker}
use Rattle.std.proofs.lemmas.List.Folds.{list_any_none}
use Rattle.std.proofs.lemmas.Slice.Eq.{bytes_eq-Decides}
use Rattle.percent_encoding.specs.AsciiSet.{contains, should_percent_encode}
use Rattle.percent_encoding.specs.Percent.{percent_decode, percent_encode, percent_encode_byte}
use Rattle.percent_encoding.proofs.AsciiSetLemmas.{outside_from_kept, kept_from_outside}
use Rattle.percent_encoding.proofs.PercentLemmas.{IsEscapeByte, All-percent_encode_byte, percent_encode_escaped, percent_encode_kept, percent_decode-nil, percent_decode-percent_encode_byte, round_trip, percent_encode-append, percent_encode-nil}
use Rattle.git_syntax.specs.declared.escape.TheConstants.{PATH}
use Rattle.git_syntax.specs.Bytes.{number_sign, percent_sign, plus_sign, question_mark, FreeOf, space, ampersand, equals_sign}
use Rattle.git_syntax.specs.Escapes.{has_percent, is_path_escaped, matches}
use Rattle.git_syntax.specs.Location.{Location}
use Rattle.git_syntax.specs.Grammar.{or_root, retained_spelling, Spells}
use Rattle.git_laws.specs.Components.{Components, stands_for, CutsText, CutsPath, CutsFields, SplitsField, with_spaces, term_of, PairsOf, QueryOf, WebComponents, ComponentsBy, ComponentsOf}
use Rattle.git_location.specs.Text.{matching_or, canonical_path, canonical_text, text, original_path}
use Rattle.git_location.specs.Settled.{IsSettledUrl, IsWeb, HasFairSpelling}
use Rattle.git_laws.proofs.Writing.WrittenPieces.{as_read}
use Rattle.git_laws.specs.Laws.{SameComponents}
use Rattle.git_syntax.proofs.Texts.CutLemmas.{cut_unique, free_or_cut, not_free}
use Rattle.git_syntax.proofs.Texts.EscapeLemmas.{is_escape_byte, bytes_from_utf8, decode_byte, decode_encode_utf8, encode_empty, encode_byte_kept, encode_lacks_kept, lacks_from_encode}
use Rattle.git_syntax.proofs.Texts.EscapeSets.{path_holds}
use Rattle.git_laws.proofs.SettledClass.WebClosedLemmas.{spelled_as}
use Rattle.git_syntax.proofs.Unique.UniqueLemmas.{spells_unique}
use Rattle.git_laws.proofs.Writing.AgainLemmas.{web_spelled}
use Rattle.git_location.proofs.Writing.WrittenAsUrlLemmas.{one_text, written_web}
use Rattle.git_location.proofs.SettledClass.SettledLemmas.{settled_as_web}
use Rattle.git_class.proofs.Classes.WebClassLemmas.{web_path}

-- every number of the text is a byte
abbrev IsBytes : List ℕ → Type 0
IsBytes text = All (λ b. b < 256) text

-- ---- spaces

-- a text without `+` has nothing that denotes a space
pub spaces_free : (x : List ℕ) → FreeOf plus_sign x → with_spaces x ≡ x
spaces_free [] free = refl
spaces_free (b ∷ x) free =
    let parts = or_parts (b == plus_sign) (list_any (λ c. c == plus_sign) x) free in
    ap (λ c. c ∷ with_spaces x) (cond-false (b == plus_sign) space b parts.0) ∙ ap (λ t. b ∷ t) (spaces_free x parts.1)

-- a byte of an escape isn't `+`
escape_not_plus : (b : ℕ) → IsEscapeByte b → (b == plus_sign) ≡ false
escape_not_plus b h = grind (arith, nat_tests)

-- so an escape stays
spaces_escape : (b : ℕ) → with_spaces (percent_encode_byte b) ≡ percent_encode_byte b
spaces_escape b =
    spaces_free (percent_encode_byte b) (list_any_none (λ c. c == plus_sign) (percent_encode_byte b) (All-weaker IsEscapeByte (λ c. (c == plus_sign) ≡ false) escape_not_plus (percent_encode_byte b) (All-percent_encode_byte b)))

-- a byte that is escaped in a path is none of those that a path keeps
escaped_not_kept : (b c : ℕ) → c < 128 → is_path_escaped c ≡ false → should_percent_encode PATH b ≡ true → (b == c) ≡ false
escaped_not_kept b c ascii out escaped =
    false_from_ne_true (b == c) (λ e. both_ways (should_percent_encode PATH b) (ap (should_percent_encode PATH) (eqb-true b c e) ∙ kept_from_outside PATH c ascii (path_holds c ascii ∙ out)) escaped)

-- a byte that is kept in a path isn't `%`
kept_not_percent : (b : ℕ) → should_percent_encode PATH b ≡ false → (b == percent_sign) ≡ false
kept_not_percent b kept =
    false_from_ne_true (b == percent_sign) (λ e. both_ways (contains PATH b) (outside_from_kept PATH b kept) (ap (contains PATH) (eqb-true b percent_sign e) ∙ path_holds percent_sign (omega arith)))

-- nor is its meaning
denoted_not_percent : (b : ℕ) → (b == percent_sign) ≡ false → ((if b == plus_sign then space else b) == percent_sign) ≡ false
denoted_not_percent b other = grind (arith, nat_tests)

-- an escape decodes to its byte, before spaces
spaces_escaped : (b : ℕ) (bs : List ℕ) → b < 256 → should_percent_encode PATH b ≡ true → percent_decode (with_spaces (percent_encode PATH (b ∷ bs))) ≡ b ∷ percent_decode (with_spaces (percent_encode PATH bs))
spaces_escaped b bs h2 h3 = grind (arith, nat_tests, percent_encode_escaped, map-append, spaces_escape, percent_decode-percent_encode_byte)

-- a byte that is kept decodes to its meaning
spaces_kept : (b : ℕ) (bs : List ℕ) → should_percent_encode PATH b ≡ false → percent_decode (with_spaces (percent_encode PATH (b ∷ bs))) ≡ (if b == plus_sign then space else b) ∷ percent_decode (with_spaces (percent_encode PATH bs))
spaces_kept b bs h2 = grind (arith, nat_tests, percent_encode_kept, decode_byte, denoted_not_percent, kept_not_percent)

-- decoding undoes the encoding of a path, if both have spaces for `+`
spaces_decoded : (t : List ℕ) → IsBytes t → percent_decode (with_spaces (percent_encode PATH t)) ≡ with_spaces t
spaces_decoded [] small = ap (λ t. percent_decode (with_spaces t)) (percent_encode-nil PATH) ∙ percent_decode-nil
spaces_decoded (b ∷ bs) small =
    let byte = All-head (λ c. c < 256) b bs small in
    let rest = spaces_decoded bs (All-tail (λ c. c < 256) b bs small) in
    ⊎_elim
    (λ escaped.
    let other = escaped_not_kept b plus_sign (omega arith) refl escaped in
    spaces_escaped b bs byte escaped ∙ ap (λ t. b ∷ t) rest ∙ ap (λ c. c ∷ with_spaces bs) (sym (cond-false (b == plus_sign) space b other)))
    (λ kept. spaces_kept b bs kept ∙ ap (λ t. (if b == plus_sign then space else b) ∷ t) rest)
    (cases_Bool (should_percent_encode PATH b))

-- ---- bytes

-- the parts of a text around a byte are made of bytes if it is
bytes_around : (c : ℕ) (x y : List ℕ) → IsBytes (x ++ c ∷ y) → IsBytes x × IsBytes y
bytes_around c [] y small = (All-nil (λ b. b < 256), All-tail (λ b. b < 256) c y small)
bytes_around c (b ∷ x) y small =
    let rest = bytes_around c x y (All-tail (λ b. b < 256) b (x ++ c ∷ y) small) in
    (All-cons (λ b. b < 256) b x (All-head (λ b. b < 256) b (x ++ c ∷ y) small) rest.0, rest.1)

-- so are the parts around a first one
bytes_off : (c : ℕ) (t front : List ℕ) (suffix : Option (List ℕ)) → IsBytes t → CutsText c t front suffix → IsBytes front × IfSome suffix IsBytes
bytes_off c t front None small (free, e) = (subst IsBytes (sym e) small, tt)
bytes_off c t front (Some x) small (free, e) = bytes_around c front x (subst IsBytes e small)

-- the pieces of a path are made of bytes if it is
bytes_cut : (t front : List ℕ) (query fragment : Option (List ℕ)) → IsBytes t → CutsPath t front query fragment → IsBytes front × IfSome query IsBytes × IfSome fragment IsBytes
bytes_cut t front query fragment h4 h5 = grind (arith, nat_tests, bytes_off)

-- the fields of a text are made of bytes if it is
bytes_fields : (fields : List (List ℕ)) → IsBytes (join_with_byte ampersand fields) → All IsBytes fields
bytes_fields [] small = All-nil IsBytes
bytes_fields (t ∷ []) small = All-cons IsBytes t [] small (All-nil IsBytes)
bytes_fields (t ∷ u ∷ us) small =
    let parts = bytes_around ampersand t (join_with_byte ampersand (u ∷ us)) small in
    All-cons IsBytes t (u ∷ us) parts.0 (bytes_fields (u ∷ us) parts.1)

-- name and value of a field are made of bytes if it is
bytes_split : (field name value : List ℕ) → IsBytes field → SplitsField field name value → IsBytes name × IsBytes value
bytes_split field name value h3 h4 = grind (arith, nat_tests, All-nil, bytes_around)

-- ---- writings

-- a byte that a path keeps and no escape has
record IsMark (c : ℕ) : Type 0 where
  ascii : c < 128
  out : is_path_escaped c ≡ false
  no_escape : is_escape_byte c ≡ false

-- a way to write texts that writes the parts around a mark apart from each other
record IsWay (f : List ℕ → List ℕ) : Type 0 where
  nil : f [] ≡ []
  empty : (x : List ℕ) → f x ≡ [] → x ≡ []
  around : (c : ℕ) (x y : List ℕ) → IsMark c → f (x ++ c ∷ y) ≡ f x ++ c ∷ f y
  free : (c : ℕ) (x : List ℕ) → IsMark c → FreeOf c x → FreeOf c (f x)
  freed : (c : ℕ) (x : List ℕ) → IsMark c → FreeOf c (f x) → FreeOf c x

-- to write texts as they are is such a way
same_way : IsWay (λ x. x)
same_way = record {
  nil = refl;
  empty = λ x e. e;
  around = λ c x y mark. refl;
  free = λ c x mark h. h;
  freed = λ c x mark h. h;
}

-- a byte of an escape isn't a mark
mark_not_escape : (c b : ℕ) → IsMark c → is_escape_byte b ≡ true → (b == c) ≡ false
mark_not_escape c b mark h = false_from_ne_true (b == c) (λ e. both_ways (is_escape_byte c) mark.no_escape (sym (ap is_escape_byte (eqb-true b c e)) ∙ h))

-- the encoding of paths is such a way
path_way : IsWay (λ x. percent_encode PATH x)
path_way = record {
  nil = percent_encode-nil PATH;
  empty = λ x e. encode_empty PATH x e;
  around = λ c x y mark. percent_encode-append PATH x (c ∷ y) ∙ ap (λ t. percent_encode PATH x ++ t) (encode_byte_kept PATH c y mark.ascii (path_holds c mark.ascii ∙ mark.out));
  free = λ c x mark h. encode_lacks_kept (λ b. b == c) PATH x (λ b escape. mark_not_escape c b mark escape) h;
  freed = λ c x mark h. lacks_from_encode (λ b. b == c) PATH x (λ b escaped. escaped_not_kept b c mark.ascii mark.out escaped) h;
}

-- `?` is a mark
question_mark_mark : IsMark question_mark
question_mark_mark = record { ascii = omega arith; out = refl; no_escape = refl }

-- so is `#`
number_sign_mark : IsMark number_sign
number_sign_mark = record { ascii = omega arith; out = refl; no_escape = refl }

-- so is `&`
ampersand_mark : IsMark ampersand
ampersand_mark = record { ascii = omega arith; out = refl; no_escape = refl }

-- and so is `=`
equals_sign_mark : IsMark equals_sign
equals_sign_mark = record { ascii = omega arith; out = refl; no_escape = refl }

-- ---- cuts of the written text

-- a cut of the written text is written of a cut
cut_back : (f : List ℕ → List ℕ) (c : ℕ) (t front rest : List ℕ) → IsWay f → IsMark c → FreeOf c front → f t ≡ front ++ c ∷ rest → (x : List ℕ) × (y : List ℕ) × FreeOf c x × (t ≡ x ++ c ∷ y) × (front ≡ f x) × (rest ≡ f y)
cut_back f c t front rest way mark free e =
    elim (free_or_cut c t) [
      | inl none ↦ absurd (not_free c front rest (subst (λ z. FreeOf c z) e (way.free c t mark none)))
      | inr (x, y, lone, cut) ↦
          let both = cut_unique c front (f x) rest (f y) free (way.free c x mark lone) (sym e ∙ ap f cut ∙ way.around c x y mark) in
          (x, y, lone, cut, both.0, both.1)
    ]

-- the parts around a first mark are written as those of the written text
off_written : (f : List ℕ → List ℕ) (c : ℕ) (t front : List ℕ) (suffix : Option (List ℕ)) → IsWay f → IsMark c → CutsText c t front suffix → CutsText c (f t) (f front) (option_map f suffix)
off_written f c t front None way mark (free, e) = (way.free c t mark free, ap f e)
off_written f c t front (Some x) way mark (free, e) = (way.free c front mark free, ap f e ∙ way.around c front x mark)

-- those of the written text are written of parts of the text
off_back : (f : List ℕ → List ℕ) (c : ℕ) (t front : List ℕ) (suffix : Option (List ℕ)) → IsWay f → IsMark c → CutsText c (f t) front suffix → (x : List ℕ) × (y : Option (List ℕ)) × (front ≡ f x) × (suffix ≡ option_map f y) × CutsText c t x y
off_back f c t front None way mark (free, e) = (t, None, e, refl, (way.freed c t mark free, refl))
off_back f c t front (Some r) way mark (free, e) =
    let (x, y, lone, cut, is_x, is_y) = cut_back f c t front r way mark free e in
    (x, Some y, is_x, ap Some is_y, (lone, cut))

-- the pieces of a path are written as those of the written text
cuts_written : (f : List ℕ → List ℕ) (t front : List ℕ) (query fragment : Option (List ℕ)) → IsWay f → CutsPath t front query fragment → CutsPath (f t) (f front) (option_map f query) (option_map f fragment)
cuts_written f t front query fragment way (middle, first, second) = (
  f middle,
  off_written f number_sign t middle fragment way number_sign_mark first,
  off_written f question_mark middle front query way question_mark_mark second,
)

-- these pieces of the written text are written of pieces of the path
record IsCutBack (f : List ℕ → List ℕ) (t front : List ℕ) (query fragment : Option (List ℕ)) : Type 0 where
  first : List ℕ
  second : Option (List ℕ)
  third : Option (List ℕ)
  is_front : front ≡ f first
  is_query : query ≡ option_map f second
  is_fragment : fragment ≡ option_map f third
  cut : CutsPath t first second third

-- the pieces of the written text are
cuts_back : (f : List ℕ → List ℕ) (t front : List ℕ) (query fragment : Option (List ℕ)) → IsWay f → CutsPath (f t) front query fragment → IsCutBack f t front query fragment
cuts_back f t front query fragment way (middle, first, second) =
    let (outer, third, is_middle, is_fragment, off) = off_back f number_sign t middle fragment way number_sign_mark first in
    let inside = subst (λ z. CutsText question_mark z front query) is_middle second in
    let (inner, asked, is_front, is_query, cut) = off_back f question_mark outer front query way question_mark_mark inside in
    record { first = inner; second = asked; third = third; is_front = is_front; is_query = is_query; is_fragment = is_fragment; cut = (outer, off, cut) }

-- ---- fields of the written text

-- fields without `&` are written without it
each_written : (f : List ℕ → List ℕ) (fields : List (List ℕ)) → IsWay f → All (FreeOf ampersand) fields → All (FreeOf ampersand) (map f fields)
each_written f fields way each =
    All-map (FreeOf ampersand) f fields (All-weaker (FreeOf ampersand) (λ t. FreeOf ampersand (f t)) (λ t free. way.free ampersand t ampersand_mark free) fields each)

-- fields are written joined
joined_written : (f : List ℕ → List ℕ) (fields : List (List ℕ)) → IsWay f → f (join_with_byte ampersand fields) ≡ join_with_byte ampersand (map f fields)
joined_written f [] way = way.nil
joined_written f (t ∷ []) way = refl
joined_written f (t ∷ u ∷ us) way =
    way.around ampersand t (join_with_byte ampersand (u ∷ us)) ampersand_mark ∙ ap (λ z. f t ++ ampersand ∷ z) (joined_written f (u ∷ us) way)

-- the fields of a text are written as those of the written text
fields_written : (f : List ℕ → List ℕ) (t : List ℕ) (fields : List (List ℕ)) → IsWay f → CutsFields t fields → CutsFields (f t) (map f fields)
fields_written f t fields way cut = record { each = each_written f fields way cut.each; joined = ap f cut.joined ∙ joined_written f fields way }

-- one field more comes before others, if there are any
joined_more : (f : List ℕ → List ℕ) (c : ℕ) (t : List ℕ) (fields : List (List ℕ)) (k : List ℕ) (ks : List (List ℕ)) → k ∷ ks ≡ map f fields → join_with_byte c (t ∷ fields) ≡ t ++ c ∷ join_with_byte c fields
joined_more f c t [] k ks e = let wrong : k ∷ ks ≡ [] = e in cc
joined_more f c t (u ∷ us) k ks e = refl

-- the fields of the written text are written of fields of the text
fields_back : (f : List ℕ → List ℕ) (given : List (List ℕ)) (t : List ℕ) → IsWay f → All (FreeOf ampersand) given → f t ≡ join_with_byte ampersand given → (fields : List (List ℕ)) × CutsFields t fields × (given ≡ map f fields)
fields_back f [] t way each e = ([], record { each = All-nil (FreeOf ampersand); joined = way.empty t e }, refl)
fields_back f (g ∷ []) t way each e =
    let free : FreeOf ampersand g = All-head (FreeOf ampersand) g [] each in
    (t ∷ [], record { each = All-cons (FreeOf ampersand) t [] (way.freed ampersand t ampersand_mark (subst (λ z. FreeOf ampersand z) (sym e) free)) (All-nil (FreeOf ampersand)); joined = refl }, ap (λ z. z ∷ []) (sym e))
fields_back f (g ∷ k ∷ ks) t way each e =
    let free : FreeOf ampersand g = All-head (FreeOf ampersand) g (k ∷ ks) each in
    let (x, y, lone, cut, is_x, is_y) = cut_back f ampersand t g (join_with_byte ampersand (k ∷ ks)) way ampersand_mark free e in
    let (fields, rest, same) = fields_back f (k ∷ ks) y way (All-tail (FreeOf ampersand) g (k ∷ ks) each) (sym is_y) in
    let whole = cut ∙ ap (λ z. x ++ ampersand ∷ z) rest.joined ∙ sym (joined_more f ampersand x fields k ks same) in
    (x ∷ fields, record { each = All-cons (FreeOf ampersand) x fields lone rest.each; joined = whole }, (λ i. is_x i ∷ same i))

-- name and value of a field are written as those of the written text
split_written : (f : List ℕ → List ℕ) (field name value : List ℕ) → IsWay f → SplitsField field name value → SplitsField (f field) (f name) (f value)
split_written f field name value h4 h5 = grind (arith, nat_tests, equals_sign_mark)

-- name and value of the written text are written of those of the field
split_back : (f : List ℕ → List ℕ) (field name value : List ℕ) → IsWay f → SplitsField (f field) name value → (first : List ℕ) × (second : List ℕ) × (name ≡ f first) × (value ≡ f second) × SplitsField field first second
split_back f field name value way (SplitsField.name_alone free e j) =
    (field, [], e, j ∙ sym way.nil, SplitsField.name_alone (way.freed equals_sign field equals_sign_mark free) refl refl)
split_back f field name value way (SplitsField.with_value free e) =
    let (x, y, lone, cut, is_x, is_y) = cut_back f equals_sign field name value way equals_sign_mark free e in
    (x, y, is_x, is_y, SplitsField.with_value lone cut)

-- ---- the meaning of the pieces

-- the path of the second location is written of that of the first, and the pieces denote the same
record IsRewritten (f : List ℕ → List ℕ) (v w : Location) : Type 0 where
  way : IsWay f
  bytes : IsBytes (original_path v)
  original : original_path w ≡ f (original_path v)
  denoted : (x : List ℕ) → IsBytes x → stands_for w (f x) ≡ stands_for v x
  term : (x : List ℕ) → IsBytes x → term_of w (f x) ≡ term_of v x

-- the names and values that a field that isn't empty adds
abbrev AddsPair : Location → List ℕ → List (List ℕ) → List (List ℕ × List ℕ) → Type 0
AddsPair v field fields pairs =
    (name : List ℕ) × (value : List ℕ) × (others : List (List ℕ × List ℕ))
    × SplitsField field name value × PairsOf v fields others × (pairs ≡ (term_of v name, term_of v value) ∷ others)

-- it adds just that
adds_pair : (v : Location) (field : List ℕ) (fields : List (List ℕ)) (pairs : List (List ℕ × List ℕ)) → ¬ (field ≡ []) → PairsOf v (field ∷ fields) pairs ↔ AddsPair v field fields pairs
adds_pair v [] fields pairs some = absurd (some refl)
adds_pair v (b ∷ bs) fields pairs some = (λ h. h, λ h. h)

-- the writing of a text that isn't empty isn't empty
some_written : (f : List ℕ → List ℕ) (b : ℕ) (bs : List ℕ) → IsWay f → ¬ (f (b ∷ bs) ≡ [])
some_written f b bs way e = let wrong : b ∷ bs ≡ [] = way.empty (b ∷ bs) e in cc

-- fields and their writings have the same meaning
pairs_written : (f : List ℕ → List ℕ) (v w : Location) (fields : List (List ℕ)) (pairs : List (List ℕ × List ℕ)) → IsRewritten f v w → All IsBytes fields → PairsOf v fields pairs → PairsOf w (map f fields) pairs
pairs_written f v w [] pairs h small of = of
pairs_written f v w ([] ∷ fields) pairs h small of =
    subst (λ t. PairsOf w (t ∷ map f fields) pairs) (sym h.way.nil) (pairs_written f v w fields pairs h (All-tail IsBytes [] fields small) of)
pairs_written f v w ((b ∷ bs) ∷ fields) pairs h small (name, value, others, split, rest, e) =
    let field = b ∷ bs in
    let bytes = bytes_split field name value (All-head IsBytes field fields small) split in
    let more = pairs_written f v w fields others h (All-tail IsBytes field fields small) rest in
    let same : (term_of v name, term_of v value) ∷ others ≡ (term_of w (f name), term_of w (f value)) ∷ others =
    (λ i. (sym (h.term name bytes.0) i, sym (h.term value bytes.1) i) ∷ others) in
    (adds_pair w (f field) (map f fields) pairs (some_written f b bs h.way)).1 (f name, f value, others, split_written f field name value h.way split, more, e ∙ same)

-- and the writings for the meaning of the fields
pairs_back : (f : List ℕ → List ℕ) (v w : Location) (fields : List (List ℕ)) (pairs : List (List ℕ × List ℕ)) → IsRewritten f v w → All IsBytes fields → PairsOf w (map f fields) pairs → PairsOf v fields pairs
pairs_back f v w [] pairs h small of = of
pairs_back f v w ([] ∷ fields) pairs h small of =
    pairs_back f v w fields pairs h (All-tail IsBytes [] fields small) (subst (λ t. PairsOf w (t ∷ map f fields) pairs) h.way.nil of)
pairs_back f v w ((b ∷ bs) ∷ fields) pairs h small of =
    let field = b ∷ bs in
    let (name, value, others, split, rest, e) = (adds_pair w (f field) (map f fields) pairs (some_written f b bs h.way)).0 of in
    let (first, second, is_first, is_second, cut) = split_back f field name value h.way split in
    let bytes = bytes_split field first second (All-head IsBytes field fields small) cut in
    let more = pairs_back f v w fields others h (All-tail IsBytes field fields small) rest in
    let one : term_of w name ≡ term_of v first = ap (term_of w) is_first ∙ h.term first bytes.0 in
    let two : term_of w value ≡ term_of v second = ap (term_of w) is_second ∙ h.term second bytes.1 in
    (first, second, others, cut, more, e ∙ (λ i. (one i, two i) ∷ others))

-- a query and its writing have the same meaning
query_written : (f : List ℕ → List ℕ) (v w : Location) (text : Option (List ℕ)) (query : Option (List (List ℕ × List ℕ))) → IsRewritten f v w → IfSome text IsBytes → QueryOf v text query → QueryOf w (option_map f text) query
query_written f v w None query h small of = of
query_written f v w (Some t) query h small (fields, pairs, cut, of, e) =
    (map f fields, pairs, fields_written f t fields h.way cut, pairs_written f v w fields pairs h (bytes_fields fields (subst IsBytes cut.joined small)) of, e)

-- and the writing for the meaning of the query
query_back : (f : List ℕ → List ℕ) (v w : Location) (text : Option (List ℕ)) (query : Option (List (List ℕ × List ℕ))) → IsRewritten f v w → IfSome text IsBytes → QueryOf w (option_map f text) query → QueryOf v text query
query_back f v w None query h small of = of
query_back f v w (Some t) query h small (given, pairs, cut, of, e) =
    let (fields, back, same) = fields_back f given t h.way cut.each cut.joined in
    (fields, pairs, back, pairs_back f v w fields pairs h (bytes_fields fields (subst IsBytes back.joined small)) (subst (λ z. PairsOf w z pairs) same of), e)

-- a fragment and its writing have the same meaning
fragment_written : (f : List ℕ → List ℕ) (v w : Location) (text : Option (List ℕ)) → IsRewritten f v w → IfSome text IsBytes → option_map (stands_for w) (option_map f text) ≡ option_map (stands_for v) text
fragment_written f v w None h small = refl
fragment_written f v w (Some t) h small = ap Some (h.denoted t small)

-- ---- the components

-- the components of the written text are those of the path
parts_written : (f : List ℕ → List ℕ) (v w : Location) (components : Components) → IsRewritten f v w → WebComponents v components → WebComponents w components
parts_written f v w components h parts =
    let (front, query, fragment) = bytes_cut (original_path v) parts.front parts.query parts.fragment h.bytes parts.cut in record {
      front = f parts.front;
      query = option_map f parts.query;
      fragment = option_map f parts.fragment;
      cut = subst (λ t. CutsPath t (f parts.front) (option_map f parts.query) (option_map f parts.fragment)) (sym h.original) (cuts_written f (original_path v) parts.front parts.query parts.fragment h.way parts.cut);
      path_denoted = parts.path_denoted ∙ ap or_root (sym (h.denoted parts.front front));
      query_denoted = query_written f v w parts.query components.query h query parts.query_denoted;
      fragment_denoted = parts.fragment_denoted ∙ sym (fragment_written f v w parts.fragment h fragment);
    }

-- and those of the path are those of the written text
parts_back : (f : List ℕ → List ℕ) (v w : Location) (components : Components) → IsRewritten f v w → WebComponents w components → WebComponents v components
parts_back f v w components h parts =
    let back = cuts_back f (original_path v) parts.front parts.query parts.fragment h.way (subst (λ t. CutsPath t parts.front parts.query parts.fragment) h.original parts.cut) in
    let (front, query, fragment) = bytes_cut (original_path v) back.first back.second back.third h.bytes back.cut in record {
      front = back.first;
      query = back.second;
      fragment = back.third;
      cut = back.cut;
      path_denoted = parts.path_denoted ∙ ap (λ t. or_root (stands_for w t)) back.is_front ∙ ap or_root (h.denoted back.first front);
      query_denoted = query_back f v w back.second components.query h query (subst (λ o. QueryOf w o components.query) back.is_query parts.query_denoted);
      fragment_denoted = parts.fragment_denoted ∙ ap (option_map (stands_for w)) back.is_fragment ∙ fragment_written f v w back.third h fragment;
    }

-- a location has the components of the path that its own is written of
parts_rewritten : (f : List ℕ → List ℕ) (v w : Location) (components : Components) → IsRewritten f v w → WebComponents w components ↔ WebComponents v components
parts_rewritten f v w components h = (parts_back f v w components h, parts_written f v w components h)

-- ---- the spelling that is read

-- the spelling denotes the path if it matches it
pub matched : (spelling : Option (List ℕ)) (path other : List ℕ) → matches spelling path ≡ true → (s : List ℕ) × (spelling ≡ Some s) × (percent_decode s ≡ path) × (matching_or spelling path other ≡ s)
matched None path other h = absurd (false≢true h)
matched (Some s) path other h = (s, refl, (bytes_eq-Decides (percent_decode s) path).0 h, cond-true _ _ _ h)

-- and something else is taken if it doesn't
pub unmatched : (spelling : Option (List ℕ)) (path other : List ℕ) → matches spelling path ≡ false → matching_or spelling path other ≡ other
unmatched None path other h = refl
unmatched (Some s) path other h = cond-false _ _ _ h

-- if the spelling matches, it is read again
spelled_again : (v : Location) → IsWeb v → HasFairSpelling v → matches v.spelling v.path ≡ true → retained_spelling (canonical_path v) ≡ v.spelling
spelled_again v h1 h2 h3 = grind (arith, nat_tests, matched, web_path, cond-true)

-- if no spelling matches and the encoding of the path is read as one, it is the encoding of the path
encoded_rewritten : (v : Location) → IsUtf8 v.path → matches v.spelling v.path ≡ false → IsRewritten (λ x. percent_encode PATH x) v (spelled_as v (Some (percent_encode PATH v.path)))
encoded_rewritten v h1 h2 = grind (arith, nat_tests, unmatched, bytes_eq-Decides, decode_encode_utf8, path_way, bytes_from_utf8, cond-true, round_trip, cond-false, spaces_decoded)

-- if no spelling matches and none is read, the path stays
plain_rewritten : (v : Location) → IsUtf8 v.path → matches v.spelling v.path ≡ false → IsRewritten (λ x. x) v (spelled_as v None)
plain_rewritten v h1 h2 = grind (arith, nat_tests, unmatched, same_way, bytes_from_utf8, cond-false)

-- the components with the spelling that is read of the encoded path
retained_parts : (v : Location) (b : Bool) (components : Components) → IsUtf8 v.path → matches v.spelling v.path ≡ false → WebComponents (spelled_as v (if b then Some (percent_encode PATH v.path) else None)) components ↔ WebComponents v components
retained_parts v true components text h = parts_rewritten (λ x. percent_encode PATH x) v (spelled_as v (Some (percent_encode PATH v.path))) components (encoded_rewritten v text h)
retained_parts v false components text h = parts_rewritten (λ x. x) v (spelled_as v None) components (plain_rewritten v text h)

-- the components with the spelling that is read, by whether the location's one matches
parts_by : (v : Location) (b : Bool) (components : Components) → IsWeb v → IsSettledUrl v → matches v.spelling v.path ≡ b → WebComponents (as_read v) components ↔ WebComponents v components
parts_by v true components web settled h =
    subst (λ o. WebComponents (spelled_as v o) components ↔ WebComponents v components) (sym (spelled_again v web settled.path.spelling h)) (λ parts. parts, λ parts. parts)
parts_by v false components web settled h =
    let read : retained_spelling (percent_encode PATH v.path) ≡ retained_spelling (canonical_path v) = ap retained_spelling (sym (web_path v web ∙ unmatched v.spelling v.path (percent_encode PATH v.path) h)) in
    subst (λ o. WebComponents (spelled_as v o) components ↔ WebComponents v components) read (retained_parts v (has_percent (percent_encode PATH v.path)) components settled.path.path_text h)

-- ---- a location that is read from the text of a settled one

-- the components of a location of HTTP are those of its kind
pub web_parts : (v : Location) (components : Components) → IsWeb v → ComponentsOf v components ↔ WebComponents v components
web_parts v components (inl e) = (λ h. subst (λ p. ComponentsBy p v components) e h, λ h. subst (λ p. ComponentsBy p v components) (sym e) h)
web_parts v components (inr e) = (λ h. subst (λ p. ComponentsBy p v components) e h, λ h. subst (λ p. ComponentsBy p v components) (sym e) h)

-- its text is the one of a URL
web_text : (v : Location) (t : List ℕ) → IsWeb v → IsSettledUrl v → text v ≡ Ok t → t ≡ canonical_text v
web_text v t web h has = one_text has ((written_web v web).canonical h.unflagged h.hosted)

-- a location that is read from the text of a settled location of HTTP has the same components
pub same_components : SameComponents
same_components v w t is web settled has spelled components =
    let h = settled_as_web v web settled in
    let same = web_text v t web h.common has in
    let read : w ≡ as_read v = spells_unique (canonical_text v) w (as_read v) (subst (λ z. Spells z w) same spelled) (web_spelled v web is h) in
    let parts = parts_by v (matches v.spelling v.path) components web h.common refl in
    let first = web_parts (as_read v) components web in
    let second = web_parts v components web in
    subst (λ l. ComponentsOf l components ↔ ComponentsOf v components) (sym read) (λ x. second.1 (parts.0 (first.0 x)), λ x. first.1 (parts.1 (second.0 x)))
