-- Every location has components, and no two: a text determines its pieces, and each text has some.
use Rattle.std.proofs.Common.{◌≡◌, ◌∙◌, ℕ, ◌==◌, inl, inr, List, [], ◌∷◌, Option, Some, None, option_map, All, refl, sym, ap, subst, arith}
use Rattle.std.proofs.lemmas.Bool.Decides.{nat_tests}
use Rattle.std.specs.List.{join_with_byte}
use Rattle.std.proofs.lemmas.List.Elements.{All-nil, All-cons, All-head, All-tail}
use Rattle.std.proofs.lemmas.Bool.{cases_Bool, eqb-true}
use Rattle.git_syntax.specs.Bytes.{number_sign, question_mark, FreeOf, ampersand, equals_sign}
use Rattle.git_syntax.specs.Location.{Scheme, Location}
use Rattle.git_syntax.specs.Location.Scheme.{http, https}
use Rattle.git_syntax.specs.Grammar.{or_root}
use Rattle.git_laws.specs.Components.{Components, stands_for, term_of, CutsText, CutsPath, CutsFields, SplitsField, PairsOf, QueryOf, WebComponents, ComponentsBy, whole_path}
use Rattle.git_location.specs.Text.{original_path}
use Rattle.git_laws.specs.ComponentLaws.{OneComponents}
use Rattle.git_syntax.proofs.Texts.CutLemmas.{cut_unique, free_or_cut, not_free, free-cons}

-- ---- the path, the query and the fragment

-- the parts of a text around its first c are determined
off_unique : (c : ℕ) (text f g : List ℕ) (p q : Option (List ℕ)) → CutsText c text f p → CutsText c text g q → (f ≡ g) × (p ≡ q)
off_unique c text f g p q h6 h7 = grind (arith, nat_tests, not_free, cut_unique)

-- and each text has them
off_some : (c : ℕ) (text : List ℕ) → (front : List ℕ) × (suffix : Option (List ℕ)) × CutsText c text front suffix
off_some c text = elim (free_or_cut c text) [ inl none ↦ (text, None, (none, refl)) | inr (x, y, free, cut) ↦ (x, Some y, (free, cut)) ]

-- the path, the query and the fragment of a text are determined
pub path_unique : (text f g : List ℕ) (p q r s : Option (List ℕ)) → CutsPath text f p r → CutsPath text g q s → (f ≡ g) × (p ≡ q) × (r ≡ s)
path_unique text f g p q r s h7 h8 = grind (arith, nat_tests, off_unique)

-- ---- the fields

-- the fields of a text are at least one
pub record HasPairs (v : Location) (text : List ℕ) (pairs : List (List ℕ × List ℕ)) : Type 0 where
  pub field : List ℕ
  pub fields : List (List ℕ)
  pub cut : CutsFields text (field ∷ fields)
  pub denoted : PairsOf v (field ∷ fields) pairs

-- no field is as good as an empty one
some_fields : (v : Location) (text : List ℕ) (fields : List (List ℕ)) (pairs : List (List ℕ × List ℕ)) → CutsFields text fields → PairsOf v fields pairs → HasPairs v text pairs
some_fields v text [] pairs cut of = record { field = []; fields = []; cut = record { each = All-cons (FreeOf ampersand) [] [] refl (All-nil (FreeOf ampersand)); joined = cut.joined }; denoted = of }
some_fields v text (field ∷ fields) pairs cut of = record { field = field; fields = fields; cut = cut; denoted = of }

-- the fields of a text are determined, if there is at least one
fields_unique : (f g : List ℕ) (fs gs : List (List ℕ)) → All (FreeOf ampersand) (f ∷ fs) → All (FreeOf ampersand) (g ∷ gs) → join_with_byte ampersand (f ∷ fs) ≡ join_with_byte ampersand (g ∷ gs) → f ∷ fs ≡ g ∷ gs
fields_unique f g [] [] a b e = ap (λ t. t ∷ []) e
fields_unique f g [] (h ∷ gs) a b e = absurd (not_free ampersand g (join_with_byte ampersand (h ∷ gs)) (subst (FreeOf ampersand) e (All-head (FreeOf ampersand) f [] a)))
fields_unique f g (h ∷ fs) [] a b e = absurd (not_free ampersand f (join_with_byte ampersand (h ∷ fs)) (subst (FreeOf ampersand) (sym e) (All-head (FreeOf ampersand) g [] b)))
fields_unique f g (h ∷ fs) (k ∷ gs) a b e =
    let both = cut_unique ampersand f g (join_with_byte ampersand (h ∷ fs)) (join_with_byte ampersand (k ∷ gs)) (All-head (FreeOf ampersand) f (h ∷ fs) a) (All-head (FreeOf ampersand) g (k ∷ gs) b) e in
    let rest = fields_unique h k fs gs (All-tail (FreeOf ampersand) f (h ∷ fs) a) (All-tail (FreeOf ampersand) g (k ∷ gs) b) both.1 in
    λ i. both.0 i ∷ rest i

-- a byte before the first field
longer : (b : ℕ) (field : List ℕ) (fields : List (List ℕ)) → b ∷ join_with_byte ampersand (field ∷ fields) ≡ join_with_byte ampersand ((b ∷ field) ∷ fields)
longer b field [] = refl
longer b field (f ∷ fields) = refl

-- each text has fields
fields_some : (text : List ℕ) → (field : List ℕ) × (fields : List (List ℕ)) × CutsFields text (field ∷ fields)
fields_some [] = ([], [], record { each = All-cons (FreeOf ampersand) [] [] refl (All-nil (FreeOf ampersand)); joined = refl })
fields_some (b ∷ bs) =
    let (field, fields, cut) = fields_some bs in
    elim (cases_Bool (b == ampersand)) [
      | inl same ↦ (
        [],
        field ∷ fields,
        record {
          each = All-cons (FreeOf ampersand) [] (field ∷ fields) refl cut.each;
          joined = ap (λ d. d ∷ bs) (eqb-true b ampersand same) ∙ ap (λ t. ampersand ∷ t) cut.joined;
        },
      )
      | inr other ↦ (
        b ∷ field,
        fields,
        record {
          each = All-cons (FreeOf ampersand) (b ∷ field) fields (free-cons ampersand b field other (All-head (FreeOf ampersand) field fields cut.each)) (All-tail (FreeOf ampersand) field fields cut.each);
          joined = ap (λ t. b ∷ t) cut.joined ∙ longer b field fields;
        },
      )
    ]

-- ---- names and values

-- name and value of a field are determined
split_unique : (field n m x y : List ℕ) → SplitsField field n x → SplitsField field m y → (n ≡ m) × (x ≡ y)
split_unique field n m x y h5 h6 = grind (arith, nat_tests, not_free, cut_unique)

-- and each field has them
split_some : (field : List ℕ) → (name : List ℕ) × (value : List ℕ) × SplitsField field name value
split_some field = elim (free_or_cut equals_sign field) [
  | inl none ↦ (field, [], SplitsField.name_alone none refl refl)
  | inr (x, y, free, cut) ↦ (x, y, SplitsField.with_value free cut)
]

-- the meaning of fields is determined
pairs_unique : (v : Location) (fields : List (List ℕ)) (p q : List (List ℕ × List ℕ)) → PairsOf v fields p → PairsOf v fields q → p ≡ q
pairs_unique v [] p q h k = h ∙ sym k
pairs_unique v ([] ∷ fields) p q h k = pairs_unique v fields p q h k
pairs_unique v ((b ∷ bs) ∷ fields) p q (n, x, ps, split, rest, e) (m, y, qs, split_2, rest_2, k) =
    let both = split_unique (b ∷ bs) n m x y split split_2 in
    let others = pairs_unique v fields ps qs rest rest_2 in
    e ∙ (λ i. (term_of v (both.0 i), term_of v (both.1 i)) ∷ others i) ∙ sym k

-- and all fields denote something
pairs_some : (v : Location) (fields : List (List ℕ)) → (pairs : List (List ℕ × List ℕ)) × PairsOf v fields pairs
pairs_some v [] = ([], refl)
pairs_some v ([] ∷ fields) = pairs_some v fields
pairs_some v ((b ∷ bs) ∷ fields) =
    let (pairs, of) = pairs_some v fields in
    let (name, value, split) = split_some (b ∷ bs) in
    ((term_of v name, term_of v value) ∷ pairs, (name, value, pairs, split, of, refl))

-- the meaning of a query is determined
query_unique : (v : Location) (text : Option (List ℕ)) (p q : Option (List (List ℕ × List ℕ))) → QueryOf v text p → QueryOf v text q → p ≡ q
query_unique v None p q h k = h ∙ sym k
query_unique v (Some text) p q (fields, ps, cut, of, e) (fields_2, qs, cut_2, of_2, k) =
    let one = some_fields v text fields ps cut of in
    let two = some_fields v text fields_2 qs cut_2 of_2 in
    let same = fields_unique one.field two.field one.fields two.fields one.cut.each two.cut.each (sym one.cut.joined ∙ two.cut.joined) in
    e ∙ ap Some (pairs_unique v (two.field ∷ two.fields) ps qs (subst (λ fs. PairsOf v fs ps) same one.denoted) two.denoted) ∙ sym k

-- and each query denotes something
query_some : (v : Location) (text : Option (List ℕ)) → (query : Option (List (List ℕ × List ℕ))) × QueryOf v text query
query_some v None = (None, refl)
query_some v (Some text) =
    let (field, fields, cut) = fields_some text in
    let (pairs, of) = pairs_some v (field ∷ fields) in
    (Some pairs, (field ∷ fields, pairs, cut, of, refl))

-- a query that denotes nothing is none
pub no_query : (v : Location) (text : Option (List ℕ)) → QueryOf v text None → text ≡ None
no_query v None of = refl
no_query v (Some text) (fields, pairs, cut, of, e) = absurd (cc)

-- ---- the components

-- a location of HTTP has one value of components at most
web_unique : (v : Location) (x y : Components) → WebComponents v x → WebComponents v y → x ≡ y
web_unique v x y h k =
    let (front, query, fragment) = path_unique (original_path v) h.front k.front h.query k.query h.fragment k.fragment h.cut k.cut in
    let path_same = h.path_denoted ∙ ap (λ t. or_root (stands_for v t)) front ∙ sym k.path_denoted in
    let query_same = query_unique v k.query x.query y.query (subst (λ o. QueryOf v o x.query) query h.query_denoted) k.query_denoted in
    let fragment_same = h.fragment_denoted ∙ ap (option_map (stands_for v)) fragment ∙ sym k.fragment_denoted in
    λ i. record { path = path_same i; query = query_same i; fragment = fragment_same i }

-- and one at least
web_some : (v : Location) → (components : Components) × WebComponents v components
web_some v =
    let (middle, fragment, first) = off_some number_sign (original_path v) in
    let (front, query, second) = off_some question_mark middle in
    let (pairs, of) = query_some v query in (
      record { path = or_root (stands_for v front); query = pairs; fragment = option_map (stands_for v) fragment },
      record {
        front = front;
        query = query;
        fragment = fragment;
        cut = (middle, first, second);
        path_denoted = refl;
        query_denoted = of;
        fragment_denoted = refl;
      },
    )

-- so has each location, by its scheme
by_unique : (p : Scheme) (v : Location) (x y : Components) → ComponentsBy p v x → ComponentsBy p v y → x ≡ y
by_unique p v x y h4 h5 = grind (arith, nat_tests, web_unique)

by_some : (p : Scheme) (v : Location) → (components : Components) × ComponentsBy p v components
by_some http v = web_some v
by_some https v = web_some v
by_some _ v = (whole_path v.path, refl)

-- every location has components, and no two
pub one_components : OneComponents
one_components v =
    let (components, of) = by_some v.scheme v in
    (components, of, λ others h. by_unique v.scheme v others components h of)
