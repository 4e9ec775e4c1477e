-- No markup is in a text that is put into a page, and no tag in a text of JSON.
use Rattle.std.proofs.Common.{◌≡◌, ℕ, true, false, ◌==◌, List, [], ◌∷◌, ◌++◌, Result, Ok, Err, OnOk, refl, inl, inr}
use Rattle.std.specs.Prelude.{flat_map}
use Rattle.std.proofs.lemmas.Bool.{cases_Bool}
use Rattle.explain_page.specs.Markup.{less_than, greater_than, ampersand, double_quote, single_quote, escaped_byte, escaped, has_no_markup, has_no_tag, island, island_byte}

-- a byte that is put in as it is
plain_byte : (b : ℕ) (rest : List ℕ) → (b == less_than) ≡ false → (b == greater_than) ≡ false → (b == ampersand) ≡ false
    → (b == double_quote) ≡ false → (b == single_quote) ≡ false → has_no_markup rest ≡ true → has_no_markup (b ∷ rest) ≡ true
plain_byte b rest less greater and double single h = rw (less, greater, and, double, single) h

-- a byte before a text without markup
escaped_byte_before : (b : ℕ) (rest : List ℕ) → has_no_markup rest ≡ true → has_no_markup (escaped_byte b ++ rest) ≡ true
escaped_byte_before b rest h = elim (cases_Bool (b == less_than)) [
  | inl is ↦ rw is h
  | inr less ↦ elim (cases_Bool (b == greater_than)) [
    | inl is ↦ rw (less, is) h
    | inr greater ↦ elim (cases_Bool (b == ampersand)) [
      | inl is ↦ rw (less, greater, is) h
      | inr and ↦ elim (cases_Bool (b == double_quote)) [
        | inl is ↦ rw (less, greater, and, is) h
        | inr double ↦ elim (cases_Bool (b == single_quote)) [
          | inl is ↦ rw (less, greater, and, double, is) h
          | inr single ↦ rw (less, greater, and, double, single) (plain_byte b rest less greater and double single h)
        ]
      ]
    ]
  ]
]

-- all of a text
pub no_markup_escaped : (text : List ℕ) → has_no_markup (escaped text) ≡ true
no_markup_escaped [] = refl
no_markup_escaped (b ∷ text) = escaped_byte_before b (escaped text) (no_markup_escaped text)

-- the markup that is added if a text is added
pub added_text : {T E : Type 0} (r : Result T E) (old new text : List ℕ) → OnOk r (new ≡ old ++ flat_map escaped_byte text)
    → OnOk r ((added : List ℕ) × (new ≡ old ++ added) × (has_no_markup added ≡ true))
added_text (Ok t) old new text is = (escaped text, is, no_markup_escaped text)
added_text (Err e) old new text is = tt

-- a byte of JSON before a text without tags
island_byte_before : (b : ℕ) (rest : List ℕ) → has_no_tag rest ≡ true → has_no_tag (island_byte b ++ rest) ≡ true
island_byte_before b rest h = elim (cases_Bool (b == less_than)) [
  | inl is ↦ rw is h
  | inr less ↦ rw (less, less) h
]

-- all of a text of JSON
pub no_tag_island : (text : List ℕ) → has_no_tag (island text) ≡ true
no_tag_island [] = refl
no_tag_island (b ∷ text) = island_byte_before b (island text) (no_tag_island text)

-- the markup that is added if a text of JSON is added
pub added_island : {T E : Type 0} (r : Result T E) (old new text : List ℕ) → OnOk r (new ≡ old ++ flat_map island_byte text)
    → OnOk r ((added : List ℕ) × (new ≡ old ++ added) × (has_no_tag added ≡ true))
added_island (Ok t) old new text is = (island text, is, no_tag_island text)
added_island (Err e) old new text is = tt
