-- The forms of a text exclude one another.
use Rattle.std.proofs.Common.{◌≡◌, ℕ, inl, inr, false, List, [], ◌∷◌, ◌++◌, refl, sym, ap, subst, ◌∙◌, append_assoc, codes, arith}
use Rattle.std.proofs.lemmas.Bool.Decides.{nat_tests}
use Rattle.std.proofs.lemmas.Bool.{cases_Bool}
use Rattle.git_syntax.specs.Location.{Location}
use Rattle.git_syntax.specs.Bytes.{slash, colon, at_sign, left_bracket, right_bracket, FreeOf, begins_with}
use Rattle.git_syntax.specs.Internal.Cuts.{url_mark}
use Rattle.git_syntax.specs.Addresses.{IsIpv6Text}
use Rattle.git_syntax.specs.Grammar.{HasHelperForm, IsNeither, ScpFront, ScpForm, AddressedForm, HasScpForm, SpellsUrl, SpellsFile, SpellsScp}
use Rattle.git_syntax.proofs.Texts.CutLemmas.{different_bytes, cut_unique, helper_name_free, scheme_text_free, free-append, free_parts, free_head_tail, free_or_cut, begins_cut, not_free}
use Rattle.git_syntax.proofs.Addresses.AddressLemmas.{is_address_byte, address_free, address_two_colons}

-- ---- marks

-- a text before `://` without a colon is determined, and so is the rest
pub scheme_cut_unique : (s t x y : List ℕ) → FreeOf colon s → FreeOf colon t → s ++ (url_mark ++ x) ≡ t ++ (url_mark ++ y) → (s ≡ t) × (x ≡ y)
scheme_cut_unique s t x y f g e = grind (arith, nat_tests, cut_unique)

-- a text whose first colon begins `://` doesn't have the form of a remote helper
pub mark_no_helper : (b scheme rest : List ℕ) → FreeOf colon scheme → b ≡ scheme ++ (url_mark ++ rest) → ¬ HasHelperForm b
mark_no_helper b scheme rest free joined (name, address, parts) =
    let pieces = cut_unique colon scheme name (slash ∷ slash ∷ rest) (colon ∷ address) free (helper_name_free name colon parts.named refl) (sym joined ∙ parts.joined) in
    different_bytes 47 58 refl pieces.1

-- ---- the form `user@[address]:path`

-- an address around its first colon
pub address_cut : (t : List ℕ) → IsIpv6Text t → (x : List ℕ) × (y : List ℕ) × FreeOf colon x × (t ≡ x ++ colon ∷ y)
address_cut t h = elim (free_or_cut colon t) [
  | inl free ↦
      let (x, y, z, e) = address_two_colons t h in
      absurd (not_free colon x (y ++ colon ∷ z) (subst (λ s. FreeOf colon s) e free))
  | inr found ↦ found
]

-- the text around its first colon, which is in the address
pub addressed_joined : (user address path x y : List ℕ) → address ≡ x ++ colon ∷ y → user ++ at_sign ∷ (left_bracket ∷ (address ++ right_bracket ∷ (colon ∷ path))) ≡ (user ++ at_sign ∷ (left_bracket ∷ x)) ++ colon ∷ (y ++ right_bracket ∷ (colon ∷ path))
addressed_joined user address path x y e = grind (arith, nat_tests, append_assoc)

-- the text before that colon holds none
pub addressed_front_free : (user x : List ℕ) → FreeOf colon user → FreeOf colon x → FreeOf colon (user ++ at_sign ∷ (left_bracket ∷ x))
addressed_front_free user x f g = free-append colon user (at_sign ∷ (left_bracket ∷ x)) f g

-- the pieces of an address are free of each byte that no address holds
address_pieces_free : (c : ℕ) (t x y : List ℕ) → is_address_byte c ≡ false → IsIpv6Text t → t ≡ x ++ colon ∷ y → FreeOf c x × FreeOf c (colon ∷ y)
address_pieces_free c t x y other h e = free_parts c x (colon ∷ y) (subst (λ s. FreeOf c s) e (address_free c t other h))

-- so is its front
pub address_front_free : (c : ℕ) (t x y : List ℕ) → is_address_byte c ≡ false → IsIpv6Text t → t ≡ x ++ colon ∷ y → FreeOf c x
address_front_free c t x y other h e = (address_pieces_free c t x y other h e).0

-- and the text after the colon
pub address_back_free : (c : ℕ) (t x y : List ℕ) → is_address_byte c ≡ false → IsIpv6Text t → t ≡ x ++ colon ∷ y → FreeOf c y
address_back_free c t x y other h e = (free_head_tail c colon y (address_pieces_free c t x y other h e).1).1

-- ---- the forms exclude one another

-- the scheme of a URL has no colon
pub url_scheme_free : {b : List ℕ} {v : Location} (h : SpellsUrl b v) → FreeOf colon h.parts.scheme
url_scheme_free h = scheme_text_free h.parts.scheme colon h.spelled.scheme_text refl

-- a URL doesn't have the scp form and isn't a local path
pub url_not_neither : {b : List ℕ} {v : Location} → SpellsUrl b v → IsNeither b → ⊥
url_not_neither h k = k.no_mark (h.parts.scheme, h.spelled.authority ++ h.parts.path, h.spelled.joined)

-- the same of a file URL
pub file_not_neither : {b : List ℕ} {v : Location} → SpellsFile b v → IsNeither b → ⊥
file_not_neither h k = k.no_mark (codes "file", h.host ++ h.path, h.joined)

-- a text that has the scp form is neither a remote helper nor a URL
pub scp_neither : {b : List ℕ} {v : Location} → SpellsScp b v → IsNeither b
scp_neither h = grind arith

-- it has a shape of that form
pub scp_has_form : {b : List ℕ} {v : Location} → SpellsScp b v → HasScpForm b
scp_has_form h = grind arith

-- ---- the form `user@[address]:path` is one of the earlier scp form too

-- a text in front of an `@` that begins with no bracket
pub begins_before_at : (user rest : List ℕ) → begins_with left_bracket user ≡ false → begins_with left_bracket (user ++ at_sign ∷ rest) ≡ false
begins_before_at user rest h = grind arith

-- a front that ends within the address
within_form : (b user address path x y : List ℕ) → AddressedForm b user address path → address ≡ x ++ colon ∷ y → ScpFront b (user ++ at_sign ∷ (left_bracket ∷ x)) → ScpForm b (user ++ at_sign ∷ (left_bracket ∷ x)) (y ++ right_bracket ∷ (colon ∷ path))
within_form b user address path x y h e form = record {
  joined = h.cut.joined ∙ addressed_joined user address path x y e;
  neither = h.neither;
  no_slash = free-append slash user (at_sign ∷ (left_bracket ∷ x)) h.cut.no_slash (address_front_free slash address x y refl h.cut.addressed e);
  form = form;
}

-- a front that ends after the bracket
after_form : (b user address path : List ℕ) → AddressedForm b user address path → ScpFront b (user ++ at_sign ∷ (left_bracket ∷ (address ++ right_bracket ∷ []))) → ScpForm b (user ++ at_sign ∷ (left_bracket ∷ (address ++ right_bracket ∷ []))) path
after_form b user address path h form = record {
  joined =
      h.cut.joined
      ∙ ap (λ s. user ++ at_sign ∷ (left_bracket ∷ s)) (sym (append_assoc address (right_bracket ∷ []) (colon ∷ path)))
      ∙ sym (append_assoc user (at_sign ∷ (left_bracket ∷ (address ++ right_bracket ∷ []))) (colon ∷ path));
  neither = h.neither;
  no_slash = free-append slash user (at_sign ∷ (left_bracket ∷ (address ++ right_bracket ∷ []))) h.cut.no_slash (free-append slash address (right_bracket ∷ []) (address_free slash address refl h.cut.addressed) refl);
  form = form;
}

-- a user with brackets at its front: they end in the user
closed_user_front : (b user x s t : List ℕ) → user ≡ left_bracket ∷ (s ++ right_bracket ∷ t) → FreeOf right_bracket s → FreeOf colon user → FreeOf colon x → ScpFront b (user ++ at_sign ∷ (left_bracket ∷ x))
closed_user_front b user x s t cut g u f =
    let whole : FreeOf colon (left_bracket ∷ (s ++ right_bracket ∷ t)) = subst (λ z. FreeOf colon z) cut u in
    let suffix : FreeOf colon t = (free_head_tail colon right_bracket t (free_parts colon s (right_bracket ∷ t) (free_head_tail colon left_bracket (s ++ right_bracket ∷ t) whole).1).1).1 in
    ScpFront.bracketed s (t ++ at_sign ∷ (left_bracket ∷ x)) g (addressed_front_free t x suffix f) (ap (λ z. z ++ at_sign ∷ (left_bracket ∷ x)) cut ∙ ap (λ z. left_bracket ∷ z) (append_assoc s (right_bracket ∷ t) (at_sign ∷ (left_bracket ∷ x))))

-- or they end after the address
open_user_front : (b user address r : List ℕ) → user ≡ left_bracket ∷ r → FreeOf right_bracket r → FreeOf right_bracket address → ScpFront b (user ++ at_sign ∷ (left_bracket ∷ (address ++ right_bracket ∷ [])))
open_user_front b user address r begins g a =
    ScpFront.bracketed (r ++ at_sign ∷ (left_bracket ∷ address)) [] (free-append right_bracket r (at_sign ∷ (left_bracket ∷ address)) g a) refl (ap (λ z. z ++ at_sign ∷ (left_bracket ∷ (address ++ right_bracket ∷ []))) begins ∙ ap (λ z. left_bracket ∷ z) (sym (append_assoc r (at_sign ∷ (left_bracket ∷ address)) (right_bracket ∷ []))))

-- a text has a scp shape of the earlier form
abbrev pub HadScpForm : List ℕ → Type 0
HadScpForm b = (front : List ℕ) × (path : List ℕ) × ScpForm b front path

-- the front for a user that begins with a bracket
bracket_user_form : (b user address path x y r : List ℕ) → AddressedForm b user address path → FreeOf colon x → address ≡ x ++ colon ∷ y → user ≡ left_bracket ∷ r → HadScpForm b
bracket_user_form b user address path x y r h f e begins = elim (free_or_cut right_bracket r) [
  | inl g ↦
      (user ++ at_sign ∷ (left_bracket ∷ (address ++ right_bracket ∷ [])), path, after_form b user address path h (open_user_front b user address r begins g (address_free right_bracket address refl h.cut.addressed)))
  | inr (s, t, g, cut) ↦
      (user ++ at_sign ∷ (left_bracket ∷ x), y ++ right_bracket ∷ (colon ∷ path), within_form b user address path x y h e (closed_user_front b user x s t (begins ∙ ap (λ z. left_bracket ∷ z) cut) g h.cut.no_colon f))
]

-- the shape has an earlier one
pub addressed_scp : (b user address path : List ℕ) → AddressedForm b user address path → HadScpForm b
addressed_scp b user address path h =
    let (x, y, f, e) = address_cut address h.cut.addressed in
    elim (cases_Bool (begins_with left_bracket user)) [
      | inl bracket ↦ let (r, begins) = begins_cut left_bracket user bracket in bracket_user_form b user address path x y r h f e begins
      | inr other ↦
          (user ++ at_sign ∷ (left_bracket ∷ x), y ++ right_bracket ∷ (colon ∷ path), within_form b user address path x y h e (ScpFront.plain (addressed_front_free user x h.cut.no_colon f) (inl (begins_before_at user (left_bracket ∷ x) other))))
    ]

-- a text that has no earlier scp shape has none
pub not_scp : (b : List ℕ) → ((front path : List ℕ) → ¬ ScpForm b front path) → ¬ HasScpForm b
not_scp b h (inl (front, path, form)) = h front path form
not_scp b h (inr (user, address, path, form)) = let (front, second, earlier) = addressed_scp b user address path form in h front second earlier

-- ---- the earlier grammar
