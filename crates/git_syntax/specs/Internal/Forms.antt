-- The result of the classifier: the form of a text, and the pieces between its marks.
use Rattle.std.specs.Prelude.{◌≡◌, ℕ, false, ◌⊎◌, List, [], ◌∷◌, ◌++◌}
use Rattle.git_syntax.specs.declared.classify.Form.{Form}
use Rattle.git_syntax.specs.declared.classify.Form.TheVariants as form
use Rattle.git_syntax.specs.Bytes.{slash, colon, at_sign, left_bracket, right_bracket, FreeOf, begins_with}
use Rattle.git_syntax.specs.Grammar.{HelperCut, ScpFront, ScpForm, AddressedCut, AddressedForm, IsAddressed, LocalForm}
use Rattle.git_syntax.specs.Flaws.{UrlForm}

-- the pieces around the first colon of the text
pub record ColonCut (b front rest : List ℕ) : Type 0 where
  pub joined : b ≡ front ++ colon ∷ rest
  pub no_colon : FreeOf colon front

-- `front` is the text before the first colon
abbrev pub IsColonFront : List ℕ → List ℕ → Type 0
IsColonFront b front = (rest : List ℕ) × ColonCut b front rest

-- the pieces around the colon of the scp form
pub record FrontCut (b front path : List ℕ) : Type 0 where
  pub joined : b ≡ front ++ colon ∷ path
  pub form : ScpFront b front

-- the text has the colon of the scp form
abbrev pub HasFrontCut : List ℕ → Type 0
HasFrontCut b = (front : List ℕ) × (path : List ℕ) × FrontCut b front path

-- the text doesn't begin with a bracket, or has no closing bracket
abbrev pub LacksBrackets : List ℕ → Type 0
LacksBrackets b = (begins_with left_bracket b ≡ false) ⊎ FreeOf right_bracket b

-- the pieces around the colon of the scp form, with no `/` before it
pub record ScpCut (b front path : List ℕ) : Type 0 where
  pub around : FrontCut b front path
  pub no_slash : FreeOf slash front

-- the text has the colon of the scp form before any `/`
abbrev pub HasScpCut : List ℕ → Type 0
HasScpCut b = (front : List ℕ) × (path : List ℕ) × ScpCut b front path

-- the text is `user@[address]:path`
abbrev pub HasAddressedCut : List ℕ → Type 0
HasAddressedCut b = (user : List ℕ) × (address : List ℕ) × (path : List ℕ)
    × AddressedCut b user address path

-- a user, `@[` and the text after it
abbrev pub addressed_text : List ℕ → List ℕ → List ℕ
addressed_text user suffix = user ++ at_sign ∷ (left_bracket ∷ suffix)

-- the only user that a text `user@[address]:path` can have, and the text after its `@[`
pub record AddressedFront (b user suffix : List ℕ) : Type 0 where
  pub joined : b ≡ user ++ at_sign ∷ (left_bracket ∷ suffix)
  pub no_colon : FreeOf colon user
  pub only : (u a p : List ℕ) → AddressedCut b u a p
      → (u ≡ user) × (suffix ≡ a ++ right_bracket ∷ (colon ∷ p))

-- the text has the scp form with this front and this path, and not the form `user@[address]:path`
pub record PlainScp (b front path : List ℕ) : Type 0 where
  pub form : ScpForm b front path
  pub not_addressed : ¬ IsAddressed b

-- the text has this form, with these pieces
abbrev pub Classifies : List ℕ → Form → Type 0
Classifies b form.Empty = b ≡ []
Classifies b (form.Helper name address) = HelperCut b name.now address.now
Classifies b (form.Url scheme rest) = UrlForm b scheme.now rest.now
Classifies b (form.Addressed user address path) = AddressedForm b user.now address.now path.now
Classifies b (form.Scp front path) = PlainScp b front.now path.now
Classifies b form.Local = LocalForm b
