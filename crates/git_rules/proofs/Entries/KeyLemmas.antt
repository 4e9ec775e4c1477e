-- A key and a line determine their parts.
use Rattle.std.proofs.Common.{◌≡◌, ℕ, ◌==◌, true, ◌⊎◌, length, arith, inl, inr, List, [], ◌∷◌, ◌++◌, Option, Some, None, refl, sym, ◌∙◌, ap, subst}
use Rattle.std.proofs.lemmas.Bool.{eq-eqb, eqb-true}
use Rattle.git_syntax.specs.Bytes.{FreeOf, begins_by, dot, newline}
use Rattle.git_syntax.proofs.Texts.CutLemmas.{class_cut_unique, cut_unique, last_cut_unique, not_free}
use Rattle.git_rules.specs.Config.{ConfigEntry, SpellsEntry, SpellsKey, name_text, value_text}

-- the text after the first dot determines the subsection and the name
pub name_unique : (a b : Option (List ℕ)) (n m : List ℕ) → FreeOf dot n → FreeOf dot m → name_text a n ≡ name_text b m → (a ≡ b) × (n ≡ m)
name_unique None None n m f g e = (refl, e)
name_unique None (Some y) n m f g e = absurd (not_free dot y m (subst (λ t. FreeOf dot t) e f))
name_unique (Some x) None n m f g e = absurd (not_free dot x n (subst (λ t. FreeOf dot t) (sym e) g))
name_unique (Some x) (Some y) n m f g e =
    let pieces = last_cut_unique dot x y n m f g e in
    (ap (λ t. Some t) pieces.0, pieces.1)

-- a text of no length is empty
pub empty_is : (t : List ℕ) → (length t == 0) ≡ true → t ≡ []
empty_is [] h = refl
empty_is (b ∷ t) h = absurd (omega (arith, eqb-true (length (b ∷ t)) 0 h))

-- the pieces around the first dot determine the section
pub section_is : (key a b s : List ℕ) (sub : Option (List ℕ)) (n : List ℕ) → FreeOf dot a → key ≡ a ++ dot ∷ b → SpellsKey key s sub n → (a ≡ s) × (b ≡ name_text sub n)
section_is key a b s sub n free e (k, f) = cut_unique dot a s b (name_text sub n) free k.0 (sym e ∙ f)

-- a key that begins with a dot is none
pub no_section : (key a b s : List ℕ) (sub : Option (List ℕ)) (n : List ℕ) → FreeOf dot a → key ≡ a ++ dot ∷ b → a ≡ [] → ¬ SpellsKey key s sub n
no_section key a b s sub n free e empty (k, f) =
    k.1 (sym (section_is key a b s sub n free e (k, f)).0 ∙ empty)

-- a key that ends in a dot is none
pub no_name : (key a b s : List ℕ) (found sub : Option (List ℕ)) (m n : List ℕ) → FreeOf dot a → key ≡ a ++ dot ∷ b → FreeOf dot m → b ≡ name_text found m → m ≡ [] → ¬ SpellsKey key s sub n
no_name key a b s found sub m n free e last is empty (k, f) =
    let suffix = (section_is key a b s sub n free e (k, f)).1 in
    k.3 (sym (name_unique found sub m n last k.2 (sym is ∙ suffix)).1 ∙ empty)

-- the text after a key is nothing, or begins with a line feed
pub value_begins : (v : Option (List ℕ)) → (value_text v ≡ []) ⊎ (begins_by (λ d. d == newline) (value_text v) ≡ true)
value_begins None = inl refl
value_begins (Some v) = inr (eq-eqb newline newline refl)

-- a line determines its key
pub key_is : (a b : List ℕ) (v w : Option (List ℕ)) → FreeOf newline a → FreeOf newline b → a ++ value_text v ≡ b ++ value_text w → a ≡ b
key_is a b v w f g e =
    (class_cut_unique (λ d. d == newline) a b (value_text v) (value_text w) f g (value_begins v) (value_begins w) e).0

-- a line whose key has no parts spells no entry
pub no_entry : (line key : List ℕ) (v : Option (List ℕ)) (e : ConfigEntry) → FreeOf newline key → line ≡ key ++ value_text v → ((s : List ℕ) (sub : Option (List ℕ)) (n : List ℕ) → ¬ SpellsKey key s sub n) → ¬ SpellsEntry line e
no_entry line key v e free is none (other, f, spelled, whole) =
    let same = key_is key other v e.value free f (sym is ∙ whole) in
    none e.section e.subsection e.name (subst (λ k. SpellsKey k e.section e.subsection e.name) (sym same) spelled)
