-- Texts in the scp form: one user and one host in a front, one user and one address in the form
-- `user@[address]:path`, and which fronts such a text has.
use Rattle.std.proofs.Common.{◌≡◌, ℕ, ◌==◌, ◌⊎◌, inl, inr, false, List, [], ◌∷◌, ◌++◌, Option, Some, None, sym, ap, subst, ◌∙◌, refl, append_assoc, arith}
use Rattle.std.proofs.lemmas.Bool.Decides.{nat_tests}
use Rattle.std.proofs.lemmas.Bool.{false≢true}
use Rattle.git_syntax.specs.Bytes.{colon, at_sign, left_bracket, right_bracket, FreeOf, begins_with}
use Rattle.git_syntax.specs.Escapes.{escaped_percents}
use Rattle.git_syntax.specs.Hosts.{IsAddressPiece, IsPlainHost, SpellsHostPort}
use Rattle.git_syntax.specs.Hosts.HostSyntax.{git_hosts}
use Rattle.git_syntax.specs.Grammar.{ScpFront, AddressedForm, ScpUser, ScpHost}
use Rattle.git_syntax.proofs.Texts.CutLemmas.{tails, cut_unique, last_cut_unique, free-append, free_parts, free_head_tail, free_or_cut, not_free}
use Rattle.git_syntax.proofs.Addresses.AddressLemmas.{address_free}
use Rattle.git_syntax.proofs.Texts.EscapeLemmas.{lacks_escaped_percents}
use Rattle.git_syntax.proofs.Parsing.FormLemmas.{address_cut, addressed_joined, addressed_front_free, address_front_free, address_back_free}
use Rattle.git_syntax.proofs.Parsing.ClassifierLemmas.{bracketed_joined}

-- ---- fronts

-- a front holds one user and one host free of `@`
pub scp_user_unique : (front : List ℕ) (user other : Option (List ℕ)) (host second : List ℕ) → FreeOf at_sign host → FreeOf at_sign second → ScpUser front user host → ScpUser front other second → (user ≡ other) × (host ≡ second)
scp_user_unique front user other host second f g h k = grind (arith, nat_tests, last_cut_unique, not_free)

-- ---- the form `user@[address]:path`

-- the text determines user, address and path of the shape
pub addressed_unique : (b user other address second path last : List ℕ) → AddressedForm b user address path → AddressedForm b other second last → (user ≡ other) × (address ≡ second) × (path ≡ last)
addressed_unique b user other address second path last h k =
    let (x, y, f, e) = address_cut address h.cut.addressed in
    let (z, q, g, j) = address_cut second k.cut.addressed in
    let whole = sym (addressed_joined user address path x y e) ∙ sym h.cut.joined ∙ k.cut.joined ∙ addressed_joined other second last z q j in
    let outer = cut_unique colon (user ++ at_sign ∷ (left_bracket ∷ x)) (other ++ at_sign ∷ (left_bracket ∷ z)) (y ++ right_bracket ∷ (colon ∷ path)) (q ++ right_bracket ∷ (colon ∷ last)) (addressed_front_free user x h.cut.no_colon f) (addressed_front_free other z k.cut.no_colon g) whole in
    let fronts = last_cut_unique at_sign user other (left_bracket ∷ x) (left_bracket ∷ z) (address_front_free at_sign address x y refl h.cut.addressed e) (address_front_free at_sign second z q refl k.cut.addressed j) outer.0 in
    let backs = cut_unique right_bracket y q (colon ∷ path) (colon ∷ last) (address_back_free right_bracket address x y refl h.cut.addressed e) (address_back_free right_bracket second z q refl k.cut.addressed j) outer.1 in
    (fronts.0, e ∙ (λ i. tails fronts.1 i ++ colon ∷ backs.0 i) ∙ sym j, tails backs.1)

-- ---- a bracket that nothing closes

-- a text that begins with a bracket isn't one that doesn't, with something after it
pub begins_apart : (x y z : List ℕ) (c : ℕ) → begins_with left_bracket y ≡ false → left_bracket ∷ x ≡ y ++ c ∷ z → (c == left_bracket) ≡ false → ⊥
begins_apart x y z c f e other = grind arith

-- a text that begins with a bracket doesn't pass as one that doesn't
bracket_first : (x : List ℕ) → begins_with left_bracket (left_bracket ∷ x) ≡ false → ⊥
bracket_first x h = false≢true (sym h)

-- nor is it an address, with or without a colon after it
bracket_no_address : (x : List ℕ) → IsAddressPiece (left_bracket ∷ x) → ⊥
bracket_no_address x (inl h) = false≢true (sym (free_head_tail left_bracket left_bracket x (address_free left_bracket (left_bracket ∷ x) refl h)).0)
bracket_no_address x (inr (address, h, e)) =
    let free : FreeOf left_bracket (left_bracket ∷ x) = subst (λ s. FreeOf left_bracket s) (sym e) (free-append left_bracket address (colon ∷ []) (address_free left_bracket address refl h) refl) in
    false≢true (sym (free_head_tail left_bracket left_bracket x free).0)

-- nor a host outside brackets with something after it
bracket_no_plain : (x text rest : List ℕ) → IsPlainHost text → left_bracket ∷ x ≡ text ++ colon ∷ rest → ⊥
bracket_no_plain x text rest h e = begins_apart x text rest colon h.no_bracket e refl

-- a bracket that nothing closes names no host
open_bracket_unnamed : (x named : List ℕ) → FreeOf right_bracket x → SpellsHostPort git_hosts (left_bracket ∷ x) (Some named) None → ⊥
open_bracket_unnamed x named f (SpellsHostPort.nothing e h p) = let wrong : left_bracket ∷ x ≡ [] = e in cc
open_bracket_unnamed x named f (SpellsHostPort.bracketed y inner g i e h p) = not_free right_bracket y [] (subst (λ s. FreeOf right_bracket s) (tails e) f)
open_bracket_unnamed x named f (SpellsHostPort.bracketed_colon y inner g i e h p) = not_free right_bracket y (colon ∷ []) (subst (λ s. FreeOf right_bracket s) (tails e) f)
open_bracket_unnamed x named f (SpellsHostPort.bracketed_port y inner digits number g i d e h p) = not_free right_bracket y (colon ∷ digits) (subst (λ s. FreeOf right_bracket s) (tails e) f)
open_bracket_unnamed x named f (SpellsHostPort.unbracketed a h p) = bracket_no_address x a.1
open_bracket_unnamed x named f (SpellsHostPort.plain y g i h p) = bracket_first x g.no_bracket
open_bracket_unnamed x named f (SpellsHostPort.plain_colon text y g i e h p) = bracket_no_plain x text [] g e
open_bracket_unnamed x named f (SpellsHostPort.plain_port text y digits number g i d e h p) = bracket_no_plain x text digits g e
open_bracket_unnamed x named f (SpellsHostPort.colons y m a g i t h p) = bracket_first x g

-- such a host isn't one of the scp form
pub open_bracket_no_host : (host x denoted : List ℕ) → host ≡ left_bracket ∷ x → FreeOf right_bracket x → ScpHost host denoted → ⊥
open_bracket_no_host host x denoted e f h =
    open_bracket_unnamed (escaped_percents x) h.named (lacks_escaped_percents (λ b. b == right_bracket) x refl refl refl f) (subst (λ z. SpellsHostPort git_hosts (escaped_percents z) (Some h.named) None) e h.names)

-- ---- the fronts of a text with the shape

-- the forms of the front of such a text: it ends within the address, or after its bracket
abbrev pub FrontOf : List ℕ → List ℕ → List ℕ → List ℕ → List ℕ → List ℕ → Type 0
FrontOf user address path x front second =
    (front ≡ user ++ at_sign ∷ (left_bracket ∷ x)) ⊎ ((front ≡ user ++ at_sign ∷ (left_bracket ∷ (address ++ right_bracket ∷ []))) × (second ≡ path))

-- a user without `]`: the brackets are those around the address
closed_front : (user address path inside after front second : List ℕ) → FreeOf right_bracket user → FreeOf right_bracket address → FreeOf right_bracket inside → FreeOf colon after → front ≡ left_bracket ∷ (inside ++ right_bracket ∷ after) → left_bracket ∷ (inside ++ right_bracket ∷ (after ++ colon ∷ second)) ≡ user ++ at_sign ∷ (left_bracket ∷ (address ++ right_bracket ∷ (colon ∷ path))) → (front ≡ user ++ at_sign ∷ (left_bracket ∷ (address ++ right_bracket ∷ []))) × (second ≡ path)
closed_front user address path inside after front second u a i n e whole =
    let outer = cut_unique right_bracket (left_bracket ∷ inside) (user ++ at_sign ∷ (left_bracket ∷ address)) (after ++ colon ∷ second) (colon ∷ path) i (free-append right_bracket user (at_sign ∷ (left_bracket ∷ address)) u a) (whole ∙ sym (append_assoc user (at_sign ∷ (left_bracket ∷ address)) (right_bracket ∷ (colon ∷ path)))) in
    let inner = cut_unique colon after [] second path n refl outer.1 in
    (e ∙ (λ j. outer.0 j ++ right_bracket ∷ inner.0 j) ∙ append_assoc user (at_sign ∷ (left_bracket ∷ address)) (right_bracket ∷ []), inner.1)

-- a user with `]`: its first one closes the brackets
inner_front : (user x y z rest inside after front second : List ℕ) → user ≡ y ++ right_bracket ∷ z → FreeOf right_bracket y → FreeOf colon user → FreeOf colon x → FreeOf right_bracket inside → FreeOf colon after → front ≡ left_bracket ∷ (inside ++ right_bracket ∷ after) → left_bracket ∷ (inside ++ right_bracket ∷ (after ++ colon ∷ second)) ≡ (user ++ at_sign ∷ (left_bracket ∷ x)) ++ colon ∷ rest → front ≡ user ++ at_sign ∷ (left_bracket ∷ x)
inner_front user x y z rest inside after front second cut f u c i n e whole =
    let moved : (user ++ at_sign ∷ (left_bracket ∷ x)) ++ colon ∷ rest ≡ y ++ right_bracket ∷ ((z ++ at_sign ∷ (left_bracket ∷ x)) ++ colon ∷ rest) =
    ap (λ s. (s ++ at_sign ∷ (left_bracket ∷ x)) ++ colon ∷ rest) cut
    ∙ ap (λ s. s ++ colon ∷ rest) (append_assoc y (right_bracket ∷ z) (at_sign ∷ (left_bracket ∷ x)))
    ∙ append_assoc y (right_bracket ∷ (z ++ at_sign ∷ (left_bracket ∷ x))) (colon ∷ rest) in
    let outer = cut_unique right_bracket (left_bracket ∷ inside) y (after ++ colon ∷ second) ((z ++ at_sign ∷ (left_bracket ∷ x)) ++ colon ∷ rest) i f (whole ∙ moved) in
    let suffix : FreeOf colon z = (free_head_tail colon right_bracket z (free_parts colon y (right_bracket ∷ z) (subst (λ s. FreeOf colon s) cut u)).1).1 in
    let inner = cut_unique colon after (z ++ at_sign ∷ (left_bracket ∷ x)) second rest n (addressed_front_free z x suffix c) outer.1 in
    e ∙ (λ j. outer.0 j ++ right_bracket ∷ inner.0 j) ∙ sym (append_assoc y (right_bracket ∷ z) (at_sign ∷ (left_bracket ∷ x))) ∙ ap (λ s. s ++ at_sign ∷ (left_bracket ∷ x)) (sym cut)

-- the fronts of the scp form in a text with the shape
pub front_of_addressed : (b user address path x y front second : List ℕ) → AddressedForm b user address path → FreeOf colon x → address ≡ x ++ colon ∷ y → b ≡ front ++ colon ∷ second → ScpFront b front → FrontOf user address path x front second
front_of_addressed b user address path x y front second h f e j (ScpFront.plain g blank) =
    inl (cut_unique colon front (user ++ at_sign ∷ (left_bracket ∷ x)) second (y ++ right_bracket ∷ (colon ∷ path)) g (addressed_front_free user x h.cut.no_colon f) (sym j ∙ h.cut.joined ∙ addressed_joined user address path x y e)).0
front_of_addressed b user address path x y front second h f e j (ScpFront.bracketed inside after i n k) =
    let whole = sym (bracketed_joined b front second inside after j k) ∙ h.cut.joined in
    elim (free_or_cut right_bracket user) [
      | inl u ↦ inr (closed_front user address path inside after front second u (address_free right_bracket address refl h.cut.addressed) i n k whole)
      | inr (s, t, u, cut) ↦
          inl (inner_front user x s t (y ++ right_bracket ∷ (colon ∷ path)) inside after front second cut u h.cut.no_colon f i n k (whole ∙ addressed_joined user address path x y e))
    ]
