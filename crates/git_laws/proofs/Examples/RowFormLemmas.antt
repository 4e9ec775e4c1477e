-- The bytes that a written-out text has and those that it lacks, by searching it.
use Rattle.std.proofs.Common.{◌≡◌, ℕ, Bool, true, false, nat_le, ◌&&◌, ◌||◌, ◌==◌, List, [], ◌∷◌, ◌++◌, length, refl, sym, ap, ◌∙◌, eqb}
use Rattle.std.proofs.lemmas.Bool.{both_ways, and_from, eq-eqb, leb-true, or_left, or_right}
use Rattle.git_syntax.specs.Bytes.{colon, Lacks, FreeOf, Holds, begins_by, begins_with, is_helper_name, is_path_start, StartsPath, is_any_slash}
use Rattle.git_syntax.specs.Schemes.{is_web_scheme}
use Rattle.git_syntax.specs.Authority.{without_white_space, IsWithinLimit, Fits}
use Rattle.git_syntax.specs.Grammar.{HasHelperForm}
use Rattle.git_syntax.proofs.Texts.CutLemmas.{cut_unique, helper_name_free}

-- different bytes are not equal
pub other_byte : {A : Type 0} (a b : ℕ) → eqb a b ≡ false → a ≡ b → A
other_byte a b h e = absurd (both_ways (eqb a b) h (eq-eqb a b e))

-- ---- the bytes that a text lacks

-- the text begins with the mark
abbrev pub begins_as : List ℕ → List ℕ → Bool
begins_as [] bs = true
begins_as (m ∷ mark) [] = false
begins_as (m ∷ mark) (b ∷ bs) = b == m && begins_as mark bs

-- the mark is somewhere in the text
abbrev pub holds : List ℕ → List ℕ → Bool
holds mark [] = begins_as mark []
holds mark (b ∷ bs) = begins_as mark (b ∷ bs) || holds mark bs

begins-append : (mark rest : List ℕ) → begins_as mark (mark ++ rest) ≡ true
begins-append [] rest = refl
begins-append (m ∷ mark) rest = and_from _ _ (eq-eqb m m refl) (begins-append mark rest)

held_here : (mark bs : List ℕ) → begins_as mark bs ≡ true → holds mark bs ≡ true
held_here mark [] h = h
held_here mark (b ∷ bs) h = or_left _ _ h

held : (front mark rest : List ℕ) → holds mark (front ++ (mark ++ rest)) ≡ true
held [] mark rest = held_here mark (mark ++ rest) (begins-append mark rest)
held (b ∷ front) mark rest = or_right _ _ (held front mark rest)

-- a text in which a search doesn't find the mark doesn't hold it
pub not_held : (mark bs : List ℕ) → holds mark bs ≡ false → ¬ Holds mark bs
not_held mark bs h (front, rest, e) = both_ways _ h (ap (holds mark) e ∙ held front mark rest)

-- a text has no helper form if no helper's name comes before its first colon, or no colon after that
pub no_helper_at : (bs front rest : List ℕ) → bs ≡ front ++ colon ∷ rest → FreeOf colon front → (is_helper_name front && begins_with colon rest) ≡ false → ¬ HasHelperForm bs
no_helper_at bs front rest e free other (name, address, parts) =
    let same = cut_unique colon front name rest (colon ∷ address) free (helper_name_free name colon parts.named refl) (sym e ∙ parts.joined) in
    both_ways _ other (and_from _ _ (ap is_helper_name same.0 ∙ parts.named) (ap (begins_with colon) same.1))

-- ---- lengths

-- a scheme, a front and a path are short enough, by tests
pub fits_row : (scheme front back : List ℕ) → nat_le (length scheme) 1024 ≡ true → without_white_space (front ++ back) ≡ front ++ back → begins_by is_any_slash (front ++ back) ≡ false → Lacks (is_path_start (is_web_scheme scheme)) front → StartsPath (is_web_scheme scheme) back → IsWithinLimit front back (front ++ back) → Fits scheme (front ++ back)
fits_row scheme front back size kept apart before starts short =
    record { slashes = []; front = front; back = back; scheme_length = leb-true _ _ size; joined = kept; skipped = refl; reached = apart; before_path = before; path = starts; short = short }
