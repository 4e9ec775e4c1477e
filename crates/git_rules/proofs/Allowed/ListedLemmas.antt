-- Names in a list with a colon between two, by its first name and the others.
use Rattle.std.proofs.Common.{◌≡◌, ℕ, Bool, false, List, [], ◌∷◌, ◌++◌, All, refl, ap, ◌∙◌}
use Rattle.std.specs.Prelude.{◌==◌, ◌||◌, bytes_eq}
use Rattle.std.specs.List.{list_any}
use Rattle.std.proofs.Math.Bool.{or-false}
use Rattle.std.proofs.lemmas.List.Elements.{All-cons, All-nil}
use Rattle.std.proofs.lemmas.List.Splits.{slice_split_at, slice_split_none}
use Rattle.git_syntax.specs.Bytes.{FreeOf, colon}
use Rattle.git_syntax.proofs.Texts.CutLemmas.{free_head_tail}
use Rattle.git_rules.specs.Protocols.{is_listed}

abbrev is_colon : ℕ → Bool
is_colon b = b == colon

abbrev IsNoColon : ℕ → Type 0
IsNoColon b = is_colon b ≡ false

-- no byte of a text without a colon is a colon
free_each : (bs : List ℕ) → FreeOf colon bs → All IsNoColon bs
free_each [] free = All-nil IsNoColon
free_each (b ∷ bs) free =
    let parts = free_head_tail colon b bs free in
    All-cons IsNoColon b bs parts.0 (free_each bs parts.1)

-- a list is its first name, and the others
pub listed-cut : (piece rest name : List ℕ) → FreeOf colon piece → is_listed (piece ++ colon ∷ rest) name ≡ (bytes_eq piece name || is_listed rest name)
listed-cut piece rest name free = ap (λ pieces. list_any (λ p. bytes_eq p name) pieces) (slice_split_at is_colon piece colon rest (free_each piece free) refl)

-- a list without a colon is one name
pub listed-last : (piece name : List ℕ) → FreeOf colon piece → is_listed piece name ≡ bytes_eq piece name
listed-last piece name free = ap (λ pieces. list_any (λ p. bytes_eq p name) pieces) (slice_split_none is_colon piece (free_each piece free)) ∙ or-false (bytes_eq piece name)
