-- The root of a URL: its scheme, `://` and its authority.
use Rattle.std.proofs.Common.{◌≡◌, ℕ, ◌+◌, ◌==◌, ◌⊎◌, inl, inr, suc, true, false, List, [], ◌∷◌, ◌++◌, length, take, drop, Option, Some, None, codes, refl, sym, ap, ◌∙◌, arith}
use Rattle.std.proofs.Math.Seq.{drop-append_seam, take-append-add, take-append_seam}
use Rattle.std.proofs.lemmas.Bool.{cases_Bool}
use Rattle.std.proofs.lemmas.List.{take-append-drop}
use Rattle.std.proofs.lemmas.Slice.Eq.{bytes_eq-Decides}
use Rattle.git_syntax.specs.Bytes.{colon, left_bracket, slash, FreeOf, begins_with}
use Rattle.git_syntax.proofs.Texts.CutLemmas.{free_head_tail}
use Rattle.git_reads.specs.Transports.{BeginsBy}
use Rattle.git_modules.specs.ResolveParents.{is_remote}
use Rattle.git_modules.specs.ResolveRoots.{authority_length, keeps_root, mark_length, name_length, root_of}

-- the text begins with a name, which is after no `/` and no bracket
pub record IsName (name : List ℕ) : Type 0 where
  pub no_colon : FreeOf colon name
  pub no_slash : FreeOf slash name
  pub no_bracket : FreeOf left_bracket name

-- a name that is cut by a byte
is_name_tail : (b : ℕ) (bs : List ℕ) → IsName (b ∷ bs) → IsName bs
is_name_tail b bs h = record {
  no_colon = (free_head_tail colon b bs h.no_colon).1;
  no_slash = (free_head_tail slash b bs h.no_slash).1;
  no_bracket = (free_head_tail left_bracket b bs h.no_bracket).1;
}

-- a colon after a name is before each `/`
pub name_remote : (name rest : List ℕ) → IsName name → is_remote (name ++ colon ∷ rest) ≡ true
name_remote [] rest h = refl
name_remote (b ∷ bs) rest h =
    rw (free_head_tail colon b bs h.no_colon).0 (rw (free_head_tail slash b bs h.no_slash).0 (name_remote bs rest (is_name_tail b bs h)))

-- the name is the text before its colon
pub name_length-name : (name rest : List ℕ) → IsName name → name_length false (name ++ colon ∷ rest) ≡ length name
name_length-name [] rest h = refl
name_length-name (b ∷ bs) rest h =
    rw (free_head_tail colon b bs h.no_colon).0 (rw (free_head_tail left_bracket b bs h.no_bracket).0 (ap suc (name_length-name bs rest (is_name_tail b bs h))))

-- the root of a URL
pub root_of-url : (name rest : List ℕ) → IsName name → root_of (name ++ (codes "://" ++ rest)) ≡ name ++ (codes "://" ++ take (authority_length rest) rest)
root_of-url name rest h =
    let whole = name ++ (codes "://" ++ rest) in
    let size : name_length false whole + mark_length (drop (name_length false whole) whole) ≡ length name + (3 + authority_length rest) =
    rw (name_length-name name (slash ∷ (slash ∷ rest)) h) (rw (drop-append_seam name (codes "://" ++ rest)) refl) in
    let three : 3 + authority_length rest ≡ suc (suc (suc (authority_length rest))) = omega arith in
    rw (name_remote name (slash ∷ (slash ∷ rest)) h)
    (ap (λ n. take n whole) size ∙ take-append-add name (codes "://" ++ rest) (3 + authority_length rest) ∙ ap (λ n. name ++ take n (codes "://" ++ rest)) three)

-- the root of a text with a name begins with that
pub root_of-name : (name rest : List ℕ) → IsName name → root_of (name ++ colon ∷ rest) ≡ name ++ take (mark_length (colon ∷ rest)) (colon ∷ rest)
root_of-name name rest h =
    let whole = name ++ colon ∷ rest in
    let size : name_length false whole + mark_length (drop (name_length false whole) whole) ≡ length name + mark_length (colon ∷ rest) =
    rw (name_length-name name rest h) (rw (drop-append_seam name (colon ∷ rest)) refl) in
    rw (name_remote name rest h) (ap (λ n. take n whole) size ∙ take-append-add name (colon ∷ rest) (mark_length (colon ∷ rest)))

-- after an authority is nothing or a `/`
pub authority_ends : (text : List ℕ) → (drop (authority_length text) text ≡ []) ⊎ (begins_with slash (drop (authority_length text) text) ≡ true)
authority_ends [] = inl refl
authority_ends (b ∷ bs) =
    elim (cases_Bool (b == slash)) [
      | inl same ↦ rw same (inr same)
      | inr differs ↦ rw differs (authority_ends bs)
    ]

-- a text that begins with a root keeps it
pub keeps_some : (root : List ℕ) (left : Option (List ℕ)) → keeps_root root left ≡ true → (text : List ℕ) × (left ≡ Some text) × BeginsBy root text
keeps_some root None e = cc
keeps_some root (Some text) e =
    let same = (bytes_eq-Decides root (take (length root) text)).0 e in
    (text, refl, (drop (length root) text, sym (take-append-drop (length root) text) ∙ ap (λ z. z ++ drop (length root) text) (sym same)))
