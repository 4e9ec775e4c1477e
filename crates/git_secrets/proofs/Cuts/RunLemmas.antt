-- The runs of an authority and a path after it.
use Rattle.std.proofs.Common.{◌≡◌, ◌∙◌, ℕ, ◌+◌, ◌<◌, ◌⊎◌, Bool, true, false, List, [], ◌∷◌, ◌++◌, length, take, Option, Some, None, option_map, inl, inr, refl, sym, ap, arith, suc}
use Rattle.std.specs.Option.{unwrap_or}
use Rattle.std.proofs.Math.Seq.{take-append_seam}
use Rattle.git_syntax.specs.Bytes.{Lacks, StartsPath, begins_by, is_path_start}
use Rattle.git_syntax.proofs.Texts.CutLemmas.{lacks_head_tail}
use Rattle.git_secrets.specs.declared.mark.Class.{Class}
use Rattle.git_secrets.specs.declared.mark.Class.TheVariants as class
use Rattle.git_secrets.specs.Secrets.{before_path, first_of, is_of, onto_run, runs}
use Rattle.git_secrets.proofs.Cuts.ClassLemmas.{first_by}
use Rattle.git_secrets.proofs.Cuts.CutLemmas.{onto_by, runs_by}

-- a byte before a text that is empty or begins with a byte of the class is a run
onto_path : (c : Class) (b : ℕ) (p : List ℕ) → (p ≡ []) ⊎ (begins_by (is_of c) p ≡ true) → onto_run c b (runs c p) ≡ (b ∷ []) ∷ runs c p
onto_path c b [] starts = refl
onto_path c b (d ∷ ds) (inl none) = cc
onto_path c b (d ∷ ds) (inr begins) =
    ap (onto_run c b) (runs_by c d ds true begins) ∙ onto_by c b d [] (runs c ds) true begins ∙ ap (λ t. (b ∷ []) ∷ t) (sym (runs_by c d ds true begins))

-- a front that lacks the class, before such a text, is the first run
pub front_run : (c : Class) (a p : List ℕ) → 0 < length a → Lacks (is_of c) a → (p ≡ []) ⊎ (begins_by (is_of c) p ≡ true) → runs c (a ++ p) ≡ a ∷ runs c p
front_run c [] p some lacks starts = absurd (omega arith)
front_run c (b ∷ []) p some lacks starts =
    let is = lacks_head_tail (is_of c) b [] lacks in
    runs_by c b p false is.0 ∙ onto_path c b p starts
front_run c (b ∷ d ∷ a) p some lacks starts =
    let is = lacks_head_tail (is_of c) b (d ∷ a) lacks in
    let next = lacks_head_tail (is_of c) d a is.1 in
    runs_by c b (d ∷ (a ++ p)) false is.0 ∙ ap (onto_run c b) (front_run c (d ∷ a) p (omega arith) is.1 starts) ∙ onto_by c b d a (runs c p) false next.0

-- a place or the end, one byte later
one_later : (found : Option ℕ) (n : ℕ) → unwrap_or (option_map (λ k. k + 1) found) (suc n) ≡ suc (unwrap_or found n)
one_later None n = refl
one_later (Some k) n = omega arith

-- the length of such a front is the place of the first byte of the class, or the end
front_len : (c : Class) (a p : List ℕ) → Lacks (is_of c) a → (p ≡ []) ⊎ (begins_by (is_of c) p ≡ true) → unwrap_or (first_of c (a ++ p)) (length (a ++ p)) ≡ length a
front_len c [] [] lacks starts = refl
front_len c [] (d ∷ ds) lacks (inl none) = cc
front_len c [] (d ∷ ds) lacks (inr begins) = ap (λ f. unwrap_or f (length (d ∷ ds))) (first_by c d ds true begins)
front_len c (b ∷ a) p lacks starts =
    let is = lacks_head_tail (is_of c) b a lacks in
    ap (λ f. unwrap_or f (length (b ∷ (a ++ p)))) (first_by c b (a ++ p) false is.0) ∙ one_later (first_of c (a ++ p)) (length (a ++ p)) ∙ ap suc (front_len c a p is.1 starts)

-- the text before the path
pub before_path_is : (web : Bool) (a p : List ℕ) → Lacks (is_path_start web) a → StartsPath web p → before_path web (a ++ p) ≡ a
before_path_is web a p lacks starts = ap (λ n. take n (a ++ p)) (front_len (class.Path web) a p lacks starts) ∙ take-append_seam a p
