-- A URL that doesn't climb stays at the place of its parent, which is a URL.
use Rattle.std.proofs.Common.{◌≡◌, ℕ, ◌⊎◌, inl, inr, Bool, true, false, not, List, [], ◌∷◌, ◌++◌, take, drop, Option, Some, None, IfSome, option_and_then, Ok, codes, unwrap_or, refl, sym, ap, subst, ◌∙◌, append_assoc, append-nil}
use Rattle.std.proofs.lemmas.Bool.{cases_Bool, both_ways}
use Rattle.std.proofs.lemmas.List.{append_cancel_left, take-append-drop}
use Rattle.git_syntax.specs.Bytes.{colon, slash, FreeOf, begins_with}
use Rattle.git_syntax.proofs.Texts.CutLemmas.{ends_or_not, free_parts}
use Rattle.git_rules.specs.Patterns.{without_last_slash}
use Rattle.git_rules.proofs.Matched.PathLemmas.{without-slash, without-other}
use Rattle.git_modules.specs.ResolveSteps.{after_here, after_steps, is_relative, ups}
use Rattle.git_modules.specs.ResolveParents.{LeftOver, form_of, is_remote, left_of, whole_of}
use Rattle.git_modules.specs.Resolve.{Resolution, against, join, joined, resolution, resolved_text}
use Rattle.git_modules.specs.ResolveRoots.{authority_length, climbs, keeps_root, root_of, text_left}
use Rattle.git_modules.proofs.Resolved.StepLemmas.{after_here_joined}
use Rattle.git_modules.proofs.Resolved.ChopLemmas.{Follows, IsLeftOf, chopped_left}
use Rattle.git_modules.proofs.Resolved.RootLemmas.{IsName, authority_ends, keeps_some, name_remote, root_of-url}

-- ---- the rest

-- a text is its front without a last `/`, and the text that was left out
trimmed_front : (text : List ℕ) → (rest : List ℕ) × (text ≡ without_last_slash text ++ rest) × Follows text false rest
trimmed_front text =
    elim (ends_or_not slash text) [
      | inl (front, joined) ↦
          let cut : without_last_slash text ≡ front = ap without_last_slash joined ∙ without-slash front in
          (slash ∷ [], joined ∙ ap (λ z. z ++ slash ∷ []) (sym cut), inr refl)
      | inr none ↦
          let same = without-other text none in ([], sym same ∙ sym (append-nil (without_last_slash text)), inl (refl, same))
    ]

-- a value is there or not
none_or_some : {T : Type 0} (found : Option T) → (found ≡ None) ⊎ ((x : T) × (found ≡ Some x))
none_or_some None = inl refl
none_or_some (Some x) = inr (x, refl)

-- a text with a colon before each `/` doesn't begin with `./`
remote_not_here : (text rest : List ℕ) → is_remote (text ++ rest) ≡ true → after_here text ≡ None
remote_not_here text rest remote =
    elim (none_or_some (after_here text)) [
      | inl none ↦ none
      | inr (suffix, begins) ↦
          let wrong : false ≡ true = subst (λ z. is_remote (z ++ rest) ≡ true) (after_here_joined text suffix begins) remote in cc
    ]

-- all of a remote parent is a front of it
whole_left : (parent : List ℕ) → is_remote parent ≡ true → IsLeftOf parent (whole_of (without_last_slash parent))
whole_left parent remote =
    let rest = trimmed_front parent in
    let none = remote_not_here (without_last_slash parent) rest.0 (sym (ap is_remote rest.1) ∙ remote) in
    record {
      front = (rest.0, rest.1 ∙ sym (ap (λ z. unwrap_or z (without_last_slash parent) ++ rest.0) none), rest.2);
      no_slash = λ e. absurd (both_ways false refl e);
    }

-- the rest of a remote parent is a front of it
pub left_front : (parent : List ℕ) (n : ℕ) (left : LeftOver) → is_remote parent ≡ true → left_of parent n ≡ Some left → IsLeftOf parent left
left_front parent n left remote e =
    chopped_left (form_of (without_last_slash parent)) parent n (whole_of (without_last_slash parent)) left (whole_left parent remote) e

-- if a URL is resolved, something is left
joined_some : (found : Option LeftOver) (rest : List ℕ) (r : Resolution) → joined found rest ≡ Ok r → (left : LeftOver) × (found ≡ Some left) × (join left.text left.by_colon (without_last_slash rest) ≡ r)
joined_some None rest r e = cc
joined_some (Some left) rest r e = (left, refl, cc)

pub against_some : (parent url : List ℕ) (r : Resolution) → against parent url ≡ Ok r → (left : LeftOver) × (left_of parent (ups url) ≡ Some left) × (join left.text left.by_colon (without_last_slash (after_steps url)) ≡ r)
against_some [] url r e = cc
against_some (b ∷ bs) url r e = joined_some (left_of (b ∷ bs) (ups url)) (after_steps url) r e

-- ---- the text

-- the resolved text keeps the name and the authority of its parent
pub record KeepsAuthority (name rest text : List ℕ) : Type 0 where
  pub authority : List ℕ
  pub path : List ℕ
  pub suffix : List ℕ
  pub cut : rest ≡ authority ++ path
  pub path_starts : (path ≡ []) ⊎ (begins_with slash path ≡ true)
  pub joined : text ≡ name ++ (codes "://" ++ (authority ++ suffix))
  pub after_starts : begins_with slash suffix ≡ true

pub not_false : (b : Bool) → not b ≡ false → b ≡ true
not_false true e = refl
not_false false e = cc

-- the text after a front that is left begins with a `/`
after_begins : (more back path rest : List ℕ) → path ≡ more ++ back → (path ≡ []) ⊎ (begins_with slash path ≡ true) → begins_with slash (more ++ slash ∷ rest) ≡ true
after_begins [] back path rest e h = refl
after_begins (b ∷ bs) back path rest e (inl none) = let wrong : [] ≡ b ∷ (bs ++ back) = sym none ∙ e in cc
after_begins (b ∷ bs) back path rest e (inr begins) = subst (λ z. begins_with slash z ≡ true) e begins

regroup : (n m a x z : List ℕ) → ((n ++ (m ++ a)) ++ x) ++ z ≡ n ++ (m ++ (a ++ (x ++ z)))
regroup n m a x z = simp append_assoc

-- after the root of a URL is the text after its authority
after_root : (name rest text more back : List ℕ) → text ≡ (name ++ (codes "://" ++ take (authority_length rest) rest)) ++ more → name ++ (codes "://" ++ rest) ≡ text ++ back → drop (authority_length rest) rest ≡ more ++ back
after_root name rest text more back e whole =
    let a = take (authority_length rest) rest in
    let d = drop (authority_length rest) rest in
    let both : name ++ (codes "://" ++ (a ++ d)) ≡ name ++ (codes "://" ++ (a ++ (more ++ back))) =
    ap (λ z. name ++ (codes "://" ++ z)) (take-append-drop (authority_length rest) rest) ∙ whole ∙ ap (λ z. z ++ back) e ∙ regroup name (codes "://") a more back in
    append_cancel_left a d (more ++ back) (append_cancel_left (codes "://") (a ++ d) (a ++ (more ++ back)) (append_cancel_left name (codes "://" ++ (a ++ d)) (codes "://" ++ (a ++ (more ++ back))) both))

-- a text with a root has a `/`
root_not_free : (name a more : List ℕ) → FreeOf slash ((name ++ (codes "://" ++ a)) ++ more) → ⊥
root_not_free name a more free =
    let parts = free_parts slash name (codes "://" ++ a) (free_parts slash (name ++ (codes "://" ++ a)) more free).0 in
    let wrong : true ≡ false = parts.1 in cc

-- the resolved text of the rest
text_of_left : (text : Option (List ℕ)) (by_colon : Bool) (front rest : List ℕ) (r : Resolution) → text ≡ Some front → by_colon ≡ false → join text by_colon rest ≡ r → resolved_text r ≡ front ++ slash ∷ rest
text_of_left text by_colon front rest r e f h =
    let joined : join (Some front) false rest ≡ r = subst (λ z. join z false rest ≡ r) e (subst (λ z. join text z rest ≡ r) f h) in
    sym (ap resolved_text joined)

-- a URL that doesn't climb keeps the authority
pub keeps_authority : (name rest parent url : List ℕ) (r : Resolution) → IsName name → parent ≡ name ++ (codes "://" ++ rest) → is_relative url ≡ true → climbs parent url ≡ false → resolution parent url ≡ Ok r → KeepsAuthority name rest (resolved_text r)
keeps_authority name rest parent url r h whole relative stays e =
    let a = take (authority_length rest) rest in
    let remote : is_remote parent ≡ true = ap is_remote whole ∙ name_remote name (slash ∷ (slash ∷ rest)) h in
    let root : root_of parent ≡ name ++ (codes "://" ++ a) = ap root_of whole ∙ root_of-url name rest h in
    let kept = keeps_some (root_of parent) (text_left parent url) (not_false (keeps_root (root_of parent) (text_left parent url)) (rw relative at stays)) in
    let more = kept.2.0 in
    let text_is : kept.0 ≡ (name ++ (codes "://" ++ a)) ++ more = kept.2.1 ∙ ap (λ z. z ++ more) root in
    let some = against_some parent url r (rw relative at e) in
    let left = some.0 in
    let has_text : left.text ≡ Some kept.0 = sym (ap (option_and_then (λ z. z.text)) some.1) ∙ kept.1 in
    let front = left_front parent (ups url) left remote some.1 in
    let back = subst (λ o. IfSome o (λ t. (y : List ℕ) × (parent ≡ t ++ y) × Follows parent left.by_colon y)) has_text front.front in
    let suffix = without_last_slash (after_steps url) in
    elim (cases_Bool left.by_colon) [
      | inl colon ↦
          absurd (root_not_free name a more (subst (λ z. FreeOf slash z) text_is (subst (λ o. IfSome o (λ t. FreeOf slash t)) has_text (front.no_slash colon))))
      | inr none ↦ record {
        authority = a;
        path = drop (authority_length rest) rest;
        suffix = more ++ slash ∷ suffix;
        cut = sym (take-append-drop (authority_length rest) rest);
        path_starts = authority_ends rest;
        joined = text_of_left left.text left.by_colon kept.0 suffix r has_text none some.2 ∙ ap (λ z. z ++ slash ∷ suffix) text_is ∙ regroup name (codes "://") a more (slash ∷ suffix);
        after_starts = after_begins more back.0 (drop (authority_length rest) rest) suffix (after_root name rest kept.0 more back.0 text_is (sym whole ∙ back.1)) (authority_ends rest);
      }
    ]
