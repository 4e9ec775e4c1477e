-- A path has one home split, one reading for a shell and one expansion, and a user has one home folder.
use Rattle.std.proofs.Common.{◌≡◌, ℕ, true, false, ◌==◌, ◌⊎◌, inl, inr, List, [], ◌∷◌, ◌++◌, Option, Some, None, refl, sym, ap, subst, ◌∙◌}
use Rattle.std.proofs.lemmas.Bool.{cases_Bool, false≢true, eqb-true, and_parts}
use Rattle.git_syntax.specs.Bytes.{slash, tilde, FreeOf, lossy_text}
use Rattle.git_syntax.specs.Grammar.{begins_at_home}
use Rattle.gix_url.specs.Paths.{Joins, LiesBelow, IsParent}
use Rattle.gix_url.specs.Homes.{HomeUser, home_user, SplitsHome, shell_text, ForShell, HomeFolder, Expands}
use Rattle.gix_url.specs.Homes.HomeUser.{current, named}
use Rattle.git_syntax.proofs.Texts.CutLemmas.{tails, free_or_cut, cut_unique, not_free}
use Rattle.gix_url.proofs.Homes.PathUniqueLemmas.{parent_unique, some_parent, joins_unique, some_joined, below_unique, some_below}

-- ---- splits

-- the form of a split: a user and the rest
abbrev pub Split : Type 0
Split = Option HomeUser × List ℕ

-- a path that ends with a name has no `/` after it
name_alone : {A : Type 0} (path name other below : List ℕ) → FreeOf slash name → path ≡ slash ∷ (tilde ∷ name) → path ≡ slash ∷ (tilde ∷ (other ++ slash ∷ below)) → A
name_alone path name other below h e f = absurd (not_free slash other below (subst (FreeOf slash) (tails (tails (sym e ∙ f))) h))

-- and begins at home
at_home : {A : Type 0} (path rest : List ℕ) → begins_at_home path ≡ false → path ≡ slash ∷ (tilde ∷ rest) → A
at_home path rest h e = absurd (false≢true (sym h ∙ ap begins_at_home e))

-- a path has one split
split_parts : (path : List ℕ) (user other : Option HomeUser) (rest left : List ℕ) → SplitsHome path user rest → SplitsHome path other left → (user ≡ other) × (rest ≡ left)
split_parts path user other rest left (SplitsHome.home_alone name h e u r) (SplitsHome.home_alone same k f v s) =
    (u ∙ (ap (λ n. Some (home_user n)) (tails (tails (sym e ∙ f))) ∙ sym v), r ∙ sym s)
split_parts path user other rest left (SplitsHome.home_alone name h e u r) (SplitsHome.below_home longer below k f v s) = name_alone path name longer below h e f
split_parts path user other rest left (SplitsHome.home_alone name h e u r) (SplitsHome.no_home k v s) = at_home path name k e
split_parts path user other rest left (SplitsHome.below_home name below h e u r) (SplitsHome.home_alone shorter k f v s) = name_alone path shorter name below k f e
split_parts path user other rest left (SplitsHome.below_home name below h e u r) (SplitsHome.below_home same under k f v s) =
    let cut = cut_unique slash name same below under h k (tails (tails (sym e ∙ f))) in
    (u ∙ (ap (λ n. Some (home_user n)) cut.0 ∙ sym v), r ∙ (ap (λ t. slash ∷ lossy_text t) cut.1 ∙ sym s))
split_parts path user other rest left (SplitsHome.below_home name below h e u r) (SplitsHome.no_home k v s) = at_home path (name ++ slash ∷ below) k e
split_parts path user other rest left (SplitsHome.no_home h u r) (SplitsHome.home_alone name k f v s) = at_home path name h f
split_parts path user other rest left (SplitsHome.no_home h u r) (SplitsHome.below_home name below k f v s) = at_home path (name ++ slash ∷ below) h f
split_parts path user other rest left (SplitsHome.no_home h u r) (SplitsHome.no_home k v s) = (u ∙ sym v, r ∙ sym s)

pub split_unique : (path : List ℕ) (x y : Split) → SplitsHome path x.0 x.1 → SplitsHome path y.0 y.1 → x ≡ y
split_unique path (user, rest) (other, left) h k = let parts = split_parts path user other rest left h k in λ i. (parts.0 i, parts.1 i)

-- a path that begins at home is `/~` and more
home_cut : (path : List ℕ) → begins_at_home path ≡ true → (rest : List ℕ) × (path ≡ slash ∷ (tilde ∷ rest))
home_cut [] h = absurd (false≢true h)
home_cut (a ∷ []) h = absurd (false≢true h)
home_cut (a ∷ b ∷ rest) h =
    let parts = and_parts (a == slash) (b == tilde) h in
    (rest, λ i. eqb-true a slash parts.0 i ∷ (eqb-true b tilde parts.1 i ∷ rest))

-- and every path has a split
pub some_split : (path : List ℕ) → (split : Split) × SplitsHome path split.0 split.1
some_split path = elim (cases_Bool (begins_at_home path)) [
  | inr other ↦ ((None, path), SplitsHome.no_home other refl refl)
  | inl home ↦
      let (rest, e) = home_cut path home in
      elim (free_or_cut slash rest) [
        | inl free ↦ ((Some (home_user rest), slash ∷ []), SplitsHome.home_alone rest free e refl refl)
        | inr (name, below, free, f) ↦ ((Some (home_user name), slash ∷ lossy_text below), SplitsHome.below_home name below free (e ∙ ap (λ t. slash ∷ (tilde ∷ t)) f) refl refl)
      ]
]

-- a path has one reading for a shell
pub reading_unique : (path x y : List ℕ) → ForShell path x → ForShell path y → x ≡ y
reading_unique path x y h k =
    let parts = split_parts path h.user k.user h.rest k.rest h.split k.split in
    h.written ∙ ((λ i. shell_text (parts.0 i) (parts.1 i)) ∙ sym k.written)

pub some_reading : (path : List ℕ) → (text : List ℕ) × ForShell path text
some_reading path =
    let (split, h) = some_split path in
    (shell_text split.0 split.1, record { user = split.0; rest = split.1; split = h; written = refl })

-- ---- home folders

-- the folder of another user, by the home folder of the current one
BesideFolder : List ℕ → List ℕ → Option (List ℕ) → Type 0
BesideFolder own name folder =
    ((parent : List ℕ) × (other : List ℕ) × IsParent own (Some parent) × Joins parent (lossy_text name) other × (folder ≡ Some other))
    ⊎ (IsParent own None × (folder ≡ None))

-- names of one user
same_name : {name other : List ℕ} → named name ≡ named other → name ≡ other
same_name e = cc

-- equal values that are there are one
same_given : {A : Type 0} {own other : A} {x y : Option A} → x ≡ Some own → y ≡ Some other → x ≡ y → own ≡ other
same_given e f g = cc

-- the folder of the current user
own_folder : (home folder : Option (List ℕ)) → HomeFolder home current folder → folder ≡ home
own_folder home folder (HomeFolder.own e f) = f
own_folder home folder (HomeFolder.beside name own parent other e f p j g) = cc
own_folder home folder (HomeFolder.topmost name own e f p g) = cc
own_folder home folder (HomeFolder.unknown name e f g) = cc

-- beside none
beside_none : (name : List ℕ) (folder : Option (List ℕ)) → HomeFolder None (named name) folder → folder ≡ None
beside_none name folder (HomeFolder.own e f) = f
beside_none name folder (HomeFolder.beside same own parent other e f p j g) = cc
beside_none name folder (HomeFolder.topmost same own e f p g) = g
beside_none name folder (HomeFolder.unknown same e f g) = g

-- beside a folder
beside_some : (own name : List ℕ) (folder : Option (List ℕ)) → HomeFolder (Some own) (named name) folder → BesideFolder own name folder
unfolding BesideFolder
beside_some own name folder (HomeFolder.own e f) = cc
beside_some own name folder (HomeFolder.beside same home parent other e f p j g) =
    inl (parent, other, subst (λ t. IsParent t (Some parent)) (sym (same_given refl refl f)) p, subst (λ t. Joins parent (lossy_text t) other) (sym (same_name e)) j, g)
beside_some own name folder (HomeFolder.topmost same home e f p g) = inr (subst (λ t. IsParent t None) (sym (same_given refl refl f)) p, g)
beside_some own name folder (HomeFolder.unknown same e f g) = cc

beside_unique : (own name : List ℕ) (x y : Option (List ℕ)) → BesideFolder own name x → BesideFolder own name y → x ≡ y
unfolding BesideFolder
beside_unique own name x y (inl (parent, other, p, j, e)) (inl (above, folder, q, k, f)) =
    let same : parent ≡ above = same_given refl refl (parent_unique own (Some parent) (Some above) p q) in
    e ∙ (ap Some (joins_unique above (lossy_text name) other folder (subst (λ t. Joins t (lossy_text name) other) same j) k) ∙ sym f)
beside_unique own name x y (inl (parent, other, p, j, e)) (inr (q, f)) = let wrong = parent_unique own (Some parent) None p q in cc
beside_unique own name x y (inr (p, e)) (inl (parent, other, q, j, f)) = let wrong = parent_unique own (Some parent) None q p in cc
beside_unique own name x y (inr (p, e)) (inr (q, f)) = e ∙ sym f

-- a user has one home folder, or none is known
pub folder_unique : (home : Option (List ℕ)) (user : HomeUser) (x y : Option (List ℕ)) → HomeFolder home user x → HomeFolder home user y → x ≡ y
folder_unique home current x y h k = own_folder home x h ∙ sym (own_folder home y k)
folder_unique None (named name) x y h k = beside_none name x h ∙ sym (beside_none name y k)
folder_unique (Some own) (named name) x y h k = beside_unique own name x y (beside_some own name x h) (beside_some own name y k)

-- another user's folder lies in the parent, if there is one
folder_in : (own name : List ℕ) (parent : Option (List ℕ)) → IsParent own parent → (folder : Option (List ℕ)) × HomeFolder (Some own) (named name) folder
folder_in own name None p = (None, HomeFolder.topmost name own refl refl p refl)
folder_in own name (Some parent) p = let (other, j) = some_joined parent (lossy_text name) in (Some other, HomeFolder.beside name own parent other refl refl p j refl)

pub some_folder : (home : Option (List ℕ)) (user : HomeUser) → (folder : Option (List ℕ)) × HomeFolder home user folder
some_folder home current = (home, HomeFolder.own refl refl)
some_folder None (named name) = (None, HomeFolder.unknown name refl refl refl)
some_folder (Some own) (named name) = let (parent, p) = some_parent own in folder_in own name parent p

-- ---- expansions

-- without a user a path is itself
plain_expansion : (home : Option (List ℕ)) (path : List ℕ) (result : Option (List ℕ)) → Expands home None path result → result ≡ Some path
plain_expansion home path result (Expands.userless e f) = f
plain_expansion home path result (Expands.at_home who folder whole e h b f) = cc
plain_expansion home path result (Expands.homeless who e h f) = cc

-- with one it lies below a folder, if one is known
UserExpansion : Option (List ℕ) → HomeUser → List ℕ → Option (List ℕ) → Type 0
UserExpansion home user path result =
    ((folder : List ℕ) × (whole : List ℕ) × HomeFolder home user (Some folder) × LiesBelow folder path whole × (result ≡ Some whole))
    ⊎ (HomeFolder home user None × (result ≡ None))

user_expansion : (home : Option (List ℕ)) (user : HomeUser) (path : List ℕ) (result : Option (List ℕ)) → Expands home (Some user) path result → UserExpansion home user path result
unfolding UserExpansion
user_expansion home user path result (Expands.userless e f) = cc
user_expansion home user path result (Expands.at_home who folder whole e h b f) = inl (folder, whole, subst (λ u. HomeFolder home u (Some folder)) (sym (same_given refl refl e)) h, b, f)
user_expansion home user path result (Expands.homeless who e h f) = inr (subst (λ u. HomeFolder home u None) (sym (same_given refl refl e)) h, f)

user_unique : (home : Option (List ℕ)) (user : HomeUser) (path : List ℕ) (x y : Option (List ℕ)) → UserExpansion home user path x → UserExpansion home user path y → x ≡ y
unfolding UserExpansion
user_unique home user path x y (inl (folder, whole, h, b, e)) (inl (other, text, k, d, f)) =
    let same : folder ≡ other = same_given refl refl (folder_unique home user (Some folder) (Some other) h k) in
    e ∙ (ap Some (below_unique other path whole text (subst (λ t. LiesBelow t path whole) same b) d) ∙ sym f)
user_unique home user path x y (inl (folder, whole, h, b, e)) (inr (k, f)) = let wrong = folder_unique home user (Some folder) None h k in cc
user_unique home user path x y (inr (h, e)) (inl (folder, whole, k, b, f)) = let wrong = folder_unique home user (Some folder) None k h in cc
user_unique home user path x y (inr (h, e)) (inr (k, f)) = e ∙ sym f

-- a path is expanded in one way
pub expansion_unique : (home : Option (List ℕ)) (user : Option HomeUser) (path : List ℕ) (x y : Option (List ℕ)) → Expands home user path x → Expands home user path y → x ≡ y
expansion_unique home None path x y h k = plain_expansion home path x h ∙ sym (plain_expansion home path y k)
expansion_unique home (Some user) path x y h k = user_unique home user path x y (user_expansion home user path x h) (user_expansion home user path y k)

-- a path below a folder, if it is known
expansion_in : (home : Option (List ℕ)) (user : HomeUser) (folder : Option (List ℕ)) (path : List ℕ) → HomeFolder home user folder → (result : Option (List ℕ)) × Expands home (Some user) path result
expansion_in home user None path h = (None, Expands.homeless user refl h refl)
expansion_in home user (Some folder) path h = let (whole, b) = some_below folder path in (Some whole, Expands.at_home user folder whole refl h b refl)

pub some_expansion : (home : Option (List ℕ)) (user : Option HomeUser) (path : List ℕ) → (result : Option (List ℕ)) × Expands home user path result
some_expansion home None path = (Some path, Expands.userless refl refl)
some_expansion home (Some user) path = let (folder, h) = some_folder home user in expansion_in home user folder path h
