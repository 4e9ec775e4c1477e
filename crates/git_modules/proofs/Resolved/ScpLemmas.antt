-- A URL that doesn't climb stays at the place of its parent in the scp form.
use Rattle.std.proofs.Common.{◌≡◌, ℕ, ◌==◌, ◌&&◌, inl, inr, Bool, true, false, List, [], ◌∷◌, ◌++◌, take, Some, IfSome, option_and_then, Ok, codes, refl, sym, ap, subst, ◌∙◌, append_assoc, append-nil}
use Rattle.std.proofs.lemmas.Bool.{both_ways, eqb-true}
use Rattle.std.proofs.lemmas.List.{append_cancel_left}
use Rattle.git_syntax.specs.Location.{Location}
use Rattle.git_syntax.specs.Bytes.{at_sign, colon, left_bracket, slash, FreeOf, begins_with, is_helper_name, right_bracket}
use Rattle.git_syntax.specs.Grammar.{AddressedCut, HelperCut, ScpForm, ScpFront, ScpUser, Spells, SpellsScpBefore, scp_location}
use Rattle.git_syntax.proofs.Parsing.ClassifierLemmas.{same_front}
use Rattle.git_syntax.proofs.Parsing.FormLemmas.{address_cut, addressed_front_free, addressed_joined}
use Rattle.git_syntax.proofs.Texts.CutLemmas.{begins_cut, cut_unique, free_begins, heads, helper_name_free, not_free, scheme_text_free, tails}
use Rattle.git_syntax.proofs.Unique.UniqueLemmas.{scp_before_unique}
use Rattle.git_location.specs.Settled.{begins_with_slashes}
use Rattle.git_rules.specs.Patterns.{without_last_slash}
use Rattle.git_rules.proofs.Matched.PathLemmas.{without-slash}
use Rattle.git_modules.specs.ResolveSteps.{after_steps, is_relative, ups}
use Rattle.git_modules.specs.ResolveParents.{is_remote}
use Rattle.git_modules.specs.Resolve.{Resolution, join, resolution, resolved_text}
use Rattle.git_modules.specs.ResolveRoots.{climbs, keeps_root, mark_length, root_of, text_left}
use Rattle.git_modules.specs.ResolveLaws.{IsSamePlace, SamePlaceOfScp}
use Rattle.git_modules.proofs.Resolved.ChopLemmas.{Follows}
use Rattle.git_modules.proofs.Resolved.RootLemmas.{IsName, keeps_some, name_remote, root_of-name}
use Rattle.git_modules.proofs.Resolved.PlaceLemmas.{against_some, left_front, not_false}

-- ---- the text

-- the resolved text keeps the name and its colon, and begins neither by `::` nor by `://` if its parent
-- doesn't
pub record KeepsName (name path text : List ℕ) : Type 0 where
  pub suffix : List ℕ
  pub joined : text ≡ name ++ colon ∷ suffix
  pub no_helper : begins_with colon suffix ≡ true → begins_with colon path ≡ true
  pub no_url : begins_with_slashes suffix ≡ true → begins_with_slashes path ≡ true

-- the byte between the rest and the rest
abbrev separator : Bool → ℕ
separator true = colon
separator false = slash

-- a rest that begins with neither `/` nor `:`
pub record IsFair (rest : List ℕ) : Type 0 where
  pub no_slash : begins_with slash rest ≡ false
  pub no_colon : begins_with colon rest ≡ false

fair_slashes : (rest : List ℕ) → begins_with slash rest ≡ false → begins_with_slashes rest ≡ true → ⊥
fair_slashes [] e h = both_ways false refl h
fair_slashes (a ∷ []) e h = both_ways false refl h
fair_slashes (a ∷ b ∷ bs) e h = let wrong : false ≡ true = rw e at h in both_ways false refl wrong

-- a text with a `/` alone as its path loses it
slash_alone : (name : List ℕ) → without_last_slash (name ++ colon ∷ (slash ∷ [])) ≡ name ++ colon ∷ (slash ∷ []) → ⊥
slash_alone name e =
    let other : without_last_slash ((name ++ colon ∷ []) ++ slash ∷ []) ≡ name ++ colon ∷ [] = without-slash (name ++ colon ∷ []) in
    let same : (name ++ colon ∷ []) ++ slash ∷ [] ≡ name ++ colon ∷ (slash ∷ []) = append_assoc name (colon ∷ []) (slash ∷ []) in
    let both : name ++ colon ∷ [] ≡ name ++ colon ∷ (slash ∷ []) = sym other ∙ ap without_last_slash same ∙ e in
    let wrong = append_cancel_left name (colon ∷ []) (colon ∷ (slash ∷ [])) both in
    let none : [] ≡ slash ∷ [] = tails wrong in cc

colon_slashes : (rest : List ℕ) → begins_with_slashes (colon ∷ rest) ≡ true → ⊥
colon_slashes [] h = both_ways false refl h
colon_slashes (a ∷ bs) h = both_ways false refl h

slash_slashes : (rest : List ℕ) → begins_with_slashes (slash ∷ rest) ≡ true → begins_with slash rest ≡ true
slash_slashes [] h = absurd (both_ways false refl h)
slash_slashes (a ∷ bs) h = h

and_parts : (a b : Bool) → (a && b) ≡ true → (a ≡ true) × (b ≡ true)
and_parts true b e = (refl, e)
and_parts false b e = absurd (both_ways false refl e)

byte_slashes : (x : ℕ) (back : List ℕ) → (x == slash) ≡ true → begins_with slash back ≡ true → begins_with_slashes (x ∷ back) ≡ true
byte_slashes x [] e h = absurd (both_ways false refl h)
byte_slashes x (c ∷ cs) e h = rw e h

-- one byte of a path is left
one_left : (by_colon : Bool) (x : ℕ) (back rest name path parent : List ℕ) → path ≡ x ∷ back → parent ≡ name ++ colon ∷ path → Follows parent by_colon back → begins_with_slashes (x ∷ separator by_colon ∷ rest) ≡ true → begins_with_slashes path ≡ true
one_left true x back rest name path parent e whole follows h = absurd (both_ways false refl (and_parts (x == slash) false h).1)
one_left false x back rest name path parent e whole (inl (none, kept)) h =
    let is : x ≡ slash = eqb-true x slash (and_parts (x == slash) true h).0 in
    let path_is : path ≡ slash ∷ [] = e ∙ ap (λ z. x ∷ z) none ∙ ap (λ z. z ∷ []) is in
    let parent_is : parent ≡ name ++ colon ∷ (slash ∷ []) = whole ∙ ap (λ z. name ++ colon ∷ z) path_is in
    absurd (slash_alone name (subst (λ z. without_last_slash z ≡ z) parent_is kept))
one_left false x back rest name path parent e whole (inr begins) h =
    ap begins_with_slashes e ∙ byte_slashes x back (and_parts (x == slash) true h).0 begins

-- the text after the colon begins as the path does
after_helper : (by_colon : Bool) (m back rest path parent : List ℕ) → path ≡ m ++ back → Follows parent by_colon back → begins_with colon (m ++ separator by_colon ∷ rest) ≡ true → begins_with colon path ≡ true
after_helper true [] back rest path parent e follows h = ap (begins_with colon) e ∙ follows
after_helper false [] back rest path parent e follows h = absurd (both_ways false refl h)
after_helper by_colon (x ∷ m) back rest path parent e follows h = ap (begins_with colon) e ∙ h

after_url : (by_colon : Bool) (m back rest name path parent : List ℕ) → path ≡ m ++ back → parent ≡ name ++ colon ∷ path → Follows parent by_colon back → IsFair rest → begins_with_slashes (m ++ separator by_colon ∷ rest) ≡ true → begins_with_slashes path ≡ true
after_url true [] back rest name path parent e whole follows fair h = absurd (colon_slashes rest h)
after_url false [] back rest name path parent e whole follows fair h = absurd (both_ways (begins_with slash rest) fair.no_slash (slash_slashes rest h))
after_url by_colon (x ∷ []) back rest name path parent e whole follows fair h = one_left by_colon x back rest name path parent e whole follows h
after_url by_colon (x ∷ y ∷ m) back rest name path parent e whole follows fair h = ap begins_with_slashes e ∙ h

-- the name and its colon are kept
name_kept : (by_colon : Bool) (more back rest name path parent text : List ℕ) → parent ≡ name ++ colon ∷ path → colon ∷ path ≡ more ++ back → Follows parent by_colon back → IsFair rest → text ≡ (name ++ more) ++ separator by_colon ∷ rest → KeepsName name path text
name_kept true [] back rest name path parent text whole cut follows fair e = record {
  suffix = rest;
  joined = e ∙ ap (λ z. z ++ colon ∷ rest) (append-nil name);
  no_helper = λ h. absurd (both_ways (begins_with colon rest) fair.no_colon h);
  no_url = λ h. absurd (fair_slashes rest fair.no_slash h);
}
name_kept false [] back rest name path parent text whole cut (inl (none, kept)) fair e =
    let wrong : colon ∷ path ≡ [] = cut ∙ none in cc
name_kept false [] back rest name path parent text whole cut (inr begins) fair e =
    absurd (both_ways false refl (ap (begins_with slash) cut ∙ begins))
name_kept by_colon (b ∷ m) back rest name path parent text whole cut follows fair e =
    let path_is : path ≡ m ++ back = tails cut in
    record {
      suffix = m ++ separator by_colon ∷ rest;
      joined = e ∙ append_assoc name (b ∷ m) (separator by_colon ∷ rest) ∙ ap (λ z. name ++ z ∷ (m ++ separator by_colon ∷ rest)) (sym (heads cut));
      no_helper = after_helper by_colon m back rest path parent path_is follows;
      no_url = after_url by_colon m back rest name path parent path_is whole follows fair;
    }

text_joined : (by_colon : Bool) (front rest : List ℕ) (r : Resolution) → join (Some front) by_colon rest ≡ r → (resolved_text r ≡ front ++ separator by_colon ∷ rest) × (r.rest ≡ rest)
text_joined true front rest r e = (sym (ap resolved_text e), sym (ap (λ z. z.rest) e))
text_joined false front rest r e = (sym (ap resolved_text e), sym (ap (λ z. z.rest) e))

-- a URL that doesn't climb keeps the name
keeps_name : (name path parent url : List ℕ) (r : Resolution) → IsName name → parent ≡ name ++ colon ∷ path → IsFair r.rest → is_relative url ≡ true → climbs parent url ≡ false → resolution parent url ≡ Ok r → KeepsName name path (resolved_text r)
keeps_name name path parent url r h whole fair relative stays e =
    let kept_root = take (mark_length (colon ∷ path)) (colon ∷ path) in
    let remote : is_remote parent ≡ true = ap is_remote whole ∙ name_remote name path h in
    let root : root_of parent ≡ name ++ kept_root = ap root_of whole ∙ root_of-name name path h in
    let kept = keeps_some (root_of parent) (text_left parent url) (not_false (keeps_root (root_of parent) (text_left parent url)) (rw relative at stays)) in
    let more = kept_root ++ kept.2.0 in
    let text_is : kept.0 ≡ name ++ more = kept.2.1 ∙ ap (λ z. z ++ kept.2.0) root ∙ append_assoc name kept_root kept.2.0 in
    let some = against_some parent url r (rw relative at e) in
    let left = some.0 in
    let has_text : left.text ≡ Some kept.0 = sym (ap (option_and_then (λ z. z.text)) some.1) ∙ kept.1 in
    let front = left_front parent (ups url) left remote some.1 in
    let back = subst (λ o. IfSome o (λ t. (y : List ℕ) × (parent ≡ t ++ y) × Follows parent left.by_colon y)) has_text front.front in
    let suffix = without_last_slash (after_steps url) in
    let cut : colon ∷ path ≡ more ++ back.0 = append_cancel_left name (colon ∷ path) (more ++ back.0) (sym whole ∙ back.1 ∙ ap (λ z. z ++ back.0) text_is ∙ append_assoc name more back.0) in
    let text = text_joined left.by_colon kept.0 suffix r (subst (λ z. join z left.by_colon suffix ≡ r) has_text some.2) in
    name_kept left.by_colon more back.0 suffix name path parent (resolved_text r) whole cut back.2 (subst IsFair text.1 fair) (text.0 ∙ ap (λ z. z ++ separator left.by_colon ∷ suffix) text_is)

-- ---- the law

-- a front without `[` is free of `:`
front_free : (b front : List ℕ) → FreeOf left_bracket front → ScpFront b front → FreeOf colon front
front_free b front free (ScpFront.plain no_colon other) = no_colon
front_free b front free (ScpFront.bracketed inside after f g e) =
    absurd (not_free left_bracket [] (inside ++ right_bracket ∷ after) (subst (λ z. FreeOf left_bracket z) e free))

slashes_cut : (path : List ℕ) → begins_with_slashes path ≡ true → (rest : List ℕ) × (path ≡ slash ∷ (slash ∷ rest))
slashes_cut [] h = absurd (both_ways false refl h)
slashes_cut (a ∷ []) h = absurd (both_ways false refl h)
slashes_cut (a ∷ b ∷ bs) h =
    let parts = and_parts (a == slash) (b == slash) h in
    (bs, ap (λ z. z ∷ (b ∷ bs)) (eqb-true a slash parts.0) ∙ ap (λ z. slash ∷ (z ∷ bs)) (eqb-true b slash parts.1))

-- a text that keeps the name of a parent in the scp form isn't a URL
not_url : (parent front path s scheme rest : List ℕ) → ScpForm parent front path → FreeOf colon front → KeepsName front path s → FreeOf colon scheme → s ≡ scheme ++ (codes "://" ++ rest) → ⊥
not_url parent front path s scheme rest form free kept other e =
    let cut = cut_unique colon front scheme kept.suffix (slash ∷ (slash ∷ rest)) free other (sym kept.joined ∙ e) in
    let slashes = slashes_cut path (kept.no_url (ap begins_with_slashes cut.1)) in
    form.neither.no_mark (front, slashes.0, form.joined ∙ ap (λ z. front ++ colon ∷ z) slashes.1)

-- nor is it for a remote helper
not_helper : (parent front path s name address : List ℕ) → ScpForm parent front path → FreeOf colon front → KeepsName front path s → HelperCut s name address → ⊥
not_helper parent front path s name address form free kept h =
    let cut = cut_unique colon front name kept.suffix (colon ∷ address) free (helper_name_free name colon h.named refl) (sym kept.joined ∙ h.joined) in
    let begins = begins_cut colon path (kept.no_helper (ap (begins_with colon) cut.1)) in
    form.neither.no_helper (front, begins.0, record { named = ap is_helper_name cut.0 ∙ h.named; joined = form.joined ∙ ap (λ z. front ++ colon ∷ z) begins.1 })

-- its host is not in brackets
not_addressed : (front suffix s user address path : List ℕ) → FreeOf colon front → FreeOf left_bracket front → s ≡ front ++ colon ∷ suffix → AddressedCut s user address path → ⊥
not_addressed front suffix s user address path free bare e h =
    let (x, y, f, j) = address_cut address h.addressed in
    let joined = sym e ∙ h.joined ∙ addressed_joined user address path x y j in
    let cut = cut_unique colon front (user ++ at_sign ∷ (left_bracket ∷ x)) suffix (y ++ right_bracket ∷ (colon ∷ path)) free (addressed_front_free user x h.no_colon f) joined in
    not_free left_bracket (user ++ at_sign ∷ []) x (subst (λ z. FreeOf left_bracket z) (cut.0 ∙ sym (append_assoc user (at_sign ∷ []) (left_bracket ∷ x))) bare)

-- the scp form with the front of a parent has its user and its host
before_place : (parent s : List ℕ) (v w : Location) (h : SpellsScpBefore parent v) (k : SpellsScpBefore s w) → h.front ≡ k.front → IsSamePlace v w
before_place parent s v w h k same =
    let again : SpellsScpBefore parent (scp_location k.user k.denoted h.path) = record {
      front = h.front;
      path = h.path;
      user = k.user;
      host = k.host;
      denoted = k.denoted;
      form = h.form;
      text = h.text;
      pathed = h.pathed;
      split = subst (λ z. ScpUser z k.user k.host) (sym same) k.split;
      hosted = k.hosted;
      value = refl;
    } in
    let is = scp_before_unique parent v (scp_location k.user k.denoted h.path) h again in
    record {
      scheme = ap (λ z. z.scheme) k.value ∙ sym (ap (λ z. z.scheme) is);
      user = ap (λ z. z.user) k.value ∙ sym (ap (λ z. z.user) is);
      password = ap (λ z. z.password) k.value ∙ sym (ap (λ z. z.password) is);
      host = ap (λ z. z.host) k.value ∙ sym (ap (λ z. z.host) is);
      port = ap (λ z. z.port) k.value ∙ sym (ap (λ z. z.port) is);
    }

-- a text that keeps the name is at the place of its parent
scp_place : (parent s : List ℕ) (v w : Location) (h : SpellsScpBefore parent v) → FreeOf left_bracket h.front → FreeOf colon h.front → KeepsName h.front h.path s → Spells s w → IsSamePlace v w
scp_place parent s v w h bare free kept (Spells.url k) =
    absurd (not_url parent h.front h.path s k.parts.scheme (k.spelled.authority ++ k.parts.path) h.form free kept (scheme_text_free k.parts.scheme colon k.spelled.scheme_text refl) k.spelled.joined)
scp_place parent s v w h bare free kept (Spells.file_url k) =
    absurd (not_url parent h.front h.path s (codes "file") (k.host ++ k.path) h.form free kept refl k.joined)
scp_place parent s v w h bare free kept (Spells.remote_helper k) =
    absurd (not_helper parent h.front h.path s k.name k.address h.form free kept k.parts)
scp_place parent s v w h bare free kept (Spells.scp_form (inl k)) =
    let front : ScpFront s h.front = ScpFront.plain free (inl (free_begins left_bracket h.front bare)) in
    before_place parent s v w h k (same_front s h.front kept.suffix k.front k.path kept.joined k.form.joined front k.form.form).0
scp_place parent s v w h bare free kept (Spells.scp_form (inr k)) =
    absurd (not_addressed h.front kept.suffix s k.user k.address k.path free bare kept.joined k.form.cut)
scp_place parent s v w h bare free kept (Spells.local_path k) =
    absurd (k.no_scp (inl (h.front, kept.suffix, record { joined = kept.joined; neither = k.neither; no_slash = h.form.no_slash; form = ScpFront.plain free (inl (free_begins left_bracket h.front bare)) })))

-- a relative URL that doesn't climb stays at the place of a parent in the scp form
pub same_place_of_scp : SamePlaceOfScp
same_place_of_scp parent url r v w h bare no_slash no_colon relative stays e spelled =
    let free = front_free parent h.front bare h.form.form in
    let named : IsName h.front = record { no_colon = free; no_slash = h.form.no_slash; no_bracket = bare } in
    scp_place parent (resolved_text r) v w h bare free (keeps_name h.front h.path parent url r named h.form.joined (record { no_slash = no_slash; no_colon = no_colon }) relative stays e) spelled
