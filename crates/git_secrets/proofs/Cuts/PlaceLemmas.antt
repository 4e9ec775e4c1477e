-- Places of marks in a text with a known front, and the password in an authority that has one.
use Rattle.std.proofs.Common.{◌≡◌, ◌∙◌, ℕ, ◌+◌, ◌<◌, ◌≤◌, ◌-◌, ◌||◌, ◌==◌, Bool, true, false, if◌then◌else◌, List, [], ◌∷◌, ◌++◌, length, drop, Option, Some, None, option_map, refl, sym, ap, subst, arith, append_assoc, length-append, suc}
use Rattle.std.specs.List.{list_all}
use Rattle.std.specs.Char.{is_ascii_digit}
use Rattle.std.specs.Option.{is_some, option_and_then}
use Rattle.std.proofs.lemmas.Bool.{or_right}
use Rattle.std.proofs.lemmas.List.{drop-append-le, length-drop}
use Rattle.std.proofs.lemmas.Option.{same_Some, none-some}
use Rattle.git_syntax.specs.Bytes.{colon, at_sign}
use Rattle.git_secrets.specs.declared.mark.Mark.{Mark}
use Rattle.git_secrets.specs.declared.mark.Mark.TheVariants as mark
use Rattle.git_secrets.specs.Secrets.{begins_as, first_mark, has_brackets, host_part, is_whole, last_mark, later_mark, mark_end, mark_width, password, up_to_at, wide_in}
use Rattle.git_secrets.proofs.Cuts.MarkLemmas.{first_here, first_step}

-- ---- the first mark

-- the first mark is at most at an index
abbrev pub FoundWithin : Mark → List ℕ → ℕ → Type 0
FoundWithin m text n = (k : ℕ) × (first_mark m text ≡ Some k) × (k ≤ n)

-- a byte before a text moves its first mark by one at most
within_by : (m : Mark) (b : ℕ) (bs : List ℕ) (is : Bool) (n : ℕ) → begins_as m (b ∷ bs) ≡ is → FoundWithin m bs n → FoundWithin m (b ∷ bs) (suc n)
within_by m b bs true n e h = (0, first_here m b bs e, omega arith)
within_by m b bs false n e (k, found, within) =
    (suc k, first_step m b bs e ∙ ap (λ f. option_map (λ j. j + 1) f) found ∙ ap Some (omega arith), omega (arith, within))

-- if a mark begins after a front, the first is at most there
pub found_within : (m : Mark) (u t : List ℕ) (c : ℕ) → begins_as m (c ∷ t) ≡ true → FoundWithin m (u ++ c ∷ t) (length u)
found_within m [] t c e = (0, first_here m c t e, omega arith)
found_within m (b ∷ u) t c e = within_by m b (u ++ c ∷ t) (begins_as m (b ∷ (u ++ c ∷ t))) (length u) refl (found_within m u t c e)

-- the first colon ends at most at an index
abbrev pub ColonEnds : List ℕ → ℕ → Type 0
ColonEnds text n = (k : ℕ) × (first_mark mark.Colon text ≡ Some k) × (mark_end mark.Colon text k ≤ n)

-- a byte before a text moves the end of its first colon by one at most
ends_by : (b : ℕ) (bs : List ℕ) (is : Bool) (n : ℕ) → begins_as mark.Colon (b ∷ bs) ≡ is → (is ≡ true → mark_width mark.Colon (b ∷ bs) ≤ suc n) → ColonEnds bs n → ColonEnds (b ∷ bs) (suc n)
ends_by b bs true n e width h = (0, first_here mark.Colon b bs e, omega (arith, width refl))
ends_by b bs false n e width (k, found, within) =
    (suc k, first_step mark.Colon b bs e ∙ ap (λ f. option_map (λ j. j + 1) f) found ∙ ap Some (omega arith), omega (arith, within))

-- the escape of a colon isn't cut by a colon
width_by : (b : ℕ) (u y : List ℕ) (is : Bool) → (b == colon) ≡ is → begins_as mark.Colon (b ∷ (u ++ colon ∷ y)) ≡ true → (if is then 1 else 3) ≤ suc (suc (length u))
width_by b u y true same e = omega arith
width_by b [] y false other e = grind arith
width_by b (c ∷ []) y false other e = grind arith
width_by b (c ∷ d ∷ u) y false other e = omega arith

-- if a colon follows a front, the first one ends at most after it
pub colon_ends : (u y : List ℕ) → ColonEnds (u ++ colon ∷ y) (suc (length u))
colon_ends [] y = (0, first_here mark.Colon colon y refl, omega arith)
colon_ends (b ∷ u) y =
    ends_by b (u ++ colon ∷ y) (begins_as mark.Colon (b ∷ (u ++ colon ∷ y))) (suc (length u)) refl (λ e. width_by b u y (b == colon) refl e) (colon_ends u y)

-- ---- the last mark

-- a mark that is later by one byte is in a text that is longer by one
below_by : (found : Option ℕ) (begins : Bool) (k n : ℕ) → ((j : ℕ) → found ≡ Some j → j < n) → later_mark found begins ≡ Some k → k < suc n
below_by (Some j) begins k n below e = let same : j + 1 ≡ k = same_Some (j + 1) k e in omega (arith, below j refl, same)
below_by None true k n below e = let same : 0 ≡ k = same_Some 0 k e in omega (arith, same)
below_by None false k n below e = absurd (none-some k e)

-- the last mark is in the text
pub last_below : (m : Mark) (text : List ℕ) (k : ℕ) → last_mark m text ≡ Some k → k < length text
last_below m [] k e = absurd (none-some k e)
last_below m (b ∷ bs) k e = below_by (last_mark m bs) (begins_as m (b ∷ bs)) k (length bs) (λ j h. last_below m bs j h) e

-- the last mark is at an index or after it
abbrev pub LastFrom : Mark → List ℕ → ℕ → Type 0
LastFrom m text n = (k : ℕ) × (last_mark m text ≡ Some k) × (n ≤ k)

-- a text with a mark at its front has a last mark
some_mark : (found : Option ℕ) → (k : ℕ) × (later_mark found true ≡ Some k)
some_mark (Some n) = (n + 1, refl)
some_mark None = (0, refl)

-- if a mark begins after a front, the last is there or after it
pub last_from : (m : Mark) (u t : List ℕ) (c : ℕ) → begins_as m (c ∷ t) ≡ true → LastFrom m (u ++ c ∷ t) (length u)
last_from m [] t c e =
    let some = some_mark (last_mark m t) in
    (some.0, ap (later_mark (last_mark m t)) e ∙ some.1, omega arith)
last_from m (b ∷ u) t c e =
    let rest = last_from m u t c e in
    (rest.0 + 1, ap (λ f. later_mark f (begins_as m (b ∷ (u ++ c ∷ t)))) rest.1, omega (arith, rest.2))

-- ---- the password of an authority

-- an authority with a user, a password and a text after them
abbrev pub authority_of : List ℕ → List ℕ → List ℕ → List ℕ
authority_of u w piece = (u ++ colon ∷ w) ++ at_sign ∷ piece

-- where the password of an authority is found, and the last `@` after its start
pub record PasswordFound (text : List ℕ) (from to : ℕ) : Type 0 where
  pub first : ℕ
  pub at : ℕ
  pub len : ℕ
  pub colon_at : first_mark mark.Colon text ≡ Some first
  pub ends : mark_end mark.Colon text first ≡ at
  pub last : last_mark mark.At (drop at text) ≡ Some len
  pub starts_before : at ≤ from
  pub ends_after : to ≤ at + len
  pub within : at + len < length text

-- after the end of the first colon there still is an `@`
after_colon : (u w piece : List ℕ) (at : ℕ) → at ≤ length u + 1 → LastFrom mark.At (drop at (authority_of u w piece)) (length u + 1 + length w - at)
after_colon u w piece at within =
    let information = u ++ colon ∷ w in
    let long : length information ≡ length u + (length w + 1) = omega (arith, length-append u (colon ∷ w)) in
    let cut : drop at (authority_of u w piece) ≡ drop at information ++ at_sign ∷ piece = drop-append-le at information (at_sign ∷ piece) (omega (arith, within, long)) in
    let last = last_from mark.At (drop at information) piece at_sign refl in
    (last.0, ap (last_mark mark.At) cut ∙ last.1, omega (arith, last.2, length-drop at information, long))

-- the password of an authority is found, from its first colon on to its last `@` at least
pub password_found : (u w piece : List ℕ) → PasswordFound (authority_of u w piece) (length u + 1) (length u + 1 + length w)
password_found u w piece =
    let text = authority_of u w piece in
    let whole : text ≡ u ++ colon ∷ (w ++ at_sign ∷ piece) = append_assoc u (colon ∷ w) (at_sign ∷ piece) in
    let (k, found, ends) = subst (λ t. ColonEnds t (suc (length u))) (sym whole) (colon_ends u (w ++ at_sign ∷ piece)) in
    let last = after_colon u w piece (mark_end mark.Colon text k) (omega (arith, ends)) in
    record {
      first = k;
      at = mark_end mark.Colon text k;
      len = last.0;
      colon_at = found;
      ends = refl;
      last = last.1;
      starts_before = omega (arith, ends);
      ends_after = omega (arith, last.2, ends);
      within = omega (arith, last_below mark.At (drop (mark_end mark.Colon text k) text) last.0 last.1, length-drop (mark_end mark.Colon text k) text);
    }

-- so it is the password
pub password_is : (text : List ℕ) (from to : ℕ) (found : PasswordFound text from to) → password text ≡ Some (record { at = found.at; len = found.len })
password_is text from to found =
    ap (option_and_then (λ n. up_to_at text (mark_end mark.Colon text n))) found.colon_at
    ∙ ap (up_to_at text) found.ends ∙ ap (λ f. option_map (λ len. record { at = found.at; len = len }) f) found.last

-- an authority with an `@` after its colon is whole
whole_by : (x y : Bool) (found : Option ℕ) (k : ℕ) → found ≡ Some k → (x || y || is_some found) ≡ true
whole_by x y found k e = or_right (x || y) (is_some found) (ap is_some e)

-- an authority with a password has none with a `/`
pub none_wide : (authority text : List ℕ) (from to : ℕ) → PasswordFound authority from to → wide_in authority text ≡ None
none_wide authority text from to found =
    let whole : is_whole authority found.at ≡ true = whole_by (has_brackets (host_part authority)) (list_all is_ascii_digit (drop found.at authority)) (last_mark mark.At (drop found.at authority)) found.len found.last in
    ap (option_and_then (λ n. if is_whole authority (mark_end mark.Colon authority n) then None else up_to_at text (mark_end mark.Colon authority n))) found.colon_at
    ∙ ap (λ n. if is_whole authority n then None else up_to_at text n) found.ends
    ∙ ap (λ (is : Bool). if is then None else up_to_at text found.at) whole
