-- The places at which a text is cut: no token is cut there.
use Rattle.std.proofs.Common.{◌≡◌, ◌∙◌, ℕ, ◌+◌, ◌<◌, ◌≤◌, ◌⊎◌, inl, inr, Bool, true, false, ◌&&◌, ◌==◌, if◌then◌else◌, List, [], ◌∷◌, ◌++◌, codes, length, take, drop, Option, Some, None, option_map, refl, sym, ap, subst, append_assoc, arith, length-append}
use Rattle.std.specs.Option.{option_and_then, unwrap_or}
use Rattle.std.proofs.Math.Seq.{drop-append_seam, drop-length}
use Rattle.std.proofs.lemmas.Bool.{and_parts, eqb-true, or_cases}
use Rattle.std.proofs.lemmas.List.{drop-append-le, length-drop, length-take-le, take-append-drop, take_at}
use Rattle.std.proofs.lemmas.Option.{same_Some, none-some}
use Rattle.git_syntax.specs.Bytes.{at_sign, begins_by, begins_with, colon, is_path_start, is_query_start, number_sign, question_mark, slash}
use Rattle.git_secrets.specs.Tokens.{has_front, is_gap}
use Rattle.git_secrets.specs.declared.mark.Class.TheVariants as class
use Rattle.git_secrets.specs.declared.mark.Mark.TheVariants as mark
use Rattle.git_secrets.specs.declared.place.Place.{Place}
use Rattle.git_secrets.specs.TokenLaws.{BeginsApart}
use Rattle.git_secrets.specs.Secrets.{bare_scheme_len, before_path, begins_as_at, begins_as_colon, begins_with_token, brackets_len, first_mark, first_of, helper_end, helper_len, host_start, is_whole, last_mark, mark_end, password, scp_end, scp_len, token_len, up_to_at, user_len, wide_in}
use Rattle.git_secrets.proofs.Cuts.ApartLemmas.{Apart, IsSeam, apart_begins, apart_ends, apart_seam, colon_seam}
use Rattle.git_secrets.proofs.Cuts.CutLemmas.{one_less}
use Rattle.git_secrets.proofs.Cuts.FoundLemmas.{at_by, colon_by, cut_front, first_begins, last_begins}

-- ---- fronts of a text

-- the front of the text that is so long ends where no token goes on
abbrev pub EndsAt : List ℕ → ℕ → Type 0
EndsAt text n = (z : List ℕ) × (mark : List ℕ) × (rest : List ℕ) × (text ≡ z ++ (mark ++ rest)) × (length z + length mark ≡ n) × IsSeam mark

-- or it is empty
abbrev pub SeamAt : List ℕ → ℕ → Type 0
SeamAt text n = (n ≡ 0) ⊎ EndsAt text n

-- no token is cut there
pub apart_at : (text next : List ℕ) (n : ℕ) → SeamAt text n → Apart (take n text) next
apart_at text next n (inl zero) = apart_ends (take n text) next (inl (ap (λ k. take k text) zero))
apart_at text next n (inr (z, mark, rest, e, size, is)) =
    let cut : take n text ≡ z ++ mark = ap (take n) (e ∙ sym (append_assoc z mark rest)) ∙ take_at (z ++ mark) rest n (length-append z mark ∙ size) in
    subst (λ t. Apart t next) (sym cut) (apart_seam z mark next is)

-- the front up to the end of a mark
ends_found : (text mark rest : List ℕ) (n : ℕ) → n < length text → drop n text ≡ mark ++ rest → IsSeam mark → EndsAt text (n + length mark)
ends_found text mark rest n within cut is =
    (take n text, mark, rest, sym (take-append-drop n text) ∙ ap (λ t. take n text ++ t) cut, ap (λ k. k + length mark) (length-take-le n text (omega (arith, within))), is)

-- the same front of a longer text
ends_more : (text more : List ℕ) (n : ℕ) → EndsAt text n → EndsAt (text ++ more) n
ends_more text more n (z, mark, rest, e, size, is) =
    (z, mark, rest ++ more, ap (λ t. t ++ more) e ∙ append_assoc z (mark ++ rest) more ∙ ap (λ t. z ++ t) (append_assoc mark rest more), size, is)

-- which may be empty
seam_more : (text more : List ℕ) (n : ℕ) → SeamAt text n → SeamAt (text ++ more) n
seam_more text more n (inl zero) = inl zero
seam_more text more n (inr ends) = inr (ends_more text more n ends)

-- a mark that ends a front has a byte
seam_some : (mark : List ℕ) → IsSeam mark → 0 < length mark
seam_some mark (inl (front, b, e, gap)) = omega (arith, ap length e, length-append front (b ∷ []))
seam_some mark (inr (b, e)) = omega (arith, ap length e)

-- a front of the rest of a text, and the text before it
ends_later : (text : List ℕ) (k n : ℕ) → EndsAt (drop k text) n → EndsAt text (k + n)
ends_later text k n (z, mark, rest, e, size, is) =
    let within : k ≤ length text = omega (arith, length-drop k text, ap length e, length-append z (mark ++ rest), length-append mark rest, seam_some mark is) in (
      take k text ++ z,
      mark,
      rest,
      sym (take-append-drop k text) ∙ ap (λ t. take k text ++ t) e ∙ sym (append_assoc (take k text) z (mark ++ rest)),
      omega (arith, length-append (take k text) z, length-take-le k text within, size),
      is,
    )

-- which may be empty
pub seam_later : (text : List ℕ) (k n : ℕ) → SeamAt text k → SeamAt (drop k text) n → SeamAt text (k + n)
seam_later text k n before (inl zero) = subst (SeamAt text) (omega (arith, zero)) before
seam_later text k n before (inr ends) = inr (ends_later text k n ends)

-- ---- marks

-- the front of a text up to the end of its first `:`
colon_ends : (text : List ℕ) (n : ℕ) → first_mark mark.Colon text ≡ Some n → EndsAt text (mark_end mark.Colon text n)
colon_ends text n e =
    let (begins, within) = first_begins mark.Colon text n e in
    let (colons, rest, cut, width, is) = colon_by (drop n text) (begins_with colon (drop n text)) refl begins in
    subst (EndsAt text) (ap (λ k. n + k) (sym width)) (ends_found text colons rest n within cut (colon_seam colons is))

-- a `:` or its escape begins with a byte that no token contains
colon_gap : (text : List ℕ) → begins_as_colon text ≡ true → begins_by is_gap text ≡ true
colon_gap text begins =
    let (colons, rest, cut, width, is) = colon_by text (begins_with colon text) refl begins in
    ap (begins_by is_gap) cut ∙ elim is [
      | inl one ↦ ap (λ t. begins_by is_gap (t ++ rest)) one
      | inr (inl upper) ↦ ap (λ t. begins_by is_gap (t ++ rest)) upper
      | inr (inr lower) ↦ ap (λ t. begins_by is_gap (t ++ rest)) lower
    ]

-- and so does an `@`
at_gap : (text : List ℕ) → begins_as_at text ≡ true → begins_by is_gap text ≡ true
at_gap text begins =
    let (sign, rest, cut, width, is) = at_by text (begins_with at_sign text) refl begins in
    ap (begins_by is_gap) cut ∙ elim is [
      | inl one ↦ ap (λ t. begins_by is_gap (t ++ rest)) one
      | inr escape ↦ ap (λ t. begins_by is_gap (t ++ rest)) escape
    ]

-- how a text begins, so does the whole with another text after it
begins_longer : (text more : List ℕ) → begins_by is_gap text ≡ true → begins_by is_gap (text ++ more) ≡ true
begins_longer [] more begins = cc
begins_longer (b ∷ text) more begins = begins

-- ---- passwords

-- the place, if there is one, is between a `:` and an `@`
abbrev pub CutsAt : Option Place → List ℕ → Type 0
CutsAt None text = Unit {0}
CutsAt (Some s) text = EndsAt text s.at × BeginsApart (drop s.len (drop s.at text))

-- the bytes from the end of a `:` to the last `@`, if that is found
up_to_by : (text : List ℕ) (at : ℕ) (found : Option ℕ) → EndsAt text at → last_mark mark.At (drop at text) ≡ found → CutsAt (option_map (λ len. record { at = at; len = len }) found) text
up_to_by text at None ends e = tt
up_to_by text at (Some len) ends e = (ends, inr (at_gap (drop len (drop at text)) (last_begins mark.At (drop at text) len e)))

-- the bytes from the end of a `:` to the last `@`
up_to_cuts : (text : List ℕ) (at : ℕ) → EndsAt text at → CutsAt (up_to_at text at) text
up_to_cuts text at ends = up_to_by text at (last_mark mark.At (drop at text)) ends refl

-- a possible password, if the `:` is found
password_by : (text : List ℕ) (found : Option ℕ) → first_mark mark.Colon text ≡ found → CutsAt (option_and_then (λ n. up_to_at text (mark_end mark.Colon text n)) found) text
password_by text None e = tt
password_by text (Some n) e = up_to_cuts text (mark_end mark.Colon text n) (colon_ends text n e)

-- a possible password is between a `:` and an `@`
pub password_cuts : (text : List ℕ) → CutsAt (password text) text
password_cuts text = password_by text (first_mark mark.Colon text) refl

-- the bytes up to the last `@`, unless the authority is whole
wide_unless : (text : List ℕ) (at : ℕ) (is : Bool) → EndsAt text at → CutsAt (if is then None else up_to_at text at) text
wide_unless text at true ends = tt
wide_unless text at false ends = up_to_cuts text at ends

-- a possible password with a `/` in it, if the `:` is found in the authority
wide_by : (authority more text : List ℕ) (found : Option ℕ) → text ≡ authority ++ more → first_mark mark.Colon authority ≡ found → CutsAt (option_and_then (λ n. if is_whole authority (mark_end mark.Colon authority n) then None else up_to_at text (mark_end mark.Colon authority n)) found) text
wide_by authority more text None cut e = tt
wide_by authority more text (Some n) cut e =
    let at = mark_end mark.Colon authority n in
    wide_unless text at (is_whole authority at) (subst (λ t. EndsAt t at) (sym cut) (ends_more authority more at (colon_ends authority n e)))

-- a possible password with a `/` in it is between a `:` and an `@`
pub wide_cuts : (authority more text : List ℕ) → text ≡ authority ++ more → CutsAt (wide_in authority text) text
wide_cuts authority more text cut = wide_by authority more text (first_mark mark.Colon authority) cut refl

-- ---- a path

-- no token contains a byte at which a path may start
pub path_gap : (web : Bool) (b : ℕ) → is_path_start web b ≡ true → is_gap b ≡ true
path_gap web b is = elim (or_cases (b == slash) (web && is_query_start b) is) [
  | inl one ↦ ap is_gap (eqb-true b slash one)
  | inr other ↦ elim (or_cases (b == question_mark) (b == number_sign) ((and_parts web (is_query_start b) other).1)) [
    | inl mark ↦ ap is_gap (eqb-true b question_mark mark)
    | inr sign ↦ ap is_gap (eqb-true b number_sign sign)
  ]
]

-- the text from such a byte on, if that of the text after the first byte is known
path_by : (web : Bool) (b : ℕ) (bs : List ℕ) (n : ℕ) (is : Bool) → is_path_start web b ≡ is → (if is then Some 0 else option_map (λ k. k + 1) (first_of (class.Path web) bs)) ≡ Some n → ((k : ℕ) → first_of (class.Path web) bs ≡ Some k → begins_by is_gap (drop k bs) ≡ true) → begins_by is_gap (drop n (b ∷ bs)) ≡ true
path_by web b bs n true is e rest = subst (λ k. begins_by is_gap (drop k (b ∷ bs)) ≡ true) (same_Some 0 n e) (path_gap web b is)
path_by web b bs n false is e rest =
    let (k, found, same) = one_less (first_of (class.Path web) bs) n e in
    subst (λ j. begins_by is_gap (drop j (b ∷ bs)) ≡ true) same (rest k found)

-- the text from the first such byte on
path_begins : (web : Bool) (text : List ℕ) (n : ℕ) → first_of (class.Path web) text ≡ Some n → begins_by is_gap (drop n text) ≡ true
path_begins web [] n e = absurd (none-some n e)
path_begins web (b ∷ bs) n e = path_by web b bs n (is_path_start web b) refl e (path_begins web bs)

-- the text from the first such byte on, or from its end
path_apart : (web : Bool) (text : List ℕ) (found : Option ℕ) → first_of (class.Path web) text ≡ found → BeginsApart (drop (unwrap_or found (length text)) text)
path_apart web text None e = inl (drop-length text)
path_apart web text (Some n) e = inr (path_begins web text n e)

-- the text before a path, and the rest
pub before_cut : (web : Bool) (text : List ℕ) → (more : List ℕ) × (text ≡ before_path web text ++ more) × BeginsApart more
before_cut web text = (_, sym (take-append-drop _ text), path_apart web text (first_of (class.Path web) text) refl)

-- ---- a user

-- the text after a user, if its end is found or not
user_by : (front more text : List ℕ) (found : Option ℕ) → text ≡ front ++ more → BeginsApart more → first_mark mark.UserEnd front ≡ found → BeginsApart (drop (unwrap_or found (length front)) text)
user_by front more text None cut begins e = subst BeginsApart (sym (ap (drop (length front)) cut ∙ drop-append_seam front more)) begins
user_by front more text (Some n) cut begins e =
    let (starts, within) = first_begins mark.UserEnd front n e in
    let rest : drop n text ≡ drop n front ++ more = ap (drop n) cut ∙ drop-append-le n front more (omega (arith, within)) in
    let gap : begins_by is_gap (drop n front) ≡ true = elim (or_cases (begins_as_colon (drop n front)) (begins_as_at (drop n front)) starts) [
      | inl colons ↦ colon_gap (drop n front) colons
      | inr sign ↦ at_gap (drop n front) sign
    ] in
    inr (ap (begins_by is_gap) rest ∙ begins_longer (drop n front) more gap)

-- no token is cut after a token in place of a user, or before the text if there is none
token_by : (front more text : List ℕ) (is : Bool) → text ≡ front ++ more → BeginsApart more → Apart (take (if is then user_len front else 0) text) (drop (if is then user_len front else 0) text)
token_by front more text true cut begins =
    apart_begins (take (user_len front) text) (drop (user_len front) text) (user_by front more text (first_mark mark.UserEnd front) cut begins refl)
token_by front more text false cut begins = apart_ends [] text (inl refl)

-- no token is cut after a token in place of a user
pub token_apart : (web : Bool) (front more text : List ℕ) → text ≡ front ++ more → BeginsApart more → Apart (take (token_len web front) text) (drop (token_len web front) text)
token_apart web front more text cut begins = token_by front more text (begins_with_token web front) cut begins

-- ---- fronts

-- the front of the scp form, if its `:` is found
after_by : (text : List ℕ) (at : ℕ) (found : Option ℕ) → first_mark mark.Colon (drop at text) ≡ found → SeamAt text (unwrap_or (option_map (λ n. at + mark_end mark.Colon (drop at text) n) found) 0)
after_by text at None e = inl refl
after_by text at (Some n) e = inr (ends_later text at (mark_end mark.Colon (drop at text) n) (colon_ends (drop at text) n e))

-- the front of the scp form, if its host begins
host_by : (text : List ℕ) (found : Option ℕ) → SeamAt text (unwrap_or (option_and_then (scp_end text) found) 0)
host_by text None = inl refl
host_by text (Some at) =
    let from = at + brackets_len (drop at text) in after_by text from (first_mark mark.Colon (drop from text)) refl

-- no token goes on after a user and a host of the scp form
pub scp_seam : (front more text : List ℕ) → text ≡ front ++ more → SeamAt text (scp_len front)
scp_seam front more text cut = subst (λ t. SeamAt t (scp_len front)) (sym cut) (seam_more front more (scp_len front) (host_by front (host_start front)))

-- the front of a text up to the end of its first `://`
pub url_seam : (text : List ℕ) (n : ℕ) → first_mark mark.Authority text ≡ Some n → SeamAt text (mark_end mark.Authority text n)
url_seam text n e =
    let (begins, within) = first_begins mark.Authority text n e in
    let (rest, cut) = cut_front (drop n text) (codes "://") begins in
    inr (ends_found text (codes "://") rest n within cut (inl (codes ":/", slash, refl, refl)))

-- a text that begins with a scheme and a colon
ends_scheme : (text scheme : List ℕ) → has_front text (scheme ++ colon ∷ []) ≡ true → EndsAt text (length (scheme ++ colon ∷ []))
ends_scheme text scheme begins =
    let (rest, cut) = cut_front text (scheme ++ colon ∷ []) begins in
    ([], scheme ++ colon ∷ [], rest, cut, omega arith, inl (scheme, colon, refl, refl))

-- by whether it begins with each of the schemes
bare_by : (text : List ℕ) (ssh http https : Bool) → has_front text (codes "ssh:") ≡ ssh → has_front text (codes "http:") ≡ http → has_front text (codes "https:") ≡ https → SeamAt text (if ssh then 4 else (if http then 5 else (if https then 6 else 0)))
bare_by text true http https e f g = inr (ends_scheme text (codes "ssh") e)
bare_by text false true https e f g = inr (ends_scheme text (codes "http") f)
bare_by text false false true e f g = inr (ends_scheme text (codes "https") g)
bare_by text false false false e f g = inl refl

-- no token goes on after a scheme with a colon
pub bare_seam : (text : List ℕ) → SeamAt text (bare_scheme_len text)
bare_seam text = bare_by text (has_front text (codes "ssh:")) (has_front text (codes "http:")) (has_front text (codes "https:")) refl refl refl

-- the front of a text up to the end of its first `::`
ends_helper : (text : List ℕ) (n : ℕ) → first_mark mark.Helper text ≡ Some n → EndsAt text (mark_end mark.Helper text n)
ends_helper text n e =
    let (begins, within) = first_begins mark.Helper text n e in
    let (rest, cut) = cut_front (drop n text) (codes "::") begins in
    ends_found text (codes "::") rest n within cut (inl (colon ∷ [], colon, refl, refl))

-- a front that is taken or not
seam_if : (text : List ℕ) (n : ℕ) (is : Bool) → EndsAt text n → SeamAt text (if is then n else 0)
seam_if text n true ends = inr ends
seam_if text n false ends = inl refl

-- the name of a helper, if its `::` is found
helper_by : (text : List ℕ) (found : Option ℕ) → first_mark mark.Helper text ≡ found → SeamAt text (unwrap_or (option_map (helper_end text) found) 0)
helper_by text None e = inl refl
helper_by text (Some n) e = seam_if text (mark_end mark.Helper text n) _ (ends_helper text n e)

-- no token goes on after the name of a helper
pub helper_seam : (text : List ℕ) → SeamAt text (helper_len text)
helper_seam text = helper_by text (first_mark mark.Helper text) refl
