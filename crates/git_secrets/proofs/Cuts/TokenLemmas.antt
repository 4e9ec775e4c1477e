-- Each token of a text lies in a hidden one of its pieces.
use Rattle.std.proofs.Common.{◌≡◌, ◌∙◌, ℕ, ◌+◌, ◌≤◌, ◌⊎◌, inl, inr, Bool, true, false, if◌then◌else◌, List, [], ◌∷◌, ◌++◌, length, map, take, drop, Option, Some, None, refl, ap, arith, append-nil, length-append}
use Rattle.std.proofs.lemmas.Bool.{both_ways}
use Rattle.git_syntax.specs.Bytes.{begins_by, is_path_start}
use Rattle.git_secrets.specs.Tokens.{is_gap}
use Rattle.git_secrets.specs.declared.Secret.TheVariants as secret
use Rattle.git_secrets.specs.declared.mark.Class.TheVariants as class
use Rattle.git_secrets.specs.declared.mark.Mark.TheVariants as mark
use Rattle.git_secrets.specs.declared.place.Place.{Place}
use Rattle.git_secrets.specs.TokenLaws.{BeginsApart, HidesTokens}
use Rattle.git_secrets.specs.Secrets.{Part, bare_scheme_len, before_path, ends_as_web, first_mark, helper_len, hidden, hidden_part, is_web, joined, mark_end, named_parts, onto_run, parts_after, parts_at, parts_of_runs, password, plain_parts, run_parts, runs, scp_len, shown, token_len, tokens, user_parts, wide_around, wide_in, wide_part, wide_parts}
use Rattle.git_secrets.proofs.Cuts.ApartLemmas.{Apart, EndsInGap, apart_begins, apart_ends}
use Rattle.git_secrets.proofs.Cuts.JoinLemmas.{flat, joined_each, shown_or_hidden, whole_hidden, whole_named, whole_plain, whole_run, whole_runs, whole_text, whole_tokens, whole_user, whole_wide}
use Rattle.git_secrets.proofs.Cuts.KeepLemmas.{Keeps, keeps_both, keeps_hidden, keeps_one, keeps_short, keeps_tokens}
use Rattle.git_secrets.proofs.Cuts.SeamLemmas.{CutsAt, SeamAt, apart_at, bare_seam, before_cut, helper_seam, password_cuts, path_gap, scp_seam, seam_later, token_apart, url_seam, wide_cuts}

-- ---- parts of a text

-- two parts of a text, between which no token is cut
keeps_two : (n : ℕ) (text : List ℕ) (xs ys : List Part) → joined xs ≡ take n text → joined ys ≡ drop n text → Apart (take n text) (drop n text) → Keeps xs → Keeps ys → Keeps (xs ++ ys)
keeps_two n text xs ys first second apart one two = keeps_both (take n text) (drop n text) xs ys first second apart one two

-- three parts of a text: the second is between a `:` and an `@`
keeps_three : (s : Place) (text : List ℕ) (fronts middles : List Part) → joined fronts ≡ take s.at text → joined middles ≡ take s.len (drop s.at text) → Keeps fronts → Keeps middles → CutsAt (Some s) text → Keeps (fronts ++ (middles ++ tokens (drop s.len (drop s.at text))))
keeps_three s text fronts middles front middle first second (ends, begins) =
    let rest = drop s.len (drop s.at text) in
    let more = middles ++ tokens rest in
    keeps_both (take s.at text) (joined more) fronts more front refl (apart_at text (joined more) s.at (inr ends)) first
    (keeps_two s.len (drop s.at text) middles (tokens rest) middle (whole_tokens rest) (apart_begins (take s.len (drop s.at text)) rest begins) second (keeps_tokens rest))

-- a run with its possible password hidden
keeps_run : (found : Option Place) (text : List ℕ) → CutsAt found text → Keeps (run_parts found text)
keeps_run None text cuts = keeps_tokens text
keeps_run (Some s) text cuts =
    let bytes = take s.len (drop s.at text) in
    keeps_three s text (tokens (take s.at text)) (hidden_part secret.Password bytes) (whole_tokens (take s.at text)) (whole_hidden secret.Password bytes) (keeps_tokens (take s.at text)) (keeps_hidden secret.Password bytes) cuts

-- ---- runs

-- a run is a byte at which a path may start, or begins with none; and between it and the next, no token is cut
abbrev AreApart : Bool → List (List ℕ) → Type 0
AreApart web [] = Unit {0}
AreApart web (run ∷ parts) = (begins_by (is_path_start web) run ≡ true → length run ≤ 1)
    × (EndsInGap run ⊎ BeginsApart (flat parts)) × AreApart web parts

-- a text that begins with such a byte
path_apart : (web : Bool) (run more : List ℕ) → begins_by (is_path_start web) run ≡ true → begins_by is_gap (run ++ more) ≡ true
path_apart web [] more begins = cc
path_apart web (b ∷ run) more begins = path_gap web b begins

-- a run with a byte before it that isn't such
longer_apart : (b : ℕ) (run more : List ℕ) → EndsInGap run ⊎ BeginsApart more → EndsInGap (b ∷ run) ⊎ BeginsApart more
longer_apart b run more (inl (front, c, e, gap)) = inl (b ∷ front, c, ap (λ t. b ∷ t) e, gap)
longer_apart b run more (inr begins) = inr begins

-- a byte that isn't such before runs, by whether the first of them begins with one
onto_by : (web : Bool) (b : ℕ) (run : List ℕ) (parts : List (List ℕ)) (is : Bool) → begins_by (is_path_start web) run ≡ is → is_path_start web b ≡ false → AreApart web (run ∷ parts) → AreApart web (if is then (b ∷ []) ∷ run ∷ parts else (b ∷ run) ∷ parts)
onto_by web b run parts true e other apart = (λ h. omega arith, inr (inr (path_apart web run (flat parts) e)), apart)
onto_by web b run parts false e other (short, between, rest) =
    (λ h. absurd (both_ways (is_path_start web b) other h), longer_apart b run (flat parts) between, rest)

-- a byte that isn't such before runs
apart_onto : (web : Bool) (b : ℕ) (parts : List (List ℕ)) → is_path_start web b ≡ false → AreApart web parts → AreApart web (onto_run (class.Path web) b parts)
apart_onto web b [] other apart = (λ h. omega arith, inr (inl refl), tt)
apart_onto web b (run ∷ parts) other apart = onto_by web b run parts (begins_by (is_path_start web) run) refl other apart

-- a byte before runs
runs_by : (web : Bool) (b : ℕ) (parts : List (List ℕ)) (is : Bool) → is_path_start web b ≡ is → AreApart web parts → AreApart web (if is then (b ∷ []) ∷ parts else onto_run (class.Path web) b parts)
runs_by web b parts true e apart = (λ h. omega arith, inl ([], b, refl, path_gap web b e), apart)
runs_by web b parts false e apart = apart_onto web b parts e apart

-- between the runs of a text no token is cut
apart_runs : (web : Bool) (text : List ℕ) → AreApart web (runs (class.Path web) text)
apart_runs web [] = tt
apart_runs web (b ∷ bs) = runs_by web b (runs (class.Path web) bs) (is_path_start web b) refl (apart_runs web bs)

-- between a run and the next no token is cut
run_apart : (run more : List ℕ) → EndsInGap run ⊎ BeginsApart more → Apart run more
run_apart run more (inl ends) = apart_ends run more (inr ends)
run_apart run more (inr begins) = apart_begins run more begins

-- runs with their possible passwords hidden
keeps_runs : (web : Bool) (parts : List (List ℕ)) → AreApart web parts → Keeps (parts_of_runs parts)
keeps_runs web [] apart = keeps_short [] (omega arith)
keeps_runs web (run ∷ parts) (short, between, rest) =
    keeps_both run (flat parts) (run_parts (password run) run) (parts_of_runs parts) (whole_run (password run) run) (whole_runs parts) (run_apart run (flat parts) between) (keeps_run (password run) run (password_cuts run)) (keeps_runs web parts rest)

-- a text with its possible passwords hidden
keeps_plain : (web : Bool) (text : List ℕ) → Keeps (plain_parts web text)
keeps_plain web text = keeps_runs web (runs (class.Path web) text) (apart_runs web text)

-- a run of a password with a `/` in it is hidden, unless it is a byte
keeps_wide_run : (run : List ℕ) (is : Bool) → (is ≡ true → length run ≤ 1) → Keeps ((if is then shown run else hidden secret.Password run) ∷ [])
keeps_wide_run run true short = keeps_short (shown run ∷ []) (omega (arith, short refl, length-append run []))
keeps_wide_run run false short = keeps_one secret.Password run

-- the runs of a password with a `/` in it
keeps_wide_runs : (web : Bool) (parts : List (List ℕ)) → AreApart web parts → Keeps (map (wide_part web) parts)
keeps_wide_runs web [] apart = keeps_short [] (omega arith)
keeps_wide_runs web (run ∷ parts) (short, between, rest) =
    keeps_both run (flat parts) (wide_part web run ∷ []) (map (wide_part web) parts)
    (append-nil _ ∙ shown_or_hidden secret.Password run (begins_by (is_path_start web) run))
    (joined_each (wide_part web) (λ t. shown_or_hidden secret.Password t (begins_by (is_path_start web) t)) parts)
    (run_apart run (flat parts) between) (keeps_wide_run run (begins_by (is_path_start web) run) short) (keeps_wide_runs web parts rest)

-- a password with a `/` in it
keeps_wide : (web : Bool) (text : List ℕ) → Keeps (wide_parts web text)
keeps_wide web text = keeps_wide_runs web (runs (class.Path web) text) (apart_runs web text)

-- a text with a password with a `/` in it hidden, if there is one
keeps_around : (web : Bool) (found : Option Place) (text : List ℕ) → CutsAt found text → Keeps (wide_around web found text)
keeps_around web None text cuts = keeps_plain web text
keeps_around web (Some s) text cuts =
    let bytes = take s.len (drop s.at text) in
    keeps_three s text (plain_parts web (take s.at text)) (wide_parts web bytes) (whole_plain web (take s.at text)) (whole_wide web bytes) (keeps_plain web (take s.at text)) (keeps_wide web bytes) cuts

-- ---- texts

-- a text after a token
keeps_named : (web is_url : Bool) (text : List ℕ) → Keeps (named_parts web is_url text)
keeps_named web true text =
    let (more, cut, begins) = before_cut web text in
    keeps_around web (wide_in (before_path web text) text) text (wide_cuts (before_path web text) more text cut)
keeps_named web false text =
    let (more, cut, begins) = before_cut web text in
    let n = scp_len (before_path web text) in
    keeps_two n text (tokens (take n text)) (plain_parts web (drop n text)) (whole_tokens (take n text)) (whole_plain web (drop n text)) (apart_at text (drop n text) n (scp_seam (before_path web text) more text cut)) (keeps_tokens (take n text)) (keeps_plain web (drop n text))

-- a text that may begin with a token in place of a user
keeps_user : (web ends is_url : Bool) (text : List ℕ) → Keeps (user_parts web is_url (token_len ends (before_path web text)) text)
keeps_user web ends is_url text =
    let (more, cut, begins) = before_cut web text in
    let len = token_len ends (before_path web text) in
    keeps_two len text (hidden_part secret.Token (take len text)) (named_parts web is_url (drop len text)) (whole_hidden secret.Token (take len text)) (whole_named web is_url (drop len text)) (token_apart ends (before_path web text) more text cut begins) (keeps_hidden secret.Token (take len text)) (keeps_named web is_url (drop len text))

-- a text whose authority, user or path begins at an index
keeps_at : (web is_url : Bool) (at : ℕ) (text : List ℕ) → SeamAt text at → Keeps (parts_at web is_url at text)
keeps_at web is_url at text seam =
    let rest = drop at text in
    let len = token_len (ends_as_web (take at text)) (before_path web rest) in
    keeps_two at text (plain_parts web (take at text)) (user_parts web is_url len rest) (whole_plain web (take at text)) (whole_user web is_url len rest) (apart_at text rest at seam) (keeps_plain web (take at text)) (keeps_user web (ends_as_web (take at text)) is_url rest)

-- a text without the name of a helper
keeps_after : (helper : ℕ) (found : Option ℕ) (text : List ℕ) → SeamAt text helper → first_mark mark.Authority (drop helper text) ≡ found → Keeps (parts_after helper found text)
keeps_after helper None text seam e =
    let url = drop helper text in
    keeps_at (is_web url) false (helper + bare_scheme_len url) text (seam_later text helper (bare_scheme_len url) seam (bare_seam url))
keeps_after helper (Some n) text seam e =
    let url = drop helper text in
    keeps_at (is_web url) true (helper + mark_end mark.Authority url n) text (seam_later text helper (mark_end mark.Authority url n) seam (url_seam url n e))

-- each token of a text lies in a hidden piece
pub tokens_hidden : HidesTokens
tokens_hidden front word rest is all before after =
    let text = front ++ (word ++ rest) in
    keeps_after (helper_len text) (first_mark mark.Authority (drop (helper_len text) text)) text (helper_seam text) refl front word rest (whole_text text) (is, all) before after
