-- The pieces of a text joined are the text.
use Rattle.std.proofs.Common.{◌≡◌, ◌∙◌, ℕ, ◌+◌, Bool, true, false, if◌then◌else◌, List, [], ◌∷◌, ◌++◌, map, take, drop, Option, Some, None, refl, sym, ap, append_assoc, append-nil}
use Rattle.std.proofs.lemmas.List.{take-append-drop}
use Rattle.git_syntax.specs.Bytes.{begins_by, is_path_start}
use Rattle.git_secrets.specs.Tokens.{is_token_word}
use Rattle.git_secrets.specs.declared.Secret.{Secret}
use Rattle.git_secrets.specs.declared.Secret.TheVariants as secret
use Rattle.git_secrets.specs.declared.mark.Class.{Class}
use Rattle.git_secrets.specs.declared.mark.Class.TheVariants as class
use Rattle.git_secrets.specs.declared.place.Place.{Place}
use Rattle.git_secrets.specs.declared.mark.Mark.TheVariants as mark
use Rattle.git_secrets.specs.Secrets.{Part, bare_scheme_len, before_path, ends_as_web, first_mark, helper_len, hidden, hidden_part, is_of, is_web, joined, mark_end, named_parts, onto_run, part_bytes, parts_after, parts_at, parts_of, parts_of_runs, password, plain_parts, run_parts, runs, scp_len, shown, token_len, tokens, user_parts, wide_around, wide_part, wide_parts, word_part}

-- two lists of pieces joined
pub joined_both : (xs ys : List Part) → joined (xs ++ ys) ≡ joined xs ++ joined ys
joined_both [] ys = refl
joined_both (x ∷ xs) ys = ap (λ t. part_bytes x ++ t) (joined_both xs ys) ∙ sym (append_assoc (part_bytes x) (joined xs) (joined ys))

abbrev pub flat : List (List ℕ) → List ℕ
flat [] = []
flat (part ∷ parts) = part ++ flat parts

flat_onto_by : (b : ℕ) (run : List ℕ) (parts : List (List ℕ)) (is : Bool) → flat (if is then (b ∷ []) ∷ run ∷ parts else (b ∷ run) ∷ parts) ≡ b ∷ flat (run ∷ parts)
flat_onto_by b run parts true = refl
flat_onto_by b run parts false = refl

flat_onto : (c : Class) (b : ℕ) (parts : List (List ℕ)) → flat (onto_run c b parts) ≡ b ∷ flat parts
flat_onto c b [] = refl
flat_onto c b (run ∷ parts) = flat_onto_by b run parts (begins_by (is_of c) run)

flat_runs_by : (c : Class) (b : ℕ) (parts : List (List ℕ)) (is : Bool) → flat (if is then (b ∷ []) ∷ parts else onto_run c b parts) ≡ b ∷ flat parts
flat_runs_by c b parts true = refl
flat_runs_by c b parts false = flat_onto c b parts

flat_runs : (c : Class) (text : List ℕ) → flat (runs c text) ≡ text
flat_runs c [] = refl
flat_runs c (b ∷ bs) = flat_runs_by c b (runs c bs) (is_of c b) ∙ ap (λ t. b ∷ t) (flat_runs c bs)

-- runs that are pieces each
pub joined_each : (part : List ℕ → Part) → ((run : List ℕ) → part_bytes (part run) ≡ run) → (parts : List (List ℕ)) → joined (map part parts) ≡ flat parts
joined_each part same [] = refl
joined_each part same (run ∷ parts) = ap (λ t. t ++ joined (map part parts)) (same run) ∙ ap (λ t. run ++ t) (joined_each part same parts)

hidden_or_shown : (kind : Secret) (run : List ℕ) (is : Bool) → part_bytes (if is then hidden kind run else shown run) ≡ run
hidden_or_shown kind run true = refl
hidden_or_shown kind run false = refl

pub shown_or_hidden : (kind : Secret) (run : List ℕ) (is : Bool) → part_bytes (if is then shown run else hidden kind run) ≡ run
shown_or_hidden kind run true = refl
shown_or_hidden kind run false = refl

-- the tokens of a text joined are the text
pub whole_tokens : (text : List ℕ) → joined (tokens text) ≡ text
whole_tokens text = joined_each word_part (λ run. hidden_or_shown secret.Token run (is_token_word run)) (runs class.Gap text) ∙ flat_runs class.Gap text

pub whole_wide : (web : Bool) (text : List ℕ) → joined (wide_parts web text) ≡ text
whole_wide web text =
    joined_each (wide_part web) (λ run. shown_or_hidden secret.Password run (begins_by (is_path_start web) run)) (runs (class.Path web) text) ∙ flat_runs (class.Path web) text

-- a hidden piece
pub whole_hidden : (kind : Secret) (text : List ℕ) → joined (hidden_part kind text) ≡ text
whole_hidden kind [] = refl
whole_hidden kind (b ∷ bs) = append-nil (b ∷ bs)

-- three parts of a text, which are whole
whole_three : (s : Place) (text : List ℕ) (fronts middles : List Part) → joined fronts ≡ take s.at text → joined middles ≡ take s.len (drop s.at text) → joined (fronts ++ (middles ++ tokens (drop s.len (drop s.at text)))) ≡ text
whole_three s text fronts middles front middle =
    let rest = drop s.at text in
    let suffix : joined (middles ++ tokens (drop s.len rest)) ≡ rest =
    joined_both middles (tokens (drop s.len rest)) ∙ ap (λ t. t ++ joined (tokens (drop s.len rest))) middle
    ∙ ap (λ t. take s.len rest ++ t) (whole_tokens (drop s.len rest)) ∙ take-append-drop s.len rest in
    joined_both fronts _ ∙ ap (λ t. t ++ joined (middles ++ tokens (drop s.len rest))) front
    ∙ ap (λ t. take s.at text ++ t) suffix ∙ take-append-drop s.at text

pub whole_run : (found : Option Place) (text : List ℕ) → joined (run_parts found text) ≡ text
whole_run None text = whole_tokens text
whole_run (Some s) text = whole_three s text (tokens (take s.at text)) (hidden_part secret.Password (take s.len (drop s.at text))) (whole_tokens (take s.at text)) (whole_hidden secret.Password (take s.len (drop s.at text)))

pub whole_runs : (parts : List (List ℕ)) → joined (parts_of_runs parts) ≡ flat parts
whole_runs [] = refl
whole_runs (run ∷ parts) =
    joined_both (run_parts (password run) run) (parts_of_runs parts) ∙ ap (λ t. t ++ joined (parts_of_runs parts)) (whole_run (password run) run)
    ∙ ap (λ t. run ++ t) (whole_runs parts)

-- a text with its possible passwords hidden is whole
pub whole_plain : (web : Bool) (text : List ℕ) → joined (plain_parts web text) ≡ text
whole_plain web text = whole_runs (runs (class.Path web) text) ∙ flat_runs (class.Path web) text

whole_around : (web : Bool) (found : Option Place) (text : List ℕ) → joined (wide_around web found text) ≡ text
whole_around web None text = whole_plain web text
whole_around web (Some s) text = whole_three s text (plain_parts web (take s.at text)) (wide_parts web (take s.len (drop s.at text))) (whole_plain web (take s.at text)) (whole_wide web (take s.len (drop s.at text)))

-- two parts of a text, which are whole
whole_two : (n : ℕ) (text : List ℕ) (fronts backs : List Part) → joined fronts ≡ take n text → joined backs ≡ drop n text → joined (fronts ++ backs) ≡ text
whole_two n text fronts backs front back =
    joined_both fronts backs ∙ ap (λ t. t ++ joined backs) front ∙ ap (λ t. take n text ++ t) back ∙ take-append-drop n text

pub whole_named : (web is_url : Bool) (text : List ℕ) → joined (named_parts web is_url text) ≡ text
whole_named web true text = whole_around web _ text
whole_named web false text =
    let n = scp_len (before_path web text) in
    whole_two n text (tokens (take n text)) (plain_parts web (drop n text)) (whole_tokens (take n text)) (whole_plain web (drop n text))

pub whole_user : (web is_url : Bool) (len : ℕ) (text : List ℕ) → joined (user_parts web is_url len text) ≡ text
whole_user web is_url len text =
    whole_two len text (hidden_part secret.Token (take len text)) (named_parts web is_url (drop len text)) (whole_hidden secret.Token (take len text)) (whole_named web is_url (drop len text))

whole_at : (web is_url : Bool) (at : ℕ) (text : List ℕ) → joined (parts_at web is_url at text) ≡ text
whole_at web is_url at text =
    let len = token_len (ends_as_web (take at text)) (before_path web (drop at text)) in
    whole_two at text (plain_parts web (take at text)) (user_parts web is_url len (drop at text)) (whole_plain web (take at text)) (whole_user web is_url len (drop at text))

whole_after : (helper : ℕ) (found : Option ℕ) (text : List ℕ) → joined (parts_after helper found text) ≡ text
whole_after helper None text = whole_at (is_web (drop helper text)) false (helper + bare_scheme_len (drop helper text)) text
whole_after helper (Some n) text = whole_at (is_web (drop helper text)) true (helper + mark_end mark.Authority (drop helper text) n) text

-- a text is whole
pub whole_text : (text : List ℕ) → joined (parts_of text) ≡ text
whole_text text = whole_after (helper_len text) (first_mark mark.Authority (drop (helper_len text) text)) text
