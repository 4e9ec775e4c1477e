-- The pieces of a text joined are the text.
use Rattle.std.proofs.Common.{◌≡◌, ◌∙◌, ℕ, Bool, true, false, if◌then◌else◌, List, [], ◌∷◌, ◌++◌, map, take, drop, Option, Some, None, refl, sym, ap, append_assoc, append-nil}
use Rattle.std.proofs.lemmas.List.{take-append-drop}
use Rattle.git_syntax.specs.Bytes.{begins_by, is_path_start}
use Rattle.git_audit.specs.Dangers.{is_token_word}
use Rattle.git_audit.specs.declared.secret.mark.Class.{Class}
use Rattle.git_audit.specs.declared.secret.mark.Class.TheVariants as class
use Rattle.git_audit.specs.declared.secret.place.Secret.{Secret}
use Rattle.git_audit.specs.Secrets.{Part, authority_parts, helper_len, hidden, hidden_part, is_of, is_web, joined, onto_run, part_bytes, parts_of, parts_of_runs, password, plain_parts, run_parts, runs, shown, tokens, url_parts, wide_part, wide_parts, wide_password, word_part}

joined_both : (xs ys : List Part) → joined (xs ++ ys) ≡ joined xs ++ joined ys
joined_both [] ys = refl
joined_both (x ∷ xs) ys = ap (λ t. part_bytes x ++ t) (joined_both xs ys) ∙ sym (append_assoc (part_bytes x) (joined xs) (joined ys))

abbrev flat : List (List ℕ) → List ℕ
flat [] = []
flat (part ∷ parts) = part ++ flat parts

flat_onto_by : (b : ℕ) (run : List ℕ) (parts : List (List ℕ)) (is : Bool) → flat (if is then (b ∷ []) ∷ run ∷ parts else (b ∷ run) ∷ parts) ≡ b ∷ flat (run ∷ parts)
flat_onto_by b run parts true = refl
flat_onto_by b run parts false = refl

flat_onto : (c : Class) (b : ℕ) (parts : List (List ℕ)) → flat (onto_run c b parts) ≡ b ∷ flat parts
flat_onto c b [] = refl
flat_onto c b (run ∷ parts) = flat_onto_by b run parts (begins_by (is_of c) run)

flat_runs_by : (c : Class) (b : ℕ) (parts : List (List ℕ)) (is : Bool) → flat (if is then (b ∷ []) ∷ parts else onto_run c b parts) ≡ b ∷ flat parts
flat_runs_by c b parts true = refl
flat_runs_by c b parts false = flat_onto c b parts

flat_runs : (c : Class) (text : List ℕ) → flat (runs c text) ≡ text
flat_runs c [] = refl
flat_runs c (b ∷ bs) = flat_runs_by c b (runs c bs) (is_of c b) ∙ ap (λ t. b ∷ t) (flat_runs c bs)

-- runs that are pieces each
joined_each : (part : List ℕ → Part) → ((run : List ℕ) → part_bytes (part run) ≡ run) → (parts : List (List ℕ)) → joined (map part parts) ≡ flat parts
joined_each part same [] = refl
joined_each part same (run ∷ parts) = ap (λ t. t ++ joined (map part parts)) (same run) ∙ ap (λ t. run ++ t) (joined_each part same parts)

hidden_or_shown : (run : List ℕ) (is : Bool) → part_bytes (if is then hidden run else shown run) ≡ run
hidden_or_shown run true = refl
hidden_or_shown run false = refl

shown_or_hidden : (run : List ℕ) (is : Bool) → part_bytes (if is then shown run else hidden run) ≡ run
shown_or_hidden run true = refl
shown_or_hidden run false = refl

whole_tokens : (text : List ℕ) → joined (tokens text) ≡ text
whole_tokens text = joined_each word_part (λ run. hidden_or_shown run (is_token_word run)) (runs class.Gap text) ∙ flat_runs class.Gap text

whole_wide : (web : Bool) (text : List ℕ) → joined (wide_parts web text) ≡ text
whole_wide web text =
    joined_each (wide_part web) (λ run. shown_or_hidden run (begins_by (is_path_start web) run)) (runs (class.Path web) text) ∙ flat_runs (class.Path web) text

whole_hidden : (text : List ℕ) → joined (hidden_part text) ≡ text
whole_hidden [] = refl
whole_hidden (b ∷ bs) = append-nil (b ∷ bs)

-- three parts of a text, which are whole
whole_three : (s : Secret) (text : List ℕ) (fronts middles : List Part) → joined fronts ≡ take s.at text → joined middles ≡ take s.len (drop s.at text) → joined (fronts ++ (middles ++ tokens (drop s.len (drop s.at text)))) ≡ text
whole_three s text fronts middles front middle =
    let rest = drop s.at text in
    let suffix : joined (middles ++ tokens (drop s.len rest)) ≡ rest =
    joined_both middles (tokens (drop s.len rest)) ∙ ap (λ t. t ++ joined (tokens (drop s.len rest))) middle
    ∙ ap (λ t. take s.len rest ++ t) (whole_tokens (drop s.len rest)) ∙ take-append-drop s.len rest in
    joined_both fronts _ ∙ ap (λ t. t ++ joined (middles ++ tokens (drop s.len rest))) front
    ∙ ap (λ t. take s.at text ++ t) suffix ∙ take-append-drop s.at text

whole_run : (found : Option Secret) (text : List ℕ) → joined (run_parts found text) ≡ text
whole_run None text = whole_tokens text
whole_run (Some s) text = whole_three s text (tokens (take s.at text)) (hidden_part (take s.len (drop s.at text))) (whole_tokens (take s.at text)) (whole_hidden (take s.len (drop s.at text)))

whole_runs : (parts : List (List ℕ)) → joined (parts_of_runs parts) ≡ flat parts
whole_runs [] = refl
whole_runs (run ∷ parts) =
    joined_both (run_parts (password run) run) (parts_of_runs parts) ∙ ap (λ t. t ++ joined (parts_of_runs parts)) (whole_run (password run) run)
    ∙ ap (λ t. run ++ t) (whole_runs parts)

whole_plain : (web : Bool) (text : List ℕ) → joined (plain_parts web text) ≡ text
whole_plain web text = whole_runs (runs (class.Path web) text) ∙ flat_runs (class.Path web) text

whole_url : (web : Bool) (found : Option Secret) (text : List ℕ) → joined (authority_parts web found text) ≡ text
whole_url web None text = whole_plain web text
whole_url web (Some s) text = whole_three s text (plain_parts web (take s.at text)) (wide_parts web (take s.len (drop s.at text))) (whole_plain web (take s.at text)) (whole_wide web (take s.len (drop s.at text)))

-- a text is whole
pub whole_text : (text : List ℕ) → joined (parts_of text) ≡ text
whole_text text =
    let n = helper_len text in
    let url = drop n text in
    joined_both (tokens (take n text)) (url_parts url) ∙ ap (λ t. t ++ joined (url_parts url)) (whole_tokens (take n text))
    ∙ ap (λ t. take n text ++ t) (whole_url (is_web url) (wide_password (is_web url) url) url) ∙ take-append-drop n text
