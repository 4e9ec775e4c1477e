-- Nothing is hidden but what may be a secret.
use Rattle.std.proofs.Common.{◌≡◌, ◌∙◌, ℕ, ◌+◌, ◌≤◌, inl, inr, Bool, true, false, ◌&&◌, ◌||◌, if◌then◌else◌, List, [], ◌∷◌, ◌++◌, length, map, take, drop, Option, Some, None, option_map, refl, sym, ap, subst, append_assoc, append-nil, nat_le}
use Rattle.std.specs.Option.{is_some, option_and_then}
use Rattle.std.proofs.lemmas.Bool.{and_parts, leb-true, or_cases}
use Rattle.std.proofs.lemmas.List.{length-take-le, take-append-drop, take-append-le, take_at}
use Rattle.git_syntax.specs.Bytes.{begins_by, is_path_start}
use Rattle.git_secrets.specs.Tokens.{begins_as_token, is_token_word, least_token, least_user}
use Rattle.git_secrets.specs.declared.Secret.TheVariants as secret
use Rattle.git_secrets.specs.declared.mark.Class.TheVariants as class
use Rattle.git_secrets.specs.declared.mark.Mark.TheVariants as mark
use Rattle.git_secrets.specs.declared.place.Place.{Place}
use Rattle.git_secrets.specs.Secrets.{Part, bare_scheme_len, before_path, begins_with_token, ends_as_web, first_mark, helper_len, hidden, hidden_part, is_beside_token, is_long_user, is_web, is_whole, joined, last_mark, mark_end, named_parts, part_bytes, parts_after, parts_at, parts_of_runs, password, plain_parts, run_parts, runs, scp_len, shown, token_len, tokens, up_to_at, user_len, user_parts, wide_around, wide_in, wide_part, wide_parts, word_part}
use Rattle.git_secrets.specs.OnlyLaws.{AreSecrets, Has, IsAt, IsColon, MayBe, MayBeToken, OnlySecrets}
use Rattle.git_secrets.proofs.Cuts.FoundLemmas.{at_found, colon_found, has_after, has_before, user_within}
use Rattle.git_secrets.proofs.Cuts.JoinLemmas.{joined_both, whole_plain, whole_tokens}

-- ---- pieces after one another

-- pieces hide only secrets, if each of two parts of them does
are_both : (before after : List ℕ) (xs ys : List Part) → AreSecrets before xs (joined ys ++ after) → AreSecrets (before ++ joined xs) ys after → AreSecrets before (xs ++ ys) after
are_both before after [] ys first second = subst (λ t. AreSecrets t ys after) (append-nil before) second
are_both before after (x ∷ xs) ys (may, first) second = (
  subst (MayBe before x) (sym (append_assoc (joined xs) (joined ys) after) ∙ ap (λ t. t ++ after) (sym (joined_both xs ys))) may,
  are_both (before ++ part_bytes x) after xs ys first (subst (λ t. AreSecrets t ys after) (sym (append_assoc before (part_bytes x) (joined xs))) second),
)

-- pieces hide only secrets, whatever is before and after them
abbrev AlwaysAre : List Part → Type 0
AlwaysAre parts = (before after : List ℕ) → AreSecrets before parts after

-- two lists of pieces that always hide only secrets do so after one another
always_both : (xs ys : List Part) → AlwaysAre xs → AlwaysAre ys → AlwaysAre (xs ++ ys)
always_both xs ys first second before after =
    are_both before after xs ys (first before (joined ys ++ after)) (second (before ++ joined xs) after)

-- ---- tokens

-- a word that is a token begins as one
token_begins : (word : List ℕ) → is_token_word word ≡ true → begins_as_token word ≡ true
unfolding is_token_word
token_begins word is = (and_parts (nat_le least_token (length word)) (begins_as_token word) is).1

-- a word is shown, or may be a token
word_may : (before word after : List ℕ) (is : Bool) → is_token_word word ≡ is → MayBe before (if is then hidden secret.Token word else shown word) after
word_may before word after true is = inl (token_begins word is)
word_may before word after false is = tt

-- words are shown, or may be tokens
always_words : (words : List (List ℕ)) → AlwaysAre (map word_part words)
always_words [] before after = tt
always_words (word ∷ words) before after =
    (word_may before word _ (is_token_word word) refl, always_words words (before ++ part_bytes (word_part word)) after)

-- the tokens of a text may be such
always_tokens : (text : List ℕ) → AlwaysAre (tokens text)
always_tokens text = always_words (runs class.Gap text)

-- ---- what is between a `:` and an `@`

-- pieces hide only secrets after a text that has a `:` and before one that has an `@`
abbrev AreBetween : List Part → Type 0
AreBetween parts = (before after : List ℕ) → Has IsColon before → Has IsAt after → AreSecrets before parts after

-- what is hidden between a `:` and an `@`
between_hidden : (text : List ℕ) → AreBetween (hidden_part secret.Password text)
between_hidden [] before after colons sign = tt
between_hidden (b ∷ bs) before after colons sign = ((colons, sign), tt)

-- a run between a `:` and an `@` is shown or hidden
wide_may : (before run after : List ℕ) (is : Bool) → Has IsColon before → Has IsAt after → MayBe before (if is then shown run else hidden secret.Password run) after
wide_may before run after true colons sign = tt
wide_may before run after false colons sign = (colons, sign)

-- the runs between a `:` and an `@`
between_runs : (web : Bool) (parts : List (List ℕ)) → AreBetween (map (wide_part web) parts)
between_runs web [] before after colons sign = tt
between_runs web (run ∷ parts) before after colons sign = (
  wide_may before run _ (begins_by (is_path_start web) run) colons (has_before IsAt (joined (map (wide_part web) parts)) after sign),
  between_runs web parts (before ++ part_bytes (wide_part web run)) after (has_after IsColon before _ colons) sign,
)

-- a password with a `/` in it, between a `:` and an `@`
between_wide : (web : Bool) (text : List ℕ) → AreBetween (wide_parts web text)
between_wide web text = between_runs web (runs (class.Path web) text)

-- the text before the place, if there is one, has a `:`, and the text after it has an `@`
abbrev Stands : Option Place → List ℕ → Type 0
Stands None text = Unit {0}
Stands (Some s) text = Has IsColon (take s.at text) × Has IsAt (drop s.len (drop s.at text))

-- three parts of a text: the second is between a `:` and an `@`
always_three : (s : Place) (text : List ℕ) (fronts middles : List Part) → joined fronts ≡ take s.at text → AlwaysAre fronts → AreBetween middles → Stands (Some s) text → AlwaysAre (fronts ++ (middles ++ tokens (drop s.len (drop s.at text))))
always_three s text fronts middles front first second (colons, sign) before after =
    let rest = tokens (drop s.len (drop s.at text)) in
    let has_colon : Has IsColon (joined fronts) = subst (Has IsColon) (sym front) colons in
    let has_at : Has IsAt (joined rest) = subst (Has IsAt) (sym (whole_tokens (drop s.len (drop s.at text)))) sign in
    are_both before after fronts (middles ++ rest) (first before (joined (middles ++ rest) ++ after))
    (are_both (before ++ joined fronts) after middles rest
    (second (before ++ joined fronts) (joined rest ++ after) (has_before IsColon before (joined fronts) has_colon) (has_after IsAt (joined rest) after has_at))
    (always_tokens (drop s.len (drop s.at text)) (before ++ joined fronts ++ joined middles) after))

-- ---- passwords

-- the bytes from the end of a `:` to the last `@`, if that is found
up_to_by : (text : List ℕ) (at : ℕ) (found : Option ℕ) → Has IsColon (take at text) → last_mark mark.At (drop at text) ≡ found → Stands (option_map (λ len. record { at = at; len = len }) found) text
up_to_by text at None colons e = tt
up_to_by text at (Some len) colons e = (colons, at_found (drop at text) len e)

-- the bytes from the end of a `:` to the last `@` are between them
up_to_stands : (text : List ℕ) (at : ℕ) → Has IsColon (take at text) → Stands (up_to_at text at) text
up_to_stands text at colons = up_to_by text at (last_mark mark.At (drop at text)) colons refl

-- the `:` that is found in a front of a text is before its end
colon_before : (front more text : List ℕ) (n : ℕ) → text ≡ front ++ more → first_mark mark.Colon front ≡ Some n → Has IsColon (take (mark_end mark.Colon front n) text)
colon_before front more text n cut e =
    let (start, rest, parts, size, has) = colon_found front n e in
    let whole : text ≡ start ++ (rest ++ more) = cut ∙ ap (λ t. t ++ more) parts ∙ append_assoc start rest more in
    let same : take (mark_end mark.Colon front n) text ≡ start = ap (take (mark_end mark.Colon front n)) whole ∙ take_at start (rest ++ more) (mark_end mark.Colon front n) size in
    subst (Has IsColon) (sym same) has

-- a possible password is between them, if the `:` is found
password_by : (text : List ℕ) (found : Option ℕ) → first_mark mark.Colon text ≡ found → Stands (option_and_then (λ n. up_to_at text (mark_end mark.Colon text n)) found) text
password_by text None e = tt
password_by text (Some n) e = up_to_stands text (mark_end mark.Colon text n) (colon_before text [] text n (sym (append-nil text)) e)

-- a possible password is between a `:` and an `@`
password_stands : (text : List ℕ) → Stands (password text) text
password_stands text = password_by text (first_mark mark.Colon text) refl

-- a run with its possible password hidden
always_run : (found : Option Place) (text : List ℕ) → Stands found text → AlwaysAre (run_parts found text)
always_run None text stands = always_tokens text
always_run (Some s) text stands =
    always_three s text (tokens (take s.at text)) (hidden_part secret.Password (take s.len (drop s.at text))) (whole_tokens (take s.at text)) (always_tokens (take s.at text)) (between_hidden (take s.len (drop s.at text))) stands

-- runs with their possible passwords hidden
always_runs : (parts : List (List ℕ)) → AlwaysAre (parts_of_runs parts)
always_runs [] before after = tt
always_runs (run ∷ parts) before after =
    always_both (run_parts (password run) run) (parts_of_runs parts) (always_run (password run) run (password_stands run)) (always_runs parts) before after

-- the possible passwords between bytes at which a path may start
always_plain : (web : Bool) (text : List ℕ) → AlwaysAre (plain_parts web text)
always_plain web text = always_runs (runs (class.Path web) text)

-- ---- passwords with a `/`

-- the bytes up to the last `@`, unless the authority is whole
wide_unless : (authority text : List ℕ) (at : ℕ) (is : Bool) → Has IsColon (take at text) → Stands (if is then None else up_to_at text at) text
wide_unless authority text at true colons = tt
wide_unless authority text at false colons = up_to_stands text at colons

-- a possible password with a `/` in it is between them, if the `:` is found in the authority
wide_by : (authority more text : List ℕ) (found : Option ℕ) → text ≡ authority ++ more → first_mark mark.Colon authority ≡ found → Stands (option_and_then (λ n. if is_whole authority (mark_end mark.Colon authority n) then None else up_to_at text (mark_end mark.Colon authority n)) found) text
wide_by authority more text None cut e = tt
wide_by authority more text (Some n) cut e =
    let at = mark_end mark.Colon authority n in
    wide_unless authority text at (is_whole authority at) (colon_before authority more text n cut e)

-- a possible password with a `/` in it is between a `:` and an `@`
wide_stands : (authority more text : List ℕ) → text ≡ authority ++ more → Stands (wide_in authority text) text
wide_stands authority more text cut = wide_by authority more text (first_mark mark.Colon authority) cut refl

-- a text with a password with a `/` in it hidden, if there is one
always_wide : (web : Bool) (found : Option Place) (text : List ℕ) → Stands found text → AlwaysAre (wide_around web found text)
always_wide web None text stands = always_plain web text
always_wide web (Some s) text stands =
    always_three s text (plain_parts web (take s.at text)) (wide_parts web (take s.len (drop s.at text))) (whole_plain web (take s.at text)) (always_plain web (take s.at text)) (between_wide web (take s.len (drop s.at text))) stands

-- ---- a token in place of a user

-- the token that is found at the front of a text may be one
user_token : (web : Bool) (text : List ℕ) → begins_with_token web text ≡ true → MayBeToken (take (user_len text) text)
user_token web text is =
    let either = (and_parts (is_some (last_mark mark.At text)) (begins_as_token (take (user_len text) text) || (web && is_long_user text)) is).1 in
    elim (or_cases (begins_as_token (take (user_len text) text)) (web && is_long_user text) either) [
      | inl begins ↦ inl begins
      | inr other ↦
          let long = (and_parts web (is_long_user text) other).1 in
          let least = leb-true least_user (user_len text) ((and_parts (nat_le least_user (user_len text)) (is_beside_token (password text) text) long).0) in
          inr (subst (λ n. least_user ≤ n) (sym (length-take-le (user_len text) text (user_within text))) least)
    ]

-- a word that may be a token, hidden
hidden_token : (word : List ℕ) → MayBeToken word → AlwaysAre (hidden_part secret.Token word)
hidden_token [] may before after = tt
hidden_token (b ∷ bs) may before after = (may, tt)

-- what is hidden in place of a user, if it is known whether the text begins with a token
token_by : (web : Bool) (front more text : List ℕ) (is : Bool) → text ≡ front ++ more → begins_with_token web front ≡ is → AlwaysAre (hidden_part secret.Token (take (if is then user_len front else 0) text))
token_by web front more text true cut e before after =
    let same : take (user_len front) text ≡ take (user_len front) front = ap (take (user_len front)) cut ∙ take-append-le (user_len front) front more (user_within front) in
    hidden_token (take (user_len front) text) (subst MayBeToken (sym same) (user_token web front e)) before after
token_by web front more text false cut e before after = tt

-- what is hidden in place of a user may be a token
always_token : (web : Bool) (front more text : List ℕ) → text ≡ front ++ more → AlwaysAre (hidden_part secret.Token (take (token_len web front) text))
always_token web front more text cut = token_by web front more text (begins_with_token web front) cut refl

-- ---- texts

-- the text before a path, and the rest
before_cut : (web : Bool) (text : List ℕ) → (more : List ℕ) × (text ≡ before_path web text ++ more)
before_cut web text = (_, sym (take-append-drop _ text))

-- a text after a token
always_named : (web is_url : Bool) (text : List ℕ) → AlwaysAre (named_parts web is_url text)
always_named web true text =
    let (more, cut) = before_cut web text in
    always_wide web (wide_in (before_path web text) text) text (wide_stands (before_path web text) more text cut)
always_named web false text =
    let n = scp_len (before_path web text) in
    always_both (tokens (take n text)) (plain_parts web (drop n text)) (always_tokens (take n text)) (always_plain web (drop n text))

-- a text whose authority, user or path begins at an index
always_at : (web is_url : Bool) (at : ℕ) (text : List ℕ) → AlwaysAre (parts_at web is_url at text)
always_at web is_url at text =
    let rest = drop at text in
    let len = token_len (ends_as_web (take at text)) (before_path web rest) in
    let (more, cut) = before_cut web rest in
    always_both (plain_parts web (take at text)) (user_parts web is_url len rest) (always_plain web (take at text))
    (always_both (hidden_part secret.Token (take len rest)) (named_parts web is_url (drop len rest))
    (always_token (ends_as_web (take at text)) (before_path web rest) more rest cut) (always_named web is_url (drop len rest)))

-- a text without the name of a helper
always_after : (helper : ℕ) (found : Option ℕ) (text : List ℕ) → AlwaysAre (parts_after helper found text)
always_after helper None text = always_at (is_web (drop helper text)) false (helper + bare_scheme_len (drop helper text)) text
always_after helper (Some n) text = always_at (is_web (drop helper text)) true (helper + mark_end mark.Authority (drop helper text) n) text

-- nothing is hidden but what may be a secret
pub only_secrets : OnlySecrets
only_secrets text = always_after (helper_len text) (first_mark mark.Authority (drop (helper_len text) text)) text [] []
