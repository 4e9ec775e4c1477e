-- The rest of a text is split like the text.
use Rattle.std.proofs.Common.{◌≡◌, ◌∙◌, ℕ, ◌+◌, Bool, true, false, List, [], ◌++◌, take, drop, Some, None, sym, ap}
use Rattle.std.specs.Borrow.{Bor}
use Rattle.git_secrets.specs.declared.Secret.TheVariants as secret
use Rattle.git_secrets.specs.declared.mark.Mark.TheVariants as mark
use Rattle.git_secrets.specs.declared.left.Left.{Left}
use Rattle.git_secrets.specs.Left.{after_run, left, run_left}
use Rattle.git_secrets.specs.Secrets.{Part, bare_scheme_len, before_path, ends_as_web, first_mark, helper_len, hidden_part, is_web, mark_end, named_parts, parts_after, parts_at, parts_of, plain_parts, token_len, tokens, wide_parts}

-- the pieces of the rest after its token
abbrev after_token : Left → List Part
after_token l = tokens l.scp.now ++ (plain_parts l.web l.plain.now ++ (wide_parts l.web l.wide.now ++ tokens l.end.now))

-- nothing of a run is left
abbrev pub IsBare : Left → Type 0
IsBare l = (l.run.words.now ≡ []) × (l.run.password.now ≡ []) × (l.run.more.now ≡ []) × (l.front.now ≡ []) × (l.token.now ≡ [])

no_run : (l : Left) → IsBare l → (rest : List Part) → run_left l.run ++ rest ≡ rest
no_run l bare rest =
    ap (λ w. (tokens w ++ (hidden_part secret.Password l.run.password.now ++ tokens l.run.more.now)) ++ rest) bare.0
    ∙ ap (λ p. (hidden_part secret.Password p ++ tokens l.run.more.now) ++ rest) bare.1
    ∙ ap (λ m. tokens m ++ rest) bare.2

no_front : (l : Left) → IsBare l → left l ≡ after_token l
no_front l bare =
    no_run l bare (after_run l)
    ∙ ap (λ f. plain_parts l.web f ++ (hidden_part secret.Token l.token.now ++ after_token l)) bare.3
    ∙ ap (λ t. hidden_part secret.Token t ++ after_token l) bare.4

-- with a front and a token
pub fronted : (l : Left) (front token : Bor (List ℕ)) (web is_url : Bool) (at len : ℕ) (text : List ℕ) → IsBare l → l.web ≡ web → front.now ≡ take at text → token.now ≡ take len (drop at text) → len ≡ token_len (ends_as_web (take at text)) (before_path web (drop at text)) → left l ≡ named_parts web is_url (drop len (drop at text)) → left (record l { front = front; token = token }) ≡ parts_at web is_url at text
fronted l front token web is_url at len text bare same is_front is_token is_len parts =
    let rest = drop at text in
    let more : after_token l ≡ named_parts web is_url (drop len rest) = sym (no_front l bare) ∙ parts in
    no_run l bare (plain_parts l.web front.now ++ (hidden_part secret.Token token.now ++ after_token l))
    ∙ ap (λ t. plain_parts l.web front.now ++ (hidden_part secret.Token token.now ++ t)) more
    ∙ ap (λ t. plain_parts l.web front.now ++ (hidden_part secret.Token t ++ named_parts web is_url (drop len rest))) is_token
    ∙ ap (λ t. plain_parts l.web t ++ (hidden_part secret.Token (take len rest) ++ named_parts web is_url (drop len rest))) is_front
    ∙ ap (λ t. plain_parts t (take at text) ++ (hidden_part secret.Token (take len rest) ++ named_parts web is_url (drop len rest))) same
    ∙ ap (λ n. plain_parts web (take at text) ++ (hidden_part secret.Token (take n rest) ++ named_parts web is_url (drop n rest))) is_len

-- a text without `://`
pub of_bare : (text url : List ℕ) (helper bare : ℕ) (web : Bool) → helper ≡ helper_len text → url ≡ drop helper text → None ≡ first_mark mark.Authority url → web ≡ is_web url → bare ≡ bare_scheme_len url → parts_at web false (helper + bare) text ≡ parts_of text
of_bare text url helper bare web is_helper is_url none is_web_url is_bare =
    ap (λ w. parts_at w false (helper + bare) text) is_web_url
    ∙ ap (λ n. parts_at (is_web url) false (helper + n) text) is_bare
    ∙ ap (λ u. parts_at (is_web u) false (helper + bare_scheme_len u) text) is_url
    ∙ ap (λ f. parts_after helper f text) (none ∙ ap (first_mark mark.Authority) is_url)
    ∙ ap (λ h. parts_after h (first_mark mark.Authority (drop h text)) text) is_helper

-- a text with its first `://` at an index
pub of_url : (text url : List ℕ) (helper at end : ℕ) (web : Bool) → helper ≡ helper_len text → url ≡ drop helper text → Some at ≡ first_mark mark.Authority url → web ≡ is_web url → end ≡ mark_end mark.Authority url at → parts_at web true (helper + end) text ≡ parts_of text
of_url text url helper at end web is_helper is_url some is_web_url is_end =
    ap (λ w. parts_at w true (helper + end) text) is_web_url
    ∙ ap (λ n. parts_at (is_web url) true (helper + n) text) is_end
    ∙ ap (λ u. parts_at (is_web u) true (helper + mark_end mark.Authority u at) text) is_url
    ∙ ap (λ f. parts_after helper f text) (some ∙ ap (first_mark mark.Authority) is_url)
    ∙ ap (λ h. parts_after h (first_mark mark.Authority (drop h text)) text) is_helper
