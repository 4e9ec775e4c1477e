-- The password of a URL lies in a piece that is hidden as one.
use Rattle.std.proofs.Common.{◌≡◌, ◌∙◌, ℕ, ◌+◌, ◌<◌, ◌≤◌, Bool, true, false, List, [], ◌∷◌, ◌++◌, length, take, drop, codes, ◌-◌, if◌then◌else◌, Option, Some, None, refl, sym, ap, subst, arith, append_assoc, length-append}
use Rattle.std.specs.Option.{unwrap_or}
use Rattle.std.proofs.Math.Seq.{drop-append_seam, take-append_seam}
use Rattle.std.proofs.lemmas.List.{drop-append-le, length-drop, length-take-le, take-append-drop}
use Rattle.std.proofs.lemmas.Option.{same_Some, none-some}
use Rattle.git_syntax.specs.Bytes.{FreeOf, Lacks, StartsPath, colon, at_sign, is_path_start}
use Rattle.git_syntax.specs.Schemes.{is_web_scheme}
use Rattle.git_syntax.specs.Grammar.{HasHelperForm}
use Rattle.git_syntax.specs.Flaws.{UrlCut}
use Rattle.git_syntax.proofs.Texts.CutLemmas.{lacks_parts, scheme_text_free}
use Rattle.git_parts.specs.declared.parts.Span.{Span}
use Rattle.git_parts.specs.declared.parts.Parts.{Parts}
use Rattle.git_parts.specs.Parts.{AuthoritySpans, HasParts, UserSpans, span}
use Rattle.git_secrets.specs.PasswordLaws.{HidesPasswords, LiesHidden}
use Rattle.git_secrets.specs.declared.Secret.{Secret}
use Rattle.git_secrets.specs.declared.Secret.TheVariants as secret
use Rattle.git_secrets.specs.declared.mark.Class.TheVariants as class
use Rattle.git_secrets.specs.declared.mark.Mark.TheVariants as mark
use Rattle.git_secrets.specs.Secrets.{Part, before_path, ends_as_web, hidden, hidden_part, joined, named_parts, parts_at, parts_of, parts_of_runs, password, plain_parts, begins_with_token, run_parts, runs, token_len, tokens, user_len, user_parts, wide_around, wide_in}
use Rattle.git_secrets.proofs.Cuts.JoinLemmas.{joined_both, whole_hidden, whole_plain, whole_tokens}
use Rattle.git_secrets.proofs.Cuts.LeftLemmas.{of_url}
use Rattle.git_secrets.proofs.Cuts.PlaceLemmas.{FoundWithin, PasswordFound, authority_of, found_within, none_wide, password_found, password_is}
use Rattle.git_secrets.proofs.Cuts.RunLemmas.{before_path_is, front_run}
use Rattle.git_secrets.proofs.Cuts.UrlLemmas.{first_authority, no_helper_len, web_by_scheme}

-- ---- pieces that hide some bytes

-- a piece is hidden as a password, and the bytes from an index to another lie in it
abbrev pub Hides : List Part → ℕ → ℕ → Type 0
Hides parts from to = (fronts : List Part) × (bytes : List ℕ) × (rest : List Part)
    × (parts ≡ fronts ++ hidden secret.Password bytes ∷ rest)
    × (length (joined fronts) ≤ from) × (to ≤ length (joined fronts) + length bytes)

-- the same by other names of the indexes
moved : (parts : List Part) (from start to end : ℕ) → from ≡ start → to ≡ end → Hides parts from to → Hides parts start end
moved parts from start to end e f (fronts, bytes, rest, cut, starts, ends) = (fronts, bytes, rest, cut, omega (arith, e, starts), omega (arith, f, ends))

-- the same with pieces before it
hides_after : (before parts : List Part) (n from to : ℕ) → length (joined before) ≡ n → Hides parts from to → Hides (before ++ parts) (n + from) (n + to)
hides_after before parts n from to size (fronts, bytes, rest, e, starts, ends) =
    let long : length (joined (before ++ fronts)) ≡ length (joined before) + length (joined fronts) = ap length (joined_both before fronts) ∙ length-append (joined before) (joined fronts) in
    (before ++ fronts, bytes, rest, ap (λ t. before ++ t) e ∙ sym (append_assoc before fronts (hidden secret.Password bytes ∷ rest)), omega (arith, long, size, starts), omega (arith, long, size, ends))

-- the same with pieces after it
hides_before : (parts after : List Part) (from to : ℕ) → Hides parts from to → Hides (parts ++ after) from to
hides_before parts after from to (fronts, bytes, rest, e, starts, ends) =
    (fronts, bytes, rest ++ after, ap (λ t. t ++ after) e ∙ append_assoc fronts (hidden secret.Password bytes ∷ rest) after, starts, ends)

-- ---- a run

-- a hidden piece that isn't empty
hidden_some : (kind : Secret) (bytes : List ℕ) → 0 < length bytes → hidden_part kind bytes ≡ hidden kind bytes ∷ []
hidden_some kind [] some = absurd (omega arith)
hidden_some kind (b ∷ bytes) some = refl

-- a run whose password was found
run_hides : (text : List ℕ) (from to : ℕ) → from < to → PasswordFound text from to → Hides (run_parts (password text) text) from to
run_hides text from to some found =
    let at = found.at in
    let len = found.len in
    let bytes = take len (drop at text) in
    let fronts = tokens (take at text) in
    let rest = tokens (drop len (drop at text)) in
    let size : length bytes ≡ len = length-take-le len (drop at text) (omega (arith, found.within, length-drop at text)) in
    let front : length (joined fronts) ≡ at = ap length (whole_tokens (take at text)) ∙ length-take-le at text (omega (arith, found.within)) in
    let cut : run_parts (password text) text ≡ fronts ++ hidden secret.Password bytes ∷ rest =
    ap (λ s. run_parts s text) (password_is text from to found)
    ∙ ap (λ t. fronts ++ (t ++ rest)) (hidden_some secret.Password bytes (omega (arith, size, some, found.starts_before, found.ends_after))) in
    (fronts, bytes, rest, cut, omega (arith, front, found.starts_before), omega (arith, front, size, found.ends_after))

-- ---- an authority

-- an authority with a password and a path after it
named_hides : (web : Bool) (u w piece path : List ℕ) → 0 < length w → Lacks (is_path_start web) (authority_of u w piece) → StartsPath web path → Hides (named_parts web true (authority_of u w piece ++ path)) (length u + 1) (length u + 1 + length w)
named_hides web u w piece path some lacks starts =
    let authority = authority_of u w piece in
    let text = authority ++ path in
    let from = length u + 1 in
    let to = length u + 1 + length w in
    let found : PasswordFound authority from to = password_found u w piece in
    let narrow : wide_in (before_path web text) text ≡ None =
    ap (λ a. wide_in a text) (before_path_is web authority path lacks starts) ∙ none_wide authority text from to found in
    let full : 0 < length authority = omega (arith, length-append (u ++ colon ∷ w) (at_sign ∷ piece)) in
    let parts : named_parts web true text ≡ run_parts (password authority) authority ++ parts_of_runs (runs (class.Path web) path) =
    ap (λ s. wide_around web s text) narrow ∙ ap parts_of_runs (front_run (class.Path web) authority path full lacks starts) in
    subst (λ t. Hides t from to) (sym parts) (hides_before (run_parts (password authority) authority) (parts_of_runs (runs (class.Path web) path)) from to
    (run_hides authority from to (omega (arith, some)) found))

-- ---- a user

-- a user at the front of an authority with a password is at most as long as the text before the colon
user_within : (u w piece : List ℕ) → user_len (authority_of u w piece) ≤ length u
user_within u w piece =
    let text = authority_of u w piece in
    let whole : text ≡ u ++ colon ∷ (w ++ at_sign ∷ piece) = append_assoc u (colon ∷ w) (at_sign ∷ piece) in
    let (k, found, within) = subst (λ t. FoundWithin mark.UserEnd t (length u)) (sym whole) (found_within mark.UserEnd u (w ++ at_sign ∷ piece) colon refl) in
    omega (arith, within, ap (λ f. unwrap_or f (length text)) found)

-- a length that is taken or not
token_by : (is : Bool) (n m : ℕ) → n ≤ m → (if is then n else 0) ≤ m
token_by true n m within = within
token_by false n m within = omega arith

-- so is a token in place of a user
token_within : (web : Bool) (u w piece : List ℕ) → token_len web (authority_of u w piece) ≤ length u
token_within web u w piece = token_by (begins_with_token web (authority_of u w piece)) (user_len (authority_of u w piece)) (length u) (user_within u w piece)

-- an authority without so many bytes of its user
drop_user : (k : ℕ) (u w piece path : List ℕ) → k ≤ length u → drop k (authority_of u w piece ++ path) ≡ authority_of (drop k u) w piece ++ path
drop_user k u w piece path within =
    let information = u ++ colon ∷ w in
    let long : length information ≡ length u + (length w + 1) = omega (arith, length-append u (colon ∷ w)) in
    drop-append-le k (information ++ at_sign ∷ piece) path (omega (arith, within, long, length-append information (at_sign ∷ piece)))
    ∙ ap (λ t. t ++ path) (drop-append-le k information (at_sign ∷ piece) (omega (arith, within, long)))
    ∙ ap (λ t. (t ++ at_sign ∷ piece) ++ path) (drop-append-le k u (colon ∷ w) within)

-- which lacks what the authority lacks
lacks_rest : (test : ℕ → Bool) (k : ℕ) (u w piece : List ℕ) → k ≤ length u → Lacks test (authority_of u w piece) → Lacks test (authority_of (drop k u) w piece)
lacks_rest test k u w piece within lacks =
    let whole : authority_of u w piece ≡ take k u ++ authority_of (drop k u) w piece =
    ap (λ t. authority_of t w piece) (sym (take-append-drop k u)) ∙ ap (λ t. t ++ at_sign ∷ piece) (append_assoc (take k u) (drop k u) (colon ∷ w)) ∙ append_assoc (take k u) (drop k u ++ colon ∷ w) (at_sign ∷ piece) in
    (lacks_parts test (take k u) (authority_of (drop k u) w piece) (subst (λ t. Lacks test t) whole lacks)).1

-- with bytes of its user hidden as a token, the password is hidden after them
user_hides : (web : Bool) (k : ℕ) (u w piece path : List ℕ) → k ≤ length u → 0 < length w → Lacks (is_path_start web) (authority_of u w piece) → StartsPath web path → Hides (user_parts web true k (authority_of u w piece ++ path)) (length u + 1) (length u + 1 + length w)
user_hides web k u w piece path within some lacks starts =
    let authority = authority_of u w piece in
    let text = authority ++ path in
    let user = drop k u in
    let left : length user ≡ length u - k = length-drop k u in
    let cut : drop k text ≡ authority_of user w piece ++ path = drop_user k u w piece path within in
    let rest_lacks : Lacks (is_path_start web) (authority_of user w piece) = lacks_rest (is_path_start web) k u w piece within lacks in
    let named : Hides (named_parts web true (drop k text)) (length user + 1) (length user + 1 + length w) =
    subst (λ t. Hides (named_parts web true t) (length user + 1) (length user + 1 + length w)) (sym cut) (named_hides web user w piece path some rest_lacks starts) in
    let size : length (joined (hidden_part secret.Token (take k text))) ≡ k = ap length (whole_hidden secret.Token (take k text)) ∙ length-take-le k text (omega (arith, within, length-append authority path, length-append (u ++ colon ∷ w) (at_sign ∷ piece), length-append u (colon ∷ w))) in
    moved (user_parts web true k text) _ _ _ _ (omega (arith, left, within)) (omega (arith, left, within))
    (hides_after (hidden_part secret.Token (take k text)) (named_parts web true (drop k text)) k (length user + 1) (length user + 1 + length w) size named)

-- ---- a URL

-- pieces of which the password is hidden after a front
at_hides : (web : Bool) (at n : ℕ) (text : List ℕ) (from to : ℕ) → length (take at text) ≡ n → Hides (user_parts web true (token_len (ends_as_web (take at text)) (before_path web (drop at text))) (drop at text)) from to → Hides (parts_at web true at text) (n + from) (n + to)
at_hides web at n text from to size hides =
    hides_after (plain_parts web (take at text)) (user_parts web true (token_len (ends_as_web (take at text)) (before_path web (drop at text))) (drop at text)) n from to (ap length (whole_plain web (take at text)) ∙ size) hides

-- a URL with a password
abbrev url_of : List ℕ → List ℕ → List ℕ → List ℕ → List ℕ → List ℕ
url_of scheme u w piece path = scheme ++ (codes "://" ++ (authority_of u w piece ++ path))

-- its pieces are split before its authority
url_parts : (scheme u w piece path : List ℕ) → FreeOf colon scheme → ¬ HasHelperForm (url_of scheme u w piece path) → parts_at (is_web_scheme scheme) true (length scheme + 3) (url_of scheme u w piece path) ≡ parts_of (url_of scheme u w piece path)
url_parts scheme u w piece path free none =
    let text = url_of scheme u w piece path in
    let rest = authority_of u w piece ++ path in
    ap (λ n. parts_at (is_web_scheme scheme) true n text) {y = 0 + (length scheme + 3)} (omega arith)
    ∙ of_url text text 0 (length scheme) (length scheme + 3) (is_web_scheme scheme) (sym (no_helper_len text none)) refl (sym (first_authority scheme rest free)) (sym (web_by_scheme scheme rest free)) refl

-- its password is hidden
url_hides : (scheme u w piece path : List ℕ) → FreeOf colon scheme → ¬ HasHelperForm (url_of scheme u w piece path) → 0 < length w → Lacks (is_path_start (is_web_scheme scheme)) (authority_of u w piece) → StartsPath (is_web_scheme scheme) path
    → Hides (parts_of (url_of scheme u w piece path)) (length scheme + 3 + (length u + 1)) (length scheme + 3 + (length u + 1 + length w))
url_hides scheme u w piece path free none some lacks starts =
    let web = is_web_scheme scheme in
    let authority = authority_of u w piece in
    let rest = authority ++ path in
    let text = url_of scheme u w piece path in
    let front = scheme ++ codes "://" in
    let at = length scheme + 3 in
    let from = length u + 1 in
    let to = length u + 1 + length w in
    let size : length front ≡ at = length-append scheme (codes "://") in
    let whole : front ++ rest ≡ text = append_assoc scheme (codes "://") rest in
    let before : take at text ≡ front = ap (take at) (sym whole) ∙ ap (λ n. take n (front ++ rest)) (sym size) ∙ take-append_seam front rest in
    let after : drop at text ≡ rest = ap (drop at) (sym whole) ∙ ap (λ n. drop n (front ++ rest)) (sym size) ∙ drop-append_seam front rest in
    let ends = ends_as_web (take at text) in
    let user : Hides (user_parts web true (token_len ends (before_path web rest)) rest) from to =
    subst (λ a. Hides (user_parts web true (token_len ends a) rest) from to) (sym (before_path_is web authority path lacks starts))
    (user_hides web (token_len ends authority) u w piece path (token_within ends u w piece) some lacks starts) in
    let here : Hides (user_parts web true (token_len ends (before_path web (drop at text))) (drop at text)) from to =
    subst (λ t. Hides (user_parts web true (token_len ends (before_path web t)) t) from to) (sym after) user in
    subst (λ t. Hides t (at + from) (at + to)) (url_parts scheme u w piece path free none) (at_hides web at at text from to (ap length before ∙ size) here)

-- ---- the law

-- a URL that is cut
cut_hides : (b scheme u w piece path : List ℕ) → UrlCut b scheme (authority_of u w piece) path → 0 < length w → Hides (parts_of b) (length scheme + 3 + (length u + 1)) (length scheme + 3 + (length u + 1 + length w))
cut_hides b scheme u w piece path cut some =
    let form = cut.form.form in
    subst (λ t. Hides (parts_of t) (length scheme + 3 + (length u + 1)) (length scheme + 3 + (length u + 1 + length w))) (sym form.joined)
    (url_hides scheme u w piece path (scheme_text_free scheme colon cut.scheme_text refl) (subst (λ t. ¬ HasHelperForm t) form.joined form.no_helper) some cut.before_path cut.path_starts)

-- a password in user information lies in a hidden piece
user_lies : (b scheme authority path information piece : List ℕ) (user password : Option Span) (s : Span) → UrlCut b scheme authority path → authority ≡ information ++ at_sign ∷ piece → UserSpans (length scheme + 3) information user password → password ≡ Some s → 0 < s.len → LiesHidden b s
user_lies b scheme authority path information piece user password s cut e (UserSpans.alone free h p) is some = absurd (none-some s (sym p ∙ is))
user_lies b scheme authority path information piece user password s cut e (UserSpans.with_password u w free i h p) is some =
    let start = length scheme + 3 in
    let place : span (start + (length u + 1)) (length w) ≡ s = same_Some (span (start + (length u + 1)) (length w)) s (sym p ∙ is) in
    let whole : authority ≡ authority_of u w piece = e ∙ ap (λ t. t ++ at_sign ∷ piece) i in
    let full : 0 < length w = subst (λ (t : Span). 0 < t.len) (sym place) some in
    let hides = cut_hides b scheme u w piece path (subst (λ a. UrlCut b scheme a path) whole cut) full in
    subst (LiesHidden b) place (moved (parts_of b) (start + (length u + 1)) (start + (length u + 1)) (start + (length u + 1 + length w)) (start + (length u + 1) + length w) refl (omega arith) hides)

-- a password in an authority lies in a hidden piece
authority_lies : (b scheme authority path : List ℕ) (user password host port : Option Span) (s : Span) → UrlCut b scheme authority path → AuthoritySpans (length scheme + 3) authority user password host port → password ≡ Some s → 0 < s.len → LiesHidden b s
authority_lies b scheme authority path user password host port s cut (AuthoritySpans.alone free u p h) is some = absurd (none-some s (sym p ∙ is))
authority_lies b scheme authority path user password host port s cut (AuthoritySpans.with_user information piece free e u h) is some = user_lies b scheme authority path information piece user password s cut e u is some

-- parts without a password have none that lies elsewhere
no_password : (b : List ℕ) (parts : Parts) (s : Span) → parts.password ≡ None → parts.password ≡ Some s → LiesHidden b s
no_password b parts s none is = absurd (none-some s (sym none ∙ is))

-- a password lies in a piece that is hidden as one
pub passwords_hidden : HidesPasswords
passwords_hidden b parts s (HasParts.local l e) is some = no_password b parts s (ap (λ (p : Parts). p.password) e) is
passwords_hidden b parts s (HasParts.remote_helper name address cut e) is some = no_password b parts s (ap (λ (p : Parts). p.password) e) is
passwords_hidden b parts s (HasParts.ext_url rest f e) is some = no_password b parts s (ap (λ (p : Parts). p.password) e) is
passwords_hidden b parts s (HasParts.file_url host path f free begins e) is some = no_password b parts s (ap (λ (p : Parts). p.password) e) is
passwords_hidden b parts s (HasParts.url scheme authority path user password host port cut n spans e) is some =
    authority_lies b scheme authority path user password host port s cut spans (sym (ap (λ (p : Parts). p.password) e) ∙ is) some
passwords_hidden b parts s (HasParts.addressed user address path f e) is some = no_password b parts s (ap (λ (p : Parts). p.password) e) is
passwords_hidden b parts s (HasParts.scp front path user host f n spans e) is some = no_password b parts s (ap (λ (p : Parts). p.password) e) is
