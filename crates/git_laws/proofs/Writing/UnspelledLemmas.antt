-- A settled location without its spelling: of URLs outside HTTP and files the path decides whether it is
-- settled, and of all others it is.
use Rattle.std.proofs.Common.{◌≡◌, ℕ, Bool, true, false, not, ◌==◌, inl, inr, List, [], ◌∷◌, ◌++◌, length, length-append, Option, Some, None, refl, sym, ap, subst, ◌∙◌, arith}
use Rattle.std.proofs.lemmas.Bool.Decides.{nat_tests}
use Rattle.std.proofs.lemmas.Bool.{false≢true}
use Rattle.std.proofs.lemmas.Option.{none-some}
use Rattle.percent_encoding.specs.Percent.{percent_decode}
use Rattle.git_syntax.specs.Location.{Scheme, Location, fields}
use Rattle.git_syntax.specs.Location.Scheme.{file, git, ssh, http, https, ext, helper, helper_url}
use Rattle.git_syntax.specs.Bytes.{slash, tilde, begins_by, LacksWhiteSpace, is_path_start, StartsPath}
use Rattle.git_syntax.specs.Escapes.{has_percent}
use Rattle.git_syntax.specs.Schemes.{is_web_scheme, scheme_text}
use Rattle.git_syntax.specs.Authority.{FitsText}
use Rattle.git_syntax.specs.Grammar.{path_for}
use Rattle.git_syntax.specs.Hosts.{port_part}
use Rattle.git_location.specs.Text.{user_information, host_part, root_part, plain_path, canonical_path, canonical_text}
use Rattle.git_location.specs.Settled.{IsValue, HasMatch, HasFittingText, IsSettledUrl, IsTransportPath, IsSettledWeb, IsSettledSecure, IsSettledGit, IsSettledHelperUrl, IsSettledBy, IsWeb, HasUrlPath}
use Rattle.git_location.specs.Internal.SettledPieces.{IsWrittenAsUrl}
use Rattle.git_laws.specs.Safeguards.{WebSettledWithoutSpelling, SettledWithoutSpelling, is_raw_url}
use Rattle.git_syntax.proofs.Texts.EscapeLemmas.{decode_empty, encode_empty}
use Rattle.git_laws.proofs.Writing.WrittenUrlLemmas.{IsReadable, authority_text}
use Rattle.git_laws.proofs.Writing.WrittenPathLemmas.{web_path_written, transport_path_written, other_path_written}
use Rattle.git_laws.proofs.Writing.KeptLemmas.{settled_by_fields}
use Rattle.git_laws.proofs.Writing.AgainLemmas.{web_readable, secure_readable, git_readable, other_readable, other_scheme}
use Rattle.git_laws.proofs.Writing.StrippedLemmas.{IsFront, IsShortFront, authority_front, authority_short, scheme_short, text_fits}
use Rattle.git_location.proofs.Writing.WrittenAsUrlLemmas.{written_web, written_git, written_secure, written_other}

-- ---- the text

-- a host is written the same
host_unspelled : (v : Location) (host : Option (List ℕ)) → host_part (fields v) host ≡ host_part v host
host_unspelled v host = grind arith

-- so is the authority
authority_unspelled : (v : Location) → authority_text (fields v) ≡ authority_text v
authority_unspelled v = ap (λ h. user_information v.user v.password ++ (h ++ port_part v.port)) (host_unspelled v v.host)

-- with a host, and a path that starts as one may, the text is short enough
unspelled_fits : (v : Location) (named : List ℕ) → IsReadable v (Some named) → StartsPath (is_web_scheme (scheme_text v.scheme)) (canonical_path (fields v)) → (canonical_path (fields v) ≡ [] → canonical_path v ≡ []) → FitsText (canonical_text (fields v))
unspelled_fits v named r starts empty =
    let web = is_web_scheme (scheme_text v.scheme) in
    let same = sym (authority_unspelled v) in
    let short = authority_short v named r in
    let known : IsShortFront (authority_text v) (canonical_path (fields v)) = record { front = short.front; whole = λ none. short.whole (empty none) } in
    text_fits (fields v) r.scheme.scheme_text (scheme_short v named r) (subst (λ a. IsFront web a) same (authority_front v named r)) starts (subst (λ a. IsShortFront a (canonical_path (fields v))) same known)

-- a text with nothing before or after it
right_empty : (x y : List ℕ) → x ++ y ≡ [] → y ≡ []
right_empty x [] e = refl
right_empty x (b ∷ y) e = absurd (omega (arith, ap length e, length-append x (b ∷ y)))

-- only an empty path is written as nothing
plain_empty : (p : Scheme) (path : List ℕ) → plain_path p path ≡ [] → path ≡ []
plain_empty p path e = grind (arith, nat_tests, encode_empty)

path_empty : (v : Location) → canonical_path (fields v) ≡ [] → v.path ≡ []
path_empty v e = plain_empty v.scheme v.path (right_empty (root_part v) (plain_path v.scheme v.path) e)

-- a path that begins with a byte is written as something
begins_written : {A : Type 0} (test : ℕ → Bool) (v : Location) → begins_by test v.path ≡ true → canonical_path (fields v) ≡ [] → A
begins_written test v begins e = absurd (false≢true (sym (ap (begins_by test) (path_empty v e)) ∙ begins))

-- ---- the common conditions of settled URLs

-- without a spelling none matches
no_match : (v : Location) → ¬ HasMatch (fields v)
no_match v (s, e, same) = none-some s e

-- the path is text
url_path : (v : Location) → IsSettledUrl v → HasUrlPath (fields v)
url_path v h = record { path_text = h.path.path_text; spelling = λ s e same. absurd (none-some s e) }

-- the location has a text that is short enough
fitting : (v : Location) → IsSettledUrl v → IsWrittenAsUrl (fields v) → FitsText (canonical_text (fields v)) → HasFittingText (fields v)
fitting v h written fits = (canonical_text (fields v), written.canonical h.unflagged h.hosted, fits)

-- all else stays
url_unspelled : (v : Location) → IsSettledUrl v → HasFittingText (fields v) → IsSettledUrl (fields v)
url_unspelled v h fits = record { unflagged = h.unflagged; credentials = h.credentials; hosted = h.hosted; path = url_path v h; fits = fits }

-- ---- each kind of URL

-- the scheme is one of HTTP
web_named : (v : Location) → IsWeb v → is_web_scheme (scheme_text v.scheme) ≡ true
web_named v h = grind arith

-- HTTP
web_unspelled : (v : Location) → IsWeb v → IsValue v → IsSettledWeb v → IsSettledWeb (fields v)
web_unspelled v web is h =
    let (named, r) = web_readable v web is h in
    let path = web_path_written (fields v) web h.path (url_path v h.common) in
    let starts = subst (λ b. StartsPath b (canonical_path (fields v))) (sym (web_named v web)) path.starts in
    let fits = unspelled_fits v named r starts (λ e. begins_written (is_path_start true) v h.path e) in
    record { common = url_unspelled v h.common (fitting v h.common (written_web (fields v) web) fits); host = h.host; port = h.port; path = h.path }

-- a path of Git's own transports
transport_unspelled : (v : Location) → IsTransportPath v → IsTransportPath (fields v)
transport_unspelled v h = grind arith

-- is written as something
transport_written : {A : Type 0} (v : Location) → IsTransportPath v → canonical_path (fields v) ≡ [] → A
transport_written v (inl rooted) e = begins_written (λ b. b == slash) v rooted.0 e
transport_written v (inr home) e = begins_written (λ b. b == tilde) v home.0 e

-- Secure Shell
secure_unspelled : (v : Location) → v.scheme ≡ ssh → IsValue v → IsSettledSecure v → (has_percent v.path ≡ false) × LacksWhiteSpace v.path → IsSettledSecure (fields v)
secure_unspelled v e is h raw =
    let (named, r) = secure_readable v e is h in
    let path = transport_unspelled v h.path in
    let written = transport_path_written (fields v) (inl e) path (url_path v h.url.common) (λ none. raw) in
    let starts = subst (λ b. StartsPath b (canonical_path (fields v))) (sym (ap (λ p. is_web_scheme (scheme_text p)) e)) written.0.starts in
    let fits = unspelled_fits v named r starts (λ empty. transport_written v h.path empty) in
    record { url = record { common = url_unspelled v h.url.common (fitting v h.url.common (written_secure (fields v) e path) fits); raw = λ none. raw }; host = h.host; path = path }

-- Git's own protocol
git_unspelled : (v : Location) → v.scheme ≡ git → IsValue v → IsSettledGit v → (has_percent v.path ≡ false) × LacksWhiteSpace v.path → IsSettledGit (fields v)
git_unspelled v e is h raw =
    let (named, r) = git_readable v e is h in
    let path = transport_unspelled v h.path in
    let written = transport_path_written (fields v) (inr e) path (url_path v h.url.common) (λ none. raw) in
    let starts = subst (λ b. StartsPath b (canonical_path (fields v))) (sym (ap (λ p. is_web_scheme (scheme_text p)) e)) written.0.starts in
    let fits = unspelled_fits v named r starts (λ empty. transport_written v h.path empty) in
    record { url = record { common = url_unspelled v h.url.common (fitting v h.url.common (written_git (fields v) e) fits); raw = λ none. raw }; host = h.host; path = path }

-- another scheme, if the text is short enough
other_unspelled : (name : List ℕ) (v : Location) → IsSettledHelperUrl name v → (has_percent v.path ≡ false) × LacksWhiteSpace v.path → HasFittingText (fields v) → IsSettledHelperUrl name (fields v)
other_unspelled name v h raw fits = grind arith

-- and with a host it is
other_fitting : (name : List ℕ) (v : Location) (host : Option (List ℕ)) → v.host ≡ host → v.scheme ≡ helper_url name → IsValue v → IsSettledHelperUrl name v → (has_percent v.path ≡ false) × LacksWhiteSpace v.path → (v.host ≡ None → HasFittingText (fields v)) → HasFittingText (fields v)
other_fitting name v None there e is h raw fits = fits there
other_fitting name v (Some host) there e is h raw fits =
    let r = other_readable name v (Some host) e there is h in
    let written = other_path_written (fields v) name e h.path (url_path v h.url.common) (λ none. raw) in
    let named = ap (λ p. is_web_scheme (scheme_text p)) e ∙ (other_scheme name h.unknown).not_web in
    let starts = subst (λ b. StartsPath b (canonical_path (fields v))) (sym named) written.0.starts in
    let decoded : percent_decode (canonical_path v) ≡ v.path = sym (ap (λ p. path_for p (percent_decode (canonical_path v))) e) ∙ r.path.denoted in
    fitting v h.url.common (written_other (fields v) name e h.scheme_text)
    (unspelled_fits v host r starts (λ empty. decode_empty (canonical_path v) (decoded ∙ path_empty v empty)))

-- ---- all kinds

-- a location settled without its spelling needs none
needs_none : (p : Scheme) (v : Location) → IsSettledBy p (fields v) → is_raw_url p v.flag ≡ true → ((has_percent v.path ≡ false) × LacksWhiteSpace v.path) × HasFittingText (fields v)
needs_none p v h kind = grind arith

-- and a text that needs none is settled without it
unspelled_by : (p : Scheme) (v : Location) → v.scheme ≡ p → IsValue v → IsSettledBy p v → (is_raw_url p v.flag ≡ true → (has_percent v.path ≡ false) × LacksWhiteSpace v.path) → (is_raw_url p v.flag ≡ true → v.host ≡ None → HasFittingText (fields v)) → IsSettledBy p (fields v)
unspelled_by file v e is (inl h) raw fits = settled_by_fields file (fields v) v refl h.bare.0 (inl h)
unspelled_by file v e is (inr h) raw fits = inr record {
  unflagged = h.unflagged;
  alone = h.alone;
  no_match = no_match v;
  host = h.host;
  path_text = h.path_text;
  rooted = h.rooted;
}
unspelled_by ssh v e is (inl h) raw fits = inl record { flagged = h.flagged; no_password = h.no_password; no_port = h.no_port; path = h.path; user = h.user; host = h.host }
unspelled_by ssh v e is (inr h) raw fits = inr (secure_unspelled v e is h (raw (ap not h.url.common.unflagged)))
unspelled_by git v e is h raw fits = git_unspelled v e is h (raw refl)
unspelled_by http v e is h raw fits = web_unspelled v (inl e) is h
unspelled_by https v e is h raw fits = web_unspelled v (inr e) is h
unspelled_by ext v e is h raw fits = settled_by_fields ext (fields v) v refl refl h
unspelled_by (helper name) v e is h raw fits = settled_by_fields (helper name) (fields v) v refl refl h
unspelled_by (helper_url name) v e is h raw fits = other_unspelled name v h (raw refl) (other_fitting name v v.host refl e is h (raw refl) (fits refl))

-- a settled location is settled without its spelling exactly there
pub without_spelling : SettledWithoutSpelling
without_spelling = grind (arith, nat_tests, needs_none, unspelled_by)

-- one of HTTP always is
pub web_without_spelling : WebSettledWithoutSpelling
web_without_spelling = grind (arith, nat_tests, web_unspelled)
