-- A settled location without its password: the rest of its text is short
-- enough, so it is settled, unless its user is empty.
use Rattle.std.proofs.Common.{◌≡◌, ℕ, ◌+◌, ◌<◌, ◌≤◌, Bool, true, false, not, ◌⊎◌, inl, inr, List, [], ◌∷◌, ◌++◌, length, length-append, Option, Some, None, IsSome, IfSome, refl, sym, ap, subst, ◌∙◌, arith}
use Rattle.std.specs.List.{list_any, list_all}
use Rattle.std.specs.Char.{is_ascii_whitespace, is_whitespace}
use Rattle.std.proofs.lemmas.Bool.{cases_Bool, cond_both, and_parts, or_parts, or_from, both_ways, false≢true}
use Rattle.std.specs.Prelude.{◌==◌, is_some}
use Rattle.std.proofs.lemmas.Bool.Decides.{nat_tests}
use Rattle.std.proofs.lemmas.List.Elements.{filter-append}
use Rattle.std.proofs.lemmas.Option.{none-some}
use Rattle.std.proofs.lemmas.Str.{chars-IsAscii}
use Rattle.percent_encoding.specs.Percent.{percent_encode}
use Rattle.git_syntax.specs.Location.{Scheme, Location}
use Rattle.git_syntax.specs.Location.Scheme.{file, git, ssh, http, https, ext, helper, helper_url}
use Rattle.git_syntax.specs.Bytes.{slash, colon, at_sign, backslash, is_scheme_text, Lacks, FreeOf, begins_by, LacksWhiteSpace, is_path_start, StartsPath, is_any_slash}
use Rattle.git_syntax.specs.Escapes.{password_set, user_set}
use Rattle.git_syntax.specs.Hosts.{HostSyntax, SpellsHostPort, port_part}
use Rattle.git_syntax.specs.Hosts.SpellsHostPort.{nothing}
use Rattle.git_syntax.proofs.Parsing.HostLemmas.{names_unique}
use Rattle.git_syntax.specs.Schemes.{is_web_scheme, scheme_text}
use Rattle.git_syntax.specs.Authority.{Authority, without_white_space, IsWithinLimit, Fits, FitsText}
use Rattle.git_syntax.specs.Authority.Authority.{host_alone, with_user}
use Rattle.git_location.specs.Text.{user_information, host_part, canonical_path, canonical_text}
use Rattle.git_location.specs.Settled.{IsValue, IsSettledUrl, IsSettledWeb, IsSettledHelperUrl, IsSettledBy, IsSettled, IsWeb}
use Rattle.git_location.specs.Internal.SettledPieces.{IsWrittenAsUrl}
use Rattle.git_laws.specs.Safeguards.{SettledWithoutPassword}
use Rattle.git_syntax.proofs.Texts.CutLemmas.{lacks-append, lacks-cons, lacks_head_tail, lacks_parts, lacks_weaker, path_cut_unique, scheme_text_free}
use Rattle.git_syntax.proofs.Texts.EscapeLemmas.{ascii_byte, utf8_byte, white_space_parts}
use Rattle.git_syntax.proofs.Parsing.LengthLemmas.{fits_from_text, other_left_in, without_shorter}
use Rattle.git_laws.proofs.Writing.AgainLemmas.{web_readable, secure_readable, git_readable, other_readable}
use Rattle.git_laws.proofs.Writing.WrittenUrlLemmas.{IsReadable, authority_text, canonical_cut, web_starts}
use Rattle.git_location.proofs.Writing.WrittenAsUrlLemmas.{written_web, written_git, written_secure, written_other}

-- ---- the rest of a text without its white space

-- the length test keeps all but white space of ASCII
abbrev keeps : ℕ → Bool
keeps b = not (is_ascii_whitespace b)

-- the lengths of two parts make up that of both
kept_length : (x y : List ℕ) → length (without_white_space (x ++ y)) ≡ length (without_white_space x) + length (without_white_space y)
kept_length x y = ap length (filter-append keeps x y) ∙ length-append (without_white_space x) (without_white_space y)

-- the rest of a text lacks each byte that the text lacks
lacks_kept : (test : ℕ → Bool) (bs : List ℕ) → Lacks test bs → Lacks test (without_white_space bs)
lacks_kept test [] h = refl
lacks_kept test (b ∷ bs) h =
    let parts = lacks_head_tail test b bs h in
    let rest = lacks_kept test bs parts.1 in
    cond_both (keeps b) (b ∷ without_white_space bs) (without_white_space bs) (λ t. Lacks test t) (λ e. lacks-cons test b (without_white_space bs) parts.0 rest) (λ e. rest)

-- no path starts with white space
start_kept : (web : Bool) (b : ℕ) → is_path_start web b ≡ true → is_ascii_whitespace b ≡ false
start_kept true b h = grind (arith, nat_tests)
start_kept false b h = grind (arith, nat_tests)

-- so a path starts as it did
path_kept : (web : Bool) (p : List ℕ) → StartsPath web p → StartsPath web (without_white_space p)
path_kept web p h2 = grind (arith, nat_tests, other_left_in, start_kept)

-- and there is one if there was one
path_left : (web : Bool) (p : List ℕ) → StartsPath web p → without_white_space p ≡ [] → p ≡ []
path_left web p h2 h3 = grind (arith, nat_tests, length, other_left_in, start_kept)

-- the first byte of a text without white space is left
white_ascii : (b : ℕ) → is_ascii_whitespace b ≡ true → b < 128
white_ascii b h = grind (arith, nat_tests)

white_wide : (b : ℕ) → is_ascii_whitespace b ≡ true → is_whitespace b ≡ true
white_wide b h = grind (arith, nat_tests)

first_other : (b : ℕ) (bs : List ℕ) → LacksWhiteSpace (b ∷ bs) → is_ascii_whitespace b ≡ false
first_other b bs lacks =
    elim (cases_Bool (is_ascii_whitespace b)) [
      | inr other ↦ other
      | inl white ↦
          let ascii = white_ascii b white in
          let byte = (white_space_parts (b ∷ []) bs (utf8_byte b ascii) lacks).0 in
          let own : list_any is_whitespace (b ∷ []) ≡ false = ap (list_any is_whitespace) (sym (chars-IsAscii (b ∷ []) (ascii_byte b ascii))) ∙ byte in
          absurd (both_ways _ (or_parts (is_whitespace b) _ own).0 (white_wide b white))
    ]

some_left : (t : List ℕ) → LacksWhiteSpace t → 0 < length t → 0 < length (without_white_space t)
some_left [] lacks some = absurd (omega (arith, some))
some_left (b ∷ bs) lacks some = omega (arith, ap length (other_left_in b bs (first_other b bs lacks)))

-- ---- the front that counts

-- a text that the length test counts, before a path: it has no slash
-- and no start of a path, and isn't white space alone
pub record IsFront (web : Bool) (a : List ℕ) : Type 0 where
  pub no_slash : Lacks is_any_slash a
  pub before_path : Lacks (is_path_start web) a
  pub some : 0 < length (without_white_space a)

-- the front is no longer than the limit, and if no path is after it, nor is the whole
pub record IsShortFront (a p : List ℕ) : Type 0 where
  pub front : length (without_white_space a) ≤ 1024
  pub whole : p ≡ [] → length a ≤ 1024

-- slashes that a text without one begins with are none
no_slashes : (a rest slashes back : List ℕ) → Lacks is_any_slash a → 0 < length a → list_all is_any_slash slashes ≡ true → a ++ rest ≡ slashes ++ back → slashes ≡ []
no_slashes a rest [] back lacks some all e = refl
no_slashes [] rest (s ∷ slashes) back lacks some all e = absurd (omega (arith, some))
no_slashes (b ∷ a) rest (s ∷ slashes) back lacks some all e =
    let other = (lacks_head_tail is_any_slash b a lacks).0 in
    let same : b ≡ s = cc in
    absurd (both_ways _ other (ap is_any_slash same ∙ (and_parts (is_any_slash s) (list_all is_any_slash slashes) all).0))

-- the limit holds for the front, and if nothing is after it, for the whole
limit_front : (front back whole : List ℕ) → IsWithinLimit front back whole → length front ≤ length whole → length front ≤ 1024
limit_front front [] whole h shorter = omega (arith, h, shorter)
limit_front front (b ∷ back) whole h shorter = h

limit_whole : (front back whole : List ℕ) → IsWithinLimit front back whole → back ≡ [] → length whole ≤ 1024
limit_whole front [] whole h none = h
limit_whole front (b ∷ back) whole h none = absurd (omega (arith, ap length none))

limit_from : (front back whole : List ℕ) → length front ≤ 1024 → (back ≡ [] → length whole ≤ 1024) → IsWithinLimit front back whole
limit_from front [] whole short all = all refl
limit_from front (b ∷ back) whole short all = short

-- a text that is short enough has a short front
front_short : (scheme a p : List ℕ) → IsFront (is_web_scheme scheme) a → StartsPath (is_web_scheme scheme) p → Fits scheme (a ++ p) → IsShortFront a p
front_short scheme a p h starts fits =
    let web = is_web_scheme scheme in
    let front = without_white_space a in
    let path = without_white_space p in
    let whole : front ++ path ≡ fits.slashes ++ (fits.front ++ fits.back) = sym (filter-append keeps a p) ∙ fits.joined in
    let none = no_slashes front path fits.slashes (fits.front ++ fits.back) (lacks_kept is_any_slash a h.no_slash) h.some fits.skipped whole in
    let cut = path_cut_unique web front fits.front path fits.back (lacks_kept (is_path_start web) a h.before_path) fits.before_path (path_kept web p starts) fits.path (whole ∙ ap (λ s. s ++ (fits.front ++ fits.back)) none) in
    let shorter : length fits.front ≤ length (a ++ p) = omega (arith, ap length cut.0, without_shorter a, length-append a p) in
    record {
      front = omega (arith, ap length cut.0, limit_front fits.front fits.back (a ++ p) fits.short shorter);
      whole = λ empty. omega (arith, limit_whole fits.front fits.back (a ++ p) fits.short (sym cut.1 ∙ ap without_white_space empty), length-append a p);
    }

-- a front of a text that lacks such bytes is empty
begins_lacked : (test : ℕ → Bool) (x y : List ℕ) → Lacks test x → 0 < length x → begins_by test (x ++ y) ≡ false
begins_lacked test [] y lacks some = absurd (omega (arith, some))
begins_lacked test (b ∷ x) y lacks some = (lacks_head_tail test b x lacks).0

-- and a text with a short front is short enough
short_fits : (scheme a p : List ℕ) → length scheme ≤ 1024 → IsFront (is_web_scheme scheme) a → StartsPath (is_web_scheme scheme) p → IsShortFront a p → Fits scheme (a ++ p)
short_fits scheme a p known h starts short =
    let web = is_web_scheme scheme in
    record {
      slashes = [];
      front = without_white_space a;
      back = without_white_space p;
      scheme_length = known;
      joined = filter-append keeps a p;
      skipped = refl;
      reached = begins_lacked is_any_slash (without_white_space a) (without_white_space p) (lacks_kept is_any_slash a h.no_slash) h.some;
      before_path = lacks_kept (is_path_start web) a h.before_path;
      path = path_kept web p starts;
      short = limit_from (without_white_space a) (without_white_space p) (a ++ p) short.front
          (λ none. let empty = path_left web p starts none in omega (arith, short.whole empty, length-append a p, ap length empty));
    }

-- ---- the authority of a URL

-- a text that names a host isn't empty
names_some : (syntax : HostSyntax) (piece host : List ℕ) (port : Option ℕ) → SpellsHostPort syntax piece (Some host) port → 0 < length piece
names_some syntax [] host port n =
    absurd (none-some host (sym (names_unique syntax [] (Some host) None port None n (nothing refl refl refl)).0))
names_some syntax (b ∷ piece) host port n = omega arith

-- so an authority with a host isn't
authority_some : (syntax : HostSyntax) (a : List ℕ) (user password : Option (List ℕ)) (host : List ℕ) (port : Option ℕ) → Authority syntax a user password (Some host) port → 0 < length a
authority_some syntax a user password host port (host_alone free names no_user no_password) = names_some syntax a host port names
authority_some syntax a user password host port (with_user information piece free e credentials names some) = omega (arith, ap length e, length-append information (at_sign ∷ piece))

-- a text in which no path starts, and that is free of `\`, has neither slash
lacks_slashes : (a : List ℕ) → Lacks (is_path_start true) a → FreeOf backslash a → Lacks is_any_slash a
lacks_slashes [] starts free = refl
lacks_slashes (b ∷ a) starts free =
    let start = lacks_head_tail (is_path_start true) b a starts in
    let back = lacks_head_tail (λ c. c == backslash) b a free in
    lacks-cons is_any_slash b a (or_from (b == slash) (b == backslash) (or_parts (b == slash) _ start.0).0 back.0) (lacks_slashes a start.1 back.1)

-- the authority of a readable location with a host is the part that the length test counts
pub authority_front : (v : Location) (named : List ℕ) → IsReadable v (Some named) → IsFront (is_web_scheme (scheme_text v.scheme)) (authority_text v)
authority_front v named r =
    let web = is_web_scheme (scheme_text v.scheme) in
    record {
      no_slash = lacks_slashes (authority_text v) r.piece.before_path r.piece.no_backslash;
      before_path = lacks_weaker (is_path_start web) (is_path_start true) (web_starts web) (authority_text v) r.piece.before_path;
      some = some_left (authority_text v) r.piece.escaped.no_white_space (authority_some _ (authority_text v) v.user v.password named v.port r.authority);
    }

-- its length is within the limit
pub authority_short : (v : Location) (named : List ℕ) → IsReadable v (Some named) → IsShortFront (authority_text v) (canonical_path v)
authority_short v named r =
    front_short (scheme_text v.scheme) (authority_text v) (canonical_path v) (authority_front v named r) r.path.starts (scheme_fits v named r)
  where
    scheme_fits : (v : Location) (named : List ℕ) → IsReadable v (Some named) → Fits (scheme_text v.scheme) (authority_text v ++ canonical_path v)
    scheme_fits v named r = fits_from_text (scheme_text v.scheme) (authority_text v ++ canonical_path v) (canonical_text v) (scheme_text_free (scheme_text v.scheme) colon r.scheme.scheme_text refl) (canonical_cut v) r.fits

-- so is that of its scheme
pub scheme_short : (v : Location) (named : List ℕ) → IsReadable v (Some named) → length (scheme_text v.scheme) ≤ 1024
scheme_short v named r = (fits_from_text (scheme_text v.scheme) (authority_text v ++ canonical_path v) (canonical_text v) (scheme_text_free (scheme_text v.scheme) colon r.scheme.scheme_text refl) (canonical_cut v) r.fits).scheme_length

-- the text of a location with such a scheme and a short authority is short enough
pub text_fits : (v : Location) → is_scheme_text (scheme_text v.scheme) ≡ true → length (scheme_text v.scheme) ≤ 1024 → IsFront (is_web_scheme (scheme_text v.scheme)) (authority_text v) → StartsPath (is_web_scheme (scheme_text v.scheme)) (canonical_path v) → IsShortFront (authority_text v) (canonical_path v) → FitsText (canonical_text v)
text_fits v spelled known h starts short = record {
  scheme = scheme_text v.scheme;
  rest = authority_text v ++ canonical_path v;
  no_colon = scheme_text_free (scheme_text v.scheme) colon spelled refl;
  joined = canonical_cut v;
  fits = short_fits (scheme_text v.scheme) (authority_text v) (canonical_path v) known h starts short;
}

-- ---- without a password

-- the location without its password
abbrev stripped : Location → Location
stripped v = record v { password = None }

-- a host is written the same
host_stripped : (v : Location) (host : Option (List ℕ)) → host_part (stripped v) host ≡ host_part v host
host_stripped v None = refl
host_stripped v (Some host) = refl

-- `@` starts no path
at_no_start : (web : Bool) → Lacks (is_path_start web) (at_sign ∷ [])
at_no_start true = refl
at_no_start false = refl

-- a front without its password, which is between the user and `@`
abbrev with_secret : List ℕ → List ℕ → List ℕ → List ℕ
with_secret user secret host = (user ++ (secret ++ at_sign ∷ [])) ++ host

-- such a text lacks the same without the password
lacks_secret : (test : ℕ → Bool) (user secret host : List ℕ) → Lacks test (at_sign ∷ []) → Lacks test (with_secret user secret host) → Lacks test (with_secret user [] host)
lacks_secret test user secret host h4 h5 = grind (arith, nat_tests, lacks_parts, lacks-append)

-- the bytes of it that count
secret_length : (user secret host : List ℕ) → length (without_white_space (with_secret user secret host)) ≡ length (without_white_space user) + (length (without_white_space secret) + 1) + length (without_white_space host)
secret_length user secret host =
    omega (arith, kept_length (user ++ (secret ++ at_sign ∷ [])) host, kept_length user (secret ++ at_sign ∷ []), kept_length secret (at_sign ∷ []))

-- and all of it
whole_length : (user secret host : List ℕ) → length (with_secret user secret host) ≡ length user + (length secret + 1) + length host
whole_length user secret host =
    omega (arith, length-append (user ++ (secret ++ at_sign ∷ [])) host, length-append user (secret ++ at_sign ∷ []), length-append secret (at_sign ∷ []))

-- it is still the part that the length test counts
front_stripped : (web : Bool) (user secret host : List ℕ) → IsFront web (with_secret user secret host) → IsFront web (with_secret user [] host)
front_stripped web user secret host h = record {
  no_slash = lacks_secret is_any_slash user secret host refl h.no_slash;
  before_path = lacks_secret (is_path_start web) user secret host (at_no_start web) h.before_path;
  some = omega (arith, secret_length user [] host);
}

-- and no longer
short_stripped : (user secret host p : List ℕ) → IsShortFront (with_secret user secret host) p → IsShortFront (with_secret user [] host) p
short_stripped user secret host p h = record {
  front = omega (arith, h.front, secret_length user secret host, secret_length user [] host);
  whole = λ none. omega (arith, h.whole none, whole_length user secret host, whole_length user [] host);
}

-- the text of a readable location with a user and a password is short enough without the password
stripped_fits : (v : Location) (user password named : List ℕ) → v.user ≡ Some user → v.password ≡ Some password → IsReadable v (Some named) → FitsText (canonical_text (stripped v))
stripped_fits v user password named known secret r =
    let web = is_web_scheme (scheme_text v.scheme) in
    let u = percent_encode user_set user in
    let s = colon ∷ percent_encode password_set password in
    let host = host_part v v.host ++ port_part v.port in
    let whole : authority_text v ≡ with_secret u s host = ap (λ o. user_information o v.password ++ host) known ∙ ap (λ o. user_information (Some user) o ++ host) secret in
    let less : authority_text (stripped v) ≡ with_secret u [] host = ap (λ o. user_information o None ++ (host_part (stripped v) v.host ++ port_part v.port)) known ∙ ap (λ h. user_information (Some user) None ++ (h ++ port_part v.port)) (host_stripped v v.host) in
    let front : IsFront web (with_secret u [] host) = front_stripped web u s host (subst (λ a. IsFront web a) whole (authority_front v named r)) in
    let short : IsShortFront (with_secret u [] host) (canonical_path v) = short_stripped u s host (canonical_path v) (subst (λ a. IsShortFront a (canonical_path v)) whole (authority_short v named r)) in
    text_fits (stripped v) r.scheme.scheme_text (scheme_short v named r) (subst (λ a. IsFront web a) (sym less) front) r.path.starts (subst (λ a. IsShortFront a (canonical_path v)) (sym less) short)

-- the common conditions of settled URLs stay, if the user isn't empty
url_stripped : (v : Location) → IsSettledUrl v → ¬ (v.user ≡ Some []) → IsWrittenAsUrl (stripped v) → FitsText (canonical_text (stripped v)) → IsSettledUrl (stripped v)
url_stripped v h some written fits = record {
  unflagged = h.unflagged;
  credentials = (tt, λ e. absurd (some e));
  hosted = h.hosted;
  path = record { path_text = h.path.path_text; spelling = h.path.spelling };
  fits = (canonical_text (stripped v), written.canonical h.unflagged h.hosted, fits);
}

-- HTTP
web_stripped : (v : Location) (user password : List ℕ) → IsWeb v → v.user ≡ Some user → v.password ≡ Some password → ¬ (v.user ≡ Some []) → IsValue v → IsSettledWeb v → IsSettledWeb (stripped v)
web_stripped v user password web known secret some is h =
    let (named, r) = web_readable v web is h in
    record { common = url_stripped v h.common some (written_web (stripped v) web) (stripped_fits v user password named known secret r); host = h.host; port = h.port; path = h.path }

-- a URL of another scheme has a host, if it has a user
other_stripped : (name : List ℕ) (v : Location) (user password : List ℕ) (host : Option (List ℕ)) → v.host ≡ host → v.scheme ≡ helper_url name → v.user ≡ Some user → v.password ≡ Some password → ¬ (v.user ≡ Some []) → IsValue v → IsSettledHelperUrl name v → IsSettledHelperUrl name (stripped v)
other_stripped name v user password None there e known secret some is h =
    absurd (false≢true (subst (λ o. IsSome o) there (h.url.common.hosted.0 (ap is_some known))))
other_stripped name v user password (Some host) there e known secret some is h =
    let r = other_readable name v (Some host) e there is h in
    record {
      url = record { common = url_stripped v h.url.common some (written_other (stripped v) name e h.scheme_text) (stripped_fits v user password host known secret r); raw = h.url.raw };
      scheme_text = h.scheme_text;
      unknown = h.unknown;
      host = h.host;
      hosted = h.hosted;
      path = h.path;
    }

-- a settled location with a user that isn't empty, and a password, is settled without that
stripped_by : (p : Scheme) (v : Location) (user password : List ℕ) → v.scheme ≡ p → v.user ≡ Some user → v.password ≡ Some password → ¬ (v.user ≡ Some []) → IsValue v → IsSettledBy p v → IsSettledBy p (stripped v)
stripped_by file v user password e known secret some is (inl h) = absurd (none-some password (sym h.bare.1.1 ∙ secret))
stripped_by file v user password e known secret some is (inr h) = absurd (none-some password (sym h.alone.1 ∙ secret))
stripped_by ssh v user password e known secret some is (inl h) = absurd (none-some password (sym h.no_password ∙ secret))
stripped_by ssh v user password e known secret some is (inr h) =
    let (named, r) = secure_readable v e is h in
    inr record { url = record { common = url_stripped v h.url.common some (written_secure (stripped v) e h.path) (stripped_fits v user password named known secret r); raw = h.url.raw }; host = h.host; path = h.path }
stripped_by git v user password e known secret some is h =
    let (named, r) = git_readable v e is h in
    record { url = record { common = url_stripped v h.url.common some (written_git (stripped v) e) (stripped_fits v user password named known secret r); raw = h.url.raw }; host = h.host; path = h.path }
stripped_by http v user password e known secret some is h = web_stripped v user password (inl e) known secret some is h
stripped_by https v user password e known secret some is h = web_stripped v user password (inr e) known secret some is h
stripped_by ext v user password e known secret some is h = absurd (none-some password (sym h.bare.1.1 ∙ secret))
stripped_by (helper name) v user password e known secret some is h = absurd (none-some password (sym h.0.bare.1.1 ∙ secret))
stripped_by (helper_url name) v user password e known secret some is h = other_stripped name v user password v.host refl e known secret some is h

-- a settled location is a URL, or has no password, and no user beside none of the flag
url_or_plain : (p : Scheme) (v : Location) → IsSettledBy p v → IsSettledUrl v ⊎ ((v.password ≡ None) × (v.flag ≡ false → v.user ≡ None))
url_or_plain p v h2 = grind (arith, nat_tests, both_ways)

-- a settled location with a password is a URL
url_with_password : (p : Scheme) (v : Location) (password : List ℕ) → v.password ≡ Some password → IsSettledBy p v → IsSettledUrl v
url_with_password p v password h3 h4 = grind (arith, nat_tests, url_or_plain, none-some)

-- and has a user
user_beside : (p : Scheme) (v : Location) (password : List ℕ) → v.password ≡ Some password → IsSettledBy p v → IsSome v.user
user_beside p v password secret h =
    (subst (λ o. IfSome o (λ p. (0 < length p) × IsSome v.user)) secret (url_with_password p v password secret h).credentials.0).1

-- by the password and the user
without_password_by : (v : Location) (password user : Option (List ℕ)) → v.password ≡ password → v.user ≡ user → IsValue v → IsSettled v → (v.password ≡ None) ⊎ ¬ (v.user ≡ Some []) → IsSettled (stripped v)
without_password_by v password user secret known is h (inl none) = subst IsSettled (ap (λ o. record v { password = o }) none) h
without_password_by v None user secret known is h (inr some) = subst IsSettled (ap (λ o. record v { password = o }) secret) h
without_password_by v (Some password) None secret known is h (inr some) = absurd (false≢true (subst (λ o. IsSome o) known (user_beside v.scheme v password secret h)))
without_password_by v (Some password) (Some user) secret known is h (inr some) = stripped_by v.scheme v user password refl known secret some is h

-- an empty user comes with a password, if the location is settled as a URL
empty_user : (p : Scheme) (v : Location) → v.flag ≡ false → v.user ≡ Some [] → IsSettledBy p v → IsSome v.password
empty_user p v h2 h3 h4 = grind (arith, nat_tests, url_or_plain, none-some)

-- so a location that is settled without its password has none, or a user that isn't empty
kept_user : (v : Location) (password : Option (List ℕ)) → v.password ≡ password → IsSettled v → IsSettled (stripped v) → (v.password ≡ None) ⊎ ¬ (v.user ≡ Some [])
kept_user v None secret h less = inl secret
kept_user v (Some password) secret h less = inr (λ e. false≢true (empty_user v.scheme (stripped v) (url_with_password v.scheme v password secret h).unflagged e less))

-- a settled location is settled without its password exactly there
pub without_password : SettledWithoutPassword
without_password v is h = (λ less. kept_user v v.password refl h less, λ may. without_password_by v v.password v.user refl refl is h may)
