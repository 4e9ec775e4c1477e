-- Locations of HTTP: a location that is read is settled, with two exceptions.
use Rattle.std.proofs.Common.{◌≡◌, ◌≢◌, ℕ, ◌<◌, Bool, true, false, ◌==◌, ◌⊎◌, inl, inr, List, [], ◌∷◌, ◌++◌, length, Option, Some, None, IsSome, IsUtf8, refl, sym, ap, subst, ◌∙◌, arith, append_assoc, codes, lit<}
use Rattle.std.specs.Prelude.{IfSome}
use Rattle.std.specs.List.{list_all}
use Rattle.std.specs.Char.{to_ascii_lowercase, is_digit}
use Rattle.std.proofs.lemmas.Option.{same_Some, none-some}
use Rattle.std.proofs.lemmas.Bool.{or_right, cond-true, cond-false, or_left, both_ways, false≢true}
use Rattle.std.proofs.lemmas.Bool.Decides.{nat_tests}
use Rattle.std.proofs.lemmas.List.{append_cancel_left, length-map, append-nil}
use Rattle.percent_encoding.specs.Percent.{percent_decode}
use Rattle.percent_encoding.proofs.PercentLemmas.{percent_decode-nil}
use Rattle.git_syntax.specs.Location.{Scheme, Location, fields}
use Rattle.git_syntax.specs.Location.Scheme.{file, git, ssh, http, https, ext, helper_url}
use Rattle.git_syntax.specs.Bytes.{percent_sign, slash, colon, at_sign, left_bracket, FreeOf, begins_by, begins_with, lowercase, LacksWhiteSpace, is_path_start, StartsPath}
use Rattle.git_syntax.specs.Escapes.{is_sound, has_percent}
use Rattle.git_syntax.specs.Hosts.{HostSyntax, is_dns_byte, is_http_host_byte, normal_host, HostText, SpellsHostPort}
use Rattle.git_syntax.specs.Hosts.HostSyntax.{http_hosts}
use Rattle.git_syntax.specs.Hosts.SpellsHostPort.{nothing, bracketed, bracketed_colon, bracketed_port, unbracketed, plain, plain_colon, plain_port, colons}
use Rattle.git_syntax.specs.Schemes.{is_web_scheme, scheme_of, host_syntax_of}
use Rattle.git_syntax.specs.Authority.{unless_empty, user_beside, Credentials, Authority}
use Rattle.git_syntax.specs.Authority.Authority.{host_alone, with_user}
use Rattle.git_syntax.specs.Grammar.{UrlSyntax, HasUrlSyntax, or_root, retained_spelling, DenotesAs, SpellsUrl}
use Rattle.git_location.specs.Text.{plain_path, matching_or, text}
use Rattle.git_location.specs.Settled.{first_byte, IsFairSpelling, HasFittingText, IsWebName, IsWebHost, IsSettledWeb, IsWeb, IsHosted}
use Rattle.git_location.specs.Settled.IsWebHost.{literal, literal_colon, named, named_colon}
use Rattle.git_syntax.proofs.Texts.CutLemmas.{free-append, free_begins, free_of_all, free_parts}
use Rattle.git_syntax.proofs.Texts.EscapeLemmas.{sound_tail, sound_parts, sound_around, sound_free, decode_byte, utf8_byte, utf8_seam, white_space_parts}
use Rattle.git_laws.proofs.SettledClass.NormalLemmas.{normal_again, literal_again}
use Rattle.git_syntax.proofs.Parsing.SchemeLemmas.{scheme_cases}
use Rattle.git_laws.proofs.Writing.WrittenPathLemmas.{start_ascii, matched, written_fair}
use Rattle.git_syntax.proofs.Addresses.AddressLemmas.{all_lowercase}
use Rattle.git_syntax.proofs.Parsing.HostLemmas.{dns_lowercase, strict_not_bare}
use Rattle.git_location.proofs.Writing.WrittenAsUrlLemmas.{one_text, written_web}

-- ---- hosts

-- a byte of a host of HTTP stays one in lower case
http_byte_lowercase : (b : ℕ) → is_http_host_byte b ≡ true → is_http_host_byte (to_ascii_lowercase b) ≡ true
http_byte_lowercase b h = grind (arith, nat_tests)

-- the normal form of a host of HTTP is one, by whether the host looks like a domain name
normal_bytes : (text : List ℕ) (is_domain : Bool) → list_all is_dns_byte text ≡ is_domain → list_all is_http_host_byte text ≡ true → list_all is_http_host_byte (normal_host text) ≡ true
normal_bytes text true domain bytes = ap (list_all is_http_host_byte) (cond-true _ _ _ domain) ∙ all_lowercase is_http_host_byte http_byte_lowercase text bytes
normal_bytes text false other bytes = ap (list_all is_http_host_byte) (cond-false _ _ _ other) ∙ bytes

-- a text that denotes a host in HTTP consists of such bytes
pub denoted_bytes : (text name : List ℕ) → HostText http_hosts text name → list_all is_http_host_byte name ≡ true
denoted_bytes text name denoted = ap (list_all is_http_host_byte) denoted.1 ∙ normal_bytes text (list_all is_dns_byte text) refl denoted.0

-- the normal form of a sound text is sound, and as long
normal_facts : (text : List ℕ) (is_domain : Bool) → list_all is_dns_byte text ≡ is_domain → 0 < length text → is_sound text ≡ true → (0 < length (normal_host text)) × (is_sound (normal_host text) ≡ true)
normal_facts text true domain some sound =
    let lower : normal_host text ≡ lowercase text = cond-true _ _ _ domain in
    (subst (λ t. 0 < length t) (sym lower) (subst (λ n. 0 < n) (sym (length-map text to_ascii_lowercase)) some), ap is_sound lower ∙ sound_free (lowercase text) (free_of_all is_dns_byte percent_sign (lowercase text) (dns_lowercase text domain) refl))
normal_facts text false other some sound =
    let same : normal_host text ≡ text = cond-false _ _ _ other in
    (subst (λ t. 0 < length t) (sym same) some, ap is_sound same ∙ sound)

-- the host that a sound text denotes in HTTP is a name that stays unchanged
web_name_of : (text name : List ℕ) → 0 < length text → is_sound text ≡ true → HostText http_hosts text name → IsWebName name
web_name_of text name some sound denoted =
    let facts = normal_facts text (list_all is_dns_byte text) refl some sound in
    let is : name ≡ normal_host text = denoted.1 in
    record { nonempty = subst (λ t. 0 < length t) (sym is) facts.0; bytes = denoted_bytes text name denoted; sound = ap is_sound is ∙ facts.1; normal = ap normal_host is ∙ normal_again text ∙ sym is }

-- a name of HTTP with a colon after it has no bracket at its front
no_bracket_before_colon : (name : List ℕ) → IsWebName name → begins_with left_bracket (name ++ colon ∷ []) ≡ false
no_bracket_before_colon name h =
    free_begins left_bracket (name ++ colon ∷ []) (free-append left_bracket name (colon ∷ []) (free_of_all is_http_host_byte left_bracket name h.bytes refl) refl)

-- the host begins with a bracket or holds no `%`
abbrev pub StaysBare : List ℕ → Type 0
StaysBare host = (begins_with left_bracket host ≡ true) ⊎ (has_percent host ≡ false)

-- so does a host with a colon at its end
abbrev pub IsApart : List ℕ → Type 0
IsApart host = (front : List ℕ) → host ≡ front ++ colon ∷ [] → StaysBare host

-- such a name holds no `%` there
name_before_colon : (host name : List ℕ) → IsWebName name → host ≡ name ++ colon ∷ [] → StaysBare host → has_percent name ≡ false
name_before_colon host name h e (inl bracket) = absurd (both_ways _ (no_bracket_before_colon name h) (ap (begins_with left_bracket) (sym e) ∙ bracket))
name_before_colon host name h e (inr free) = (free_parts percent_sign name (colon ∷ []) (subst (λ t. FreeOf percent_sign t) e free)).0

-- no port is not the port zero
none_not_zero : (port : Option ℕ) → port ≡ None → port ≢ Some 0
none_not_zero port none zero = absurd (none-some 0 (sym (sym zero ∙ none)))

-- a port that is not zero
port_not_zero : (port : Option ℕ) (number : ℕ) → port ≡ Some number → 0 < number → port ≢ Some 0
port_not_zero port number is some zero = omega (arith, some, same_Some number 0 (sym is ∙ zero))

-- a host and a port that a sound piece names in HTTP are settled,
-- except a name with `%` and a colon after it
pub web_host_closed : (piece host : List ℕ) (port : Option ℕ) → is_sound piece ≡ true → SpellsHostPort http_hosts piece (Some host) port → IsApart host → IsWebHost port host × (port ≢ Some 0)
web_host_closed piece host port sound (nothing e named_as at) apart = absurd (none-some host (sym named_as))
web_host_closed piece host port sound (bracketed x inner free spelled e named_as at) apart =
    (literal inner (literal_again x inner spelled) (same_Some _ _ named_as), none_not_zero port at)
web_host_closed piece host port sound (bracketed_colon x inner free spelled e named_as at) apart =
    (literal_colon inner (literal_again x inner spelled) at (same_Some _ _ named_as), none_not_zero port at)
web_host_closed piece host port sound (bracketed_port x inner digits number free spelled numbered e named_as at) apart =
    (literal inner (literal_again x inner spelled) (same_Some _ _ named_as), port_not_zero port number at numbered.allowed)
web_host_closed piece host port sound (unbracketed reads named_as at) apart = absurd (strict_not_bare reads.0)
web_host_closed piece host port sound (plain name is_plain denoted named_as at) apart =
    (named (subst IsWebName (same_Some _ _ (sym named_as)) (web_name_of piece name is_plain.nonempty sound denoted)), none_not_zero port at)
web_host_closed piece host port sound (plain_colon text name is_plain denoted e named_as at) apart =
    let whole : host ≡ name ++ colon ∷ [] = same_Some _ _ named_as in
    let before = sound_parts text [] colon refl (subst (λ t. is_sound t ≡ true) e sound) in
    let is_name = web_name_of text name is_plain.nonempty before.0 denoted in
    (named_colon name is_name (name_before_colon host name is_name whole (apart name whole)) at whole, none_not_zero port at)
web_host_closed piece host port sound (plain_port text name digits number is_plain denoted numbered e named_as at) apart =
    let before = sound_parts text digits colon refl (subst (λ t. is_sound t ≡ true) e sound) in
    (named (subst IsWebName (same_Some _ _ (sym named_as)) (web_name_of text name is_plain.nonempty before.0 denoted)), port_not_zero port number at numbered.allowed)
web_host_closed piece host port sound (colons name not_strict other begins many denoted named_as at) apart = absurd (not_strict refl)

-- ---- the location of a URL of HTTP

-- the scheme is one of HTTP
abbrev is_known_web_scheme : Scheme → Bool
is_known_web_scheme http = true
is_known_web_scheme https = true
is_known_web_scheme _ = false

-- a location with another one is none of HTTP
pub not_web : {A : Type 0} (scheme : Scheme) (v : Location) → is_known_web_scheme scheme ≡ false → v.scheme ≡ scheme → IsWeb v → A
not_web scheme v other e (inl web) = absurd (both_ways _ other (ap is_known_web_scheme (sym e ∙ web)))
not_web scheme v other e (inr web) = absurd (both_ways _ other (ap is_known_web_scheme (sym e ∙ web)))

-- the location of the parts of a URL of HTTP
abbrev pub web_denoted : Scheme → UrlSyntax → Location
web_denoted scheme parts = record {
  scheme = scheme;
  user = parts.user;
  password = parts.password;
  host = parts.host;
  flag = false;
  port = parts.port;
  path = or_root (percent_decode parts.path);
  spelling = retained_spelling parts.path;
}

-- a URL that is read as a location of HTTP has such a scheme, and its parts denote that
pub web_read : (b : List ℕ) (v : Location) → (h : SpellsUrl b v) → IsWeb v → (is_web_scheme h.parts.scheme ≡ true) × (v ≡ web_denoted (scheme_of h.parts.scheme) h.parts)
web_read b v h web =
    let parts = h.parts in
    scheme_cases (λ p. DenotesAs p b parts v → (is_web_scheme parts.scheme ≡ true) × (v ≡ web_denoted p parts)) parts.scheme
    (λ e m. not_web ssh v refl (ap (λ l. l.scheme) m.value) web)
    (λ e m. not_web file v refl (ap (λ l. l.scheme) m.value) web)
    (λ m. not_web git v refl (ap (λ l. l.scheme) m.value) web)
    (λ e m. (or_left _ _ e, m.value ∙ ap (λ host. record (web_denoted http parts) { host = host }) m.hosted))
    (λ e m. (or_right _ _ e, m.value ∙ ap (λ host. record (web_denoted https parts) { host = host }) m.hosted))
    (λ m. not_web ext v refl (ap (λ l. l.scheme) m) web)
    (λ m. not_web (helper_url parts.scheme) v refl (ap (λ l. l.scheme) m.value) web) h.means

-- ---- credentials

-- a password comes with a user and isn't empty, and an empty user comes with a password
abbrev pub AreCredentials : Option (List ℕ) → Option (List ℕ) → Type 0
AreCredentials user password = IfSome password (λ p. (0 < length p) × IsSome user) × (user ≡ Some [] → IsSome password)

-- an empty text is none
not_some_empty : {A : Type 0} (t : List ℕ) → unless_empty t ≡ Some [] → A
not_some_empty [] e = absurd (none-some [] e)
not_some_empty (b ∷ bs) e = absurd (omega (arith, ap length (same_Some (b ∷ bs) [] e)))

-- a user without a password
user_without : (t : List ℕ) → AreCredentials (unless_empty t) None
user_without t = (tt, λ e. not_some_empty t e)

-- a user beside a password
user_with : (u w : List ℕ) → AreCredentials (user_beside (unless_empty w) u) (unless_empty w)
user_with u [] = user_without u
user_with u (b ∷ bs) = ((omega (arith), refl), λ e. refl)

-- user information holds a user and a password of a settled location
credentials_closed : (text : List ℕ) (user password : Option (List ℕ)) → Credentials text user password → AreCredentials user password
credentials_closed text user password h3 = grind (arith, nat_tests, user_without, user_with)

-- so does an authority
pub authority_closed : (syntax : HostSyntax) (text : List ℕ) (user password host : Option (List ℕ)) (port : Option ℕ) → Authority syntax text user password host port → AreCredentials user password
authority_closed syntax text user password host port h6 = grind (arith, nat_tests, user_without, credentials_closed)

-- the host and the port of a sound authority are named by a sound piece
authority_names : (syntax : HostSyntax) (text : List ℕ) (user password host : Option (List ℕ)) (port : Option ℕ) → is_sound text ≡ true → Authority syntax text user password host port → (piece : List ℕ) × (is_sound piece ≡ true) × SpellsHostPort syntax piece host port
authority_names syntax text user password host port sound (host_alone free names u p) = (text, sound, names)
authority_names syntax text user password host port sound (with_user information piece free e credentials names some) =
    (piece, (sound_around information piece at_sign refl (subst (λ t. is_sound t ≡ true) e sound)).1, names)

-- ---- paths

-- a start of a path isn't a hexadecimal digit
start_no_digit : (c : ℕ) → is_path_start true c ≡ true → is_digit c 16 ≡ false
start_no_digit c h = grind (arith, nat_tests)

-- and no `%`
start_no_percent : (c : ℕ) → is_path_start true c ≡ true → (c == 37) ≡ false
start_no_percent c h = grind (arith, nat_tests)

-- the retained spelling of a path, by whether the path has a `%`, is the path
pub retained_by : (path s : List ℕ) (escaped : Bool) → has_percent path ≡ escaped → retained_spelling path ≡ Some s → (path ≡ s) × (has_percent path ≡ true)
retained_by path s true holds e = (same_Some path s (sym (cond-true _ _ _ holds) ∙ e), holds)
retained_by path s false lacks e = absurd (none-some s (sym (cond-false _ _ _ lacks) ∙ e))

-- a path of a URL of HTTP, after a sound front, and its location
pub record IsWebPath (front path : List ℕ) : Type 0 where
  pub front_sound : is_sound front ≡ true
  pub denoted_text : IsUtf8 (or_root (percent_decode path))
  pub denoted_starts : begins_by (is_path_start true) (or_root (percent_decode path)) ≡ true
  pub fair : (s : List ℕ) → retained_spelling path ≡ Some s → IsFairSpelling s (or_root (percent_decode path))

-- a path that is there
some_path : (front rest : List ℕ) (c : ℕ) → is_path_start true c ≡ true → IsUtf8 (front ++ c ∷ rest) → is_sound (front ++ c ∷ rest) ≡ true → LacksWhiteSpace (front ++ c ∷ rest) → IsUtf8 (percent_decode (c ∷ rest)) → IsWebPath front (c ∷ rest)
some_path front rest c start text sound space denoted =
    let same : percent_decode (c ∷ rest) ≡ c ∷ percent_decode rest = decode_byte c rest (start_no_percent c start) in
    let rooted : or_root (percent_decode (c ∷ rest)) ≡ c ∷ percent_decode rest = ap or_root same in
    let texts = utf8_seam front rest c text (start_ascii c start) in
    let sounds = sound_parts front rest c (start_no_digit c start) sound in
    let spaces = white_space_parts front (c ∷ rest) texts.0 space in record {
      front_sound = sounds.0;
      denoted_text = subst IsUtf8 (same ∙ sym rooted) denoted;
      denoted_starts = ap (begins_by (is_path_start true)) rooted ∙ start;
      fair = λ s e.
          let kept = retained_by (c ∷ rest) s (has_percent (c ∷ rest)) refl e in
          subst (λ t. IsFairSpelling t (or_root (percent_decode (c ∷ rest)))) kept.0 record {
            text = texts.1;
            sound = sounds.1;
            escaped = kept.1;
            no_white_space = spaces.1;
            front = sym (ap first_byte rooted);
          };
    }

-- an empty path
no_path : (front : List ℕ) → is_sound front ≡ true → IsWebPath front []
no_path front sound =
    let rooted : or_root (percent_decode []) ≡ slash ∷ [] = ap or_root percent_decode-nil in record {
      front_sound = sound;
      denoted_text = subst IsUtf8 (sym rooted) (utf8_byte slash (lit< tt));
      denoted_starts = ap (begins_by (is_path_start true)) rooted;
      fair = λ s e. absurd (none-some s e);
    }

-- the path at the end of a text
path_closed : (front path : List ℕ) → StartsPath true path → IsUtf8 (front ++ path) → is_sound (front ++ path) ≡ true → LacksWhiteSpace (front ++ path) → IsUtf8 (percent_decode path) → IsWebPath front path
path_closed front path h2 h3 h4 h5 h6 = grind (arith, nat_tests, no_path, append-nil, length, some_path)

-- ---- locations

-- the end of a sound text is sound
pub sound_after : (xs ys : List ℕ) → is_sound (xs ++ ys) ≡ true → is_sound ys ≡ true
sound_after [] ys sound = sound
sound_after (x ∷ xs) ys sound = sound_after xs ys (sound_tail x (xs ++ ys) sound)

-- the fields that are there
some_there : {A : Type 0} (o : Option A) → IsSome o → (x : A) × (o ≡ Some x)
some_there None some = absurd (false≢true some)
some_there (Some x) some = (x, refl)

-- the front of a URL and its path, joined
pub parts_joined : {b : List ℕ} {parts : UrlSyntax} → (h : HasUrlSyntax b parts) → b ≡ (parts.scheme ++ (codes "://" ++ h.authority)) ++ parts.path
parts_joined {b} {parts} h = h.joined ∙ sym (append_assoc parts.scheme (codes "://" ++ h.authority) parts.path)

-- the path of a URL of HTTP
pub url_path_closed : {b : List ℕ} {parts : UrlSyntax} → is_web_scheme parts.scheme ≡ true → (h : HasUrlSyntax b parts) → IsWebPath (parts.scheme ++ (codes "://" ++ h.authority)) parts.path
url_path_closed {b} {parts} web h =
    let joined = parts_joined h in
    path_closed (parts.scheme ++ (codes "://" ++ h.authority)) parts.path (subst (λ w. StartsPath w parts.path) web h.path_starts) (subst IsUtf8 joined h.text) (subst (λ t. is_sound t ≡ true) joined h.sound) (subst LacksWhiteSpace joined h.no_white_space) h.path_text

-- the location of the parts of a URL of HTTP is settled
parts_closed : {b : List ℕ} {parts : UrlSyntax} → (scheme : Scheme) → is_web_scheme parts.scheme ≡ true → HasUrlSyntax b parts → ((host : List ℕ) → parts.host ≡ Some host → IsApart host) → HasFittingText (web_denoted scheme parts) → IsSettledWeb (web_denoted scheme parts)
parts_closed {b} {parts} scheme web h apart fits =
    let syntax : host_syntax_of parts.scheme ≡ http_hosts = cond-true _ _ _ web in
    let hosted : IsSome parts.host = h.hosted (or_left _ _ web) in
    let some = some_there parts.host hosted in
    let way = url_path_closed web h in
    let named : Authority http_hosts h.authority parts.user parts.password parts.host parts.port = subst (λ m. Authority m h.authority parts.user parts.password parts.host parts.port) syntax h.named in
    let credentials = authority_closed http_hosts h.authority parts.user parts.password parts.host parts.port named in
    let names = authority_names http_hosts h.authority parts.user parts.password parts.host parts.port (sound_after (codes "://") h.authority (sound_after parts.scheme (codes "://" ++ h.authority) way.front_sound)) named in
    let host = web_host_closed names.0 some.0 parts.port names.1 (subst (λ o. SpellsHostPort http_hosts names.0 o parts.port) some.1 names.2) (apart some.0 some.1) in record {
      common = record {
        unflagged = refl;
        credentials = credentials;
        hosted = (λ given. hosted, λ given. hosted);
        path = record { path_text = way.denoted_text; spelling = λ s e matches. way.fair s e };
        fits = fits;
      };
      host = (some.0, some.1, host.0);
      port = host.1;
      path = way.denoted_starts;
    }

-- a location of HTTP that is read is settled if its text is short
-- enough, except for a host with `%` and a colon after it
pub web_closed : (b : List ℕ) (v : Location) → SpellsUrl b v → IsWeb v → ((h : List ℕ) → v.host ≡ Some h → IsApart h) → HasFittingText v → IsSettledWeb v
web_closed b v h web apart fits =
    let (is_web, value) = web_read b v h web in
    subst (λ l. IsSettledWeb l) (sym value)
    (parts_closed (scheme_of h.parts.scheme) is_web h.spelled (λ host e. apart host (ap (λ l. l.host) value ∙ e)) (subst (λ l. HasFittingText l) value fits))

-- ---- the same text

-- the location with another spelling
abbrev pub spelled_as : Location → Option (List ℕ) → Location
spelled_as v spelling = record v { spelling = spelling }

-- locations of HTTP that differ in their spellings and are written alike have paths that are written alike
same_paths : (v : Location) (spelling : Option (List ℕ)) → IsWeb v → v.flag ≡ false → IsHosted v → text (spelled_as v spelling) ≡ text v → matching_or spelling v.path (plain_path v.scheme v.path) ≡ matching_or v.spelling v.path (plain_path v.scheme v.path)
same_paths v spelling h2 h3 h4 h5 = grind (arith, nat_tests, written_web, one_text, append_cancel_left, codes)

-- a location of HTTP that is written as a settled one with another
-- spelling is settled, unless its spelling is its path
exact_as : (v : Location) (spelling : Option (List ℕ)) → IsWeb v → ¬ (v.spelling ≡ Some v.path) → text (spelled_as v spelling) ≡ text v → IsSettledWeb (spelled_as v spelling) → IsSettledWeb v
exact_as v spelling web other same h =
    let c = h.common in
    let paths = same_paths v spelling web c.unflagged c.hosted same in
    let fair : (s : List ℕ) → v.spelling ≡ Some s → percent_decode s ≡ v.path → IsFairSpelling s v.path = λ s e matches.
    let plain = plain_path v.scheme v.path in
    let written : matching_or v.spelling v.path plain ≡ s = ap (λ o. matching_or o v.path plain) e ∙ matched s v.path plain matches in
    written_fair (spelled_as v spelling) web h.path c.path s (paths ∙ written) (λ k. other (e ∙ ap (λ t. Some t) k)) in record {
      common = record {
        unflagged = c.unflagged;
        credentials = c.credentials;
        hosted = c.hosted;
        path = record { path_text = c.path.path_text; spelling = fair };
        fits = (c.fits.0, sym same ∙ c.fits.1, c.fits.2);
      };
      host = h.host;
      port = h.port;
      path = h.path;
    }

-- a location of HTTP with the fields and the text of a settled one
-- is settled, unless its spelling is its path
pub web_exact_spelling : (v w : Location) → IsWeb v → ¬ (v.spelling ≡ Some v.path) → fields w ≡ fields v → text w ≡ text v → IsSettledWeb w → IsSettledWeb v
web_exact_spelling v w h2 h3 h4 h5 h6 = grind (arith, nat_tests, exact_as)
