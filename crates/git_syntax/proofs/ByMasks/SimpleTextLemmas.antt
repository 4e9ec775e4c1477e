-- A simple text spells its location.
use Rattle.std.proofs.Common.{◌≡◌, ◌∙◌, ◌<◌, ◌≤◌, ◌++◌, ◌∷◌, ◌==◌, ℕ, Bool, bytes_eq, true, false, List, [], Option, Some, None, length, codes, refl, sym, ap, subst, inl, inr, arith, append_assoc, append-nil}
use Rattle.std.specs.Prelude.{IfSome}
use Rattle.std.proofs.lemmas.Bool.{false≢true}
use Rattle.percent_encoding.specs.Percent.{percent_decode}
use Rattle.git_syntax.specs.Authority.Authority.{host_alone, with_user}
use Rattle.git_syntax.specs.Authority.Credentials.{user_alone}
use Rattle.git_syntax.specs.Bytes.{FreeOf, at_sign, begins_with, colon, is_scheme_text, left_bracket, slash}
use Rattle.git_syntax.specs.Grammar.{begins_at_home, HasUrlSyntax, HostFor, IsSshHost, DenotesAs, DenotesByScheme, ScpFront, ScpUser, Spells, UrlSyntax, from_home, or_root, path_for}
use Rattle.git_syntax.specs.Grammar.Spells.{file_url, local_path, remote_helper, scp_form, url}
use Rattle.git_syntax.specs.Hosts.{AllowsPort, HostSyntax, IsPlainHost, SpellsHostPort, port_part, raw_user}
use Rattle.git_syntax.specs.Hosts.HostSyntax.{git_hosts, http_hosts, other_hosts}
use Rattle.git_syntax.specs.Hosts.SpellsHostPort.{plain_port}
use Rattle.std.specs.Char.{is_ascii_digit}
use Rattle.std.specs.Prelude.{decimal}
use Rattle.git_syntax.specs.Location.{Location, Scheme, path_alone}
use Rattle.git_syntax.specs.Location.Scheme.{git, ssh, http, https, helper_url}
use Rattle.git_syntax.specs.Schemes.{host_syntax_of, is_web_scheme, requires_host, scheme_text}
use Rattle.git_syntax.specs.SimpleTexts.{HasSimpleParts, IsRemoteScheme, IsSimplePort, IsSimpleText}
use Rattle.git_syntax.specs.SimpleTexts.IsRemoteScheme.{of_git, of_helper, of_ssh, of_http, of_https}
use Rattle.git_syntax.specs.SimpleTexts.IsSimpleText.{file_text, helper_text, local_text, scp_text, url_text}
use Rattle.git_syntax.specs.Internal.HostPieces.{IsSimpleHost, is_simple_byte}
use Rattle.git_syntax.specs.Internal.Masks.{is_common}
use Rattle.git_syntax.specs.Internal.Forms.{ColonCut}
use Rattle.git_syntax.specs.Internal.UrlPieces.{HoldsHosted}
use Rattle.git_syntax.proofs.ByMasks.CommonLemmas.{common_free_of_percent, common_parts, common_utf8, neither_by_colon, url_of_common}
use Rattle.git_syntax.proofs.Parsing.ClassifierLemmas.{url_has_form}
use Rattle.git_syntax.proofs.Parsing.HostLemmas.{decimal_digits, number_written, simple_decoded, simple_named, simple_text, simple_utf8}
use Rattle.git_syntax.proofs.Parsing.SchemeLemmas.{unknown_helper, unknown_no_file}
use Rattle.git_syntax.proofs.Parsing.ScpLemmas.{simple_scp_host}
use Rattle.git_syntax.proofs.Parsing.UrlLemmas.{some_kept}
use Rattle.git_syntax.proofs.Texts.CutLemmas.{free-append, free-cons, free_begins, free_of_all, not_free, scheme_text_free}
use Rattle.git_syntax.proofs.Texts.EscapeLemmas.{decode_kept}

-- ---- bytes that simple parts lack

-- a simple host lacks a byte that isn't simple
pub simple_free : (c : ℕ) (t : List ℕ) → IsSimpleHost t → is_simple_byte c ≡ false → FreeOf c t
simple_free c t simple other = free_of_all is_simple_byte c t simple.bytes other

-- so does a text after a simple user, except for `@`
pub front_free : (c : ℕ) (user : Option (List ℕ)) (rest : List ℕ) → IfSome user IsSimpleHost → FreeOf c rest → is_simple_byte c ≡ false → (at_sign == c) ≡ false → FreeOf c (raw_user user ++ rest)
front_free c None rest simple_user free other apart = free
front_free c (Some user) rest simple_user free other apart =
    free-append c (user ++ at_sign ∷ []) rest (free-append c user (at_sign ∷ []) (simple_free c user simple_user other) (free-cons c at_sign [] apart refl)) free

-- so does a simple host before a port, except for `:`
place_free : (c : ℕ) (host : List ℕ) (port : Option ℕ) → IsSimpleHost host → IfSome port IsSimplePort → is_simple_byte c ≡ false → is_ascii_digit c ≡ false → (colon == c) ≡ false
    → FreeOf c (host ++ port_part port)
place_free c host None simple allowed other no_digit apart = free-append c host [] (simple_free c host simple other) refl
place_free c host (Some port) simple allowed other no_digit apart =
    let digits = free_of_all is_ascii_digit c (decimal port) (decimal_digits port (omega (arith, allowed.1))).1 no_digit in
    free-append c host (colon ∷ decimal port) (simple_free c host simple other) (free-cons c colon (decimal port) apart digits)

-- a path that doesn't begin at a home folder stays as it is
pub home_kept : (path : List ℕ) → begins_at_home path ≡ false → from_home path ≡ path
home_kept [] away = refl
home_kept (a ∷ []) away = refl
home_kept (a ∷ b ∷ rest) away = rw away refl

-- ---- the scp form

-- the user ends at the `@`
scp_split : (user : Option (List ℕ)) (host : List ℕ) → ScpUser (raw_user user ++ host) user host
scp_split None host = ScpUser.host_alone refl refl
scp_split (Some user) host = ScpUser.with_user user (append_assoc user (at_sign ∷ []) host) refl

-- a text of simple parts with a colon before its path has the scp form
scp_spelled : (b : List ℕ) (user : Option (List ℕ)) (host path : List ℕ) → HasSimpleParts b user host path → FreeOf colon path
    → ((rest : List ℕ) → ¬ (path ≡ slash ∷ (slash ∷ rest))) → b ≡ raw_user user ++ (host ++ colon ∷ path)
    → Spells b (record (path_alone ssh true path) { user = user; host = Some host })
scp_spelled b user host path parts free no_slashes joined =
    let front = raw_user user ++ host in
    let whole = joined ∙ sym (append_assoc (raw_user user) host (colon ∷ path)) in
    let lacks = λ (c : ℕ) (other : is_simple_byte c ≡ false) (apart : (at_sign == c) ≡ false). front_free c user host parts.simple_user (simple_free c host parts.simple_host other) other apart in
    let cut : ColonCut b front path = record { joined = whole; no_colon = lacks colon refl refl } in
    let home = home_kept path parts.not_home in
    scp_form (inl (record {
      front = front;
      path = path;
      user = user;
      host = host;
      denoted = host;
      form = record {
        joined = whole;
        neither = neither_by_colon b front path cut no_slashes free;
        no_slash = lacks slash refl refl;
        form = ScpFront.plain cut.no_colon (inl (free_begins left_bracket front (lacks left_bracket refl refl)));
      };
      text = common_utf8 b parts.common;
      pathed = parts.pathed;
      split = scp_split user host;
      hosted = simple_scp_host host parts.simple_host;
      value = rw home refl;
    }))

-- ---- URLs

-- a port that isn't 0 is allowed in every syntax
allows_port : (syntax : HostSyntax) (port : ℕ) → 0 < port → AllowsPort syntax port
allows_port http_hosts port some = some
allows_port git_hosts port some = tt
allows_port other_hosts port some = tt

-- a simple host and a port name themselves in every syntax
place_named : (syntax : HostSyntax) (host : List ℕ) (port : Option ℕ) → IsSimpleHost host → IfSome port IsSimplePort → SpellsHostPort syntax (host ++ port_part port) (Some host) port
place_named syntax host None simple allowed = subst (λ t. SpellsHostPort syntax t (Some host) None) (sym (append-nil host)) (simple_named syntax host simple)
place_named syntax host (Some port) simple allowed =
    let plain : IsPlainHost host = record { nonempty = simple.nonempty; no_colon = simple_free colon host simple refl; no_bracket = free_begins left_bracket host (simple_free left_bracket host simple refl) } in
    plain_port host host (decimal port) port plain (simple_text syntax host simple.bytes) (number_written syntax port (omega (arith, allowed.1)) (allows_port syntax port allowed.0)) refl refl refl

-- the authority of simple parts
simple_authority : (syntax : HostSyntax) (needed : Bool) (user : Option (List ℕ)) (host : List ℕ) (port : Option ℕ) → IfSome user IsSimpleHost → IsSimpleHost host → IfSome port IsSimplePort
    → HoldsHosted syntax needed (raw_user user ++ (host ++ port_part port)) user None (Some host) port
simple_authority syntax needed None host port simple_user simple_host allowed = record {
  named = host_alone (place_free at_sign host port simple_host allowed refl refl refl) (place_named syntax host port simple_host allowed) refl refl;
  hosted = λ need. refl;
}
simple_authority syntax needed (Some user) host port simple_user simple_host allowed =
    let decoded = simple_decoded user simple_user.bytes in
    record {
      named = with_user user (host ++ port_part port) (place_free at_sign host port simple_host allowed refl refl refl) (append_assoc user (at_sign ∷ []) (host ++ port_part port))
          (user_alone (simple_free colon user simple_user refl) (rw decoded (simple_utf8 user simple_user.bytes)) refl (rw decoded (sym (some_kept user (λ e. absurd (omega (arith, simple_user.nonempty, ap length e)))))))
          (place_named syntax host port simple_host allowed) refl;
      hosted = λ need. refl;
    }

-- Secure Shell takes a simple host as it is
simple_ssh_host : (host : List ℕ) → IsSimpleHost host → IsSshHost host host
simple_ssh_host host simple =
    let free = λ (c : ℕ) (other : is_simple_byte c ≡ false). simple_free c host simple other in
    IsSshHost.same (λ (inner, e). bracketed e) (λ (inner, e). bracketed e)
    (λ (front, none, open_front, e). not_free colon front [] (subst (λ t. FreeOf colon t) e (free colon refl))) refl
  where
    bracketed : {rest : List ℕ} → host ≡ left_bracket ∷ rest → ⊥
    bracketed e = false≢true (sym (subst (λ t. FreeOf left_bracket t) e (simple_free left_bracket host simple refl)))

-- a path that isn't empty isn't the root by default
pub kept_root : (path : List ℕ) → 0 < length path → or_root path ≡ path
kept_root [] some = absurd (omega arith)
kept_root (b ∷ path) some = refl

-- the path of a URL of common bytes decodes to itself
path_decoded : (p : Scheme) (path : List ℕ) → IsRemoteScheme p → is_common path ≡ true → path_for p (percent_decode path) ≡ path_for p path
path_decoded p path remote common = ap (path_for p) (decode_kept path (common_free_of_percent path common))

-- it stays as it is, if it isn't empty and doesn't begin at a home folder
path_stays : (p : Scheme) (path : List ℕ) → IsRemoteScheme p → 0 < length path → begins_at_home path ≡ false → path_for p path ≡ path
path_stays p path of_git some away = home_kept path away
path_stays p path of_ssh some away = home_kept path away
path_stays p path of_http some away = kept_root path some
path_stays p path of_https some away = kept_root path some
path_stays p path (of_helper name spelled unknown) some away = refl

-- a remote scheme takes a simple host as it is
remote_host : (p : Scheme) (host : List ℕ) → IsRemoteScheme p → IsSimpleHost host → HostFor p (Some host) (Some host)
remote_host p host of_git simple = refl
remote_host p host of_ssh simple = (host, simple_ssh_host host simple, refl)
remote_host p host of_http simple = refl
remote_host p host of_https simple = refl
remote_host p host (of_helper name spelled unknown) simple = refl

-- the fields of a URL with a remote scheme and a simple host
abbrev remote_fields : Scheme → Option (List ℕ) → Option (List ℕ) → List ℕ → Option ℕ → List ℕ → UrlSyntax
remote_fields p user password host port path = record { scheme = scheme_text p; user = user; password = password; host = Some host; port = port; path = path }

-- the location that they denote
abbrev pub remote_location : Scheme → Option (List ℕ) → Option (List ℕ) → List ℕ → Option ℕ → List ℕ → Location
remote_location p user password host port path = record (path_alone p false (path_for p path)) { user = user; password = password; host = Some host; port = port }

remote_means : (p : Scheme) (user password : Option (List ℕ)) (host path : List ℕ) (port : Option ℕ) → IsRemoteScheme p → IsSimpleHost host → is_common path ≡ true → 0 < length path
    → DenotesByScheme p (remote_fields p user password host port path) (remote_location p user password host port path)
remote_means p user password host path port remote simple common some = record {
  host = Some host;
  pathed = λ need. some;
  hosted = remote_host p host remote simple;
  value = rw (path_decoded p path remote common, common_free_of_percent path common) refl;
}

-- a text with a remote scheme and a simple host is a URL
pub remote_spelled : (b rest authority path : List ℕ) (p : Scheme) (user password : Option (List ℕ)) (host : List ℕ) (port : Option ℕ) → IsRemoteScheme p
    → b ≡ scheme_text p ++ (codes "://" ++ rest) → is_common b ≡ true → length b ≤ 64 → rest ≡ authority ++ path → FreeOf slash authority → 0 < length path → begins_with slash path ≡ true
    → HoldsHosted (host_syntax_of (scheme_text p)) (requires_host (scheme_text p)) authority user password (Some host) port → IsSimpleHost host
    → Spells b (remote_location p user password host port path)
remote_spelled b rest authority path p user password host port remote joined common short cut free some begins held simple = by_scheme p remote joined held
  where
    path_common : (scheme : List ℕ) → b ≡ scheme ++ (codes "://" ++ rest) → is_common path ≡ true
    path_common scheme e =
        let suffix = (common_parts scheme (codes "://" ++ rest) (subst (λ s. is_common s ≡ true) e common)).1 in
        let after_mark = (common_parts (codes "://") rest suffix).1 in
        (common_parts authority path (subst (λ s. is_common s ≡ true) cut after_mark)).1

    syntax : (scheme : List ℕ) → FreeOf colon scheme → bytes_eq scheme (codes "file") ≡ false → true ≡ is_scheme_text scheme → b ≡ scheme ++ (codes "://" ++ rest)
        → HoldsHosted (host_syntax_of scheme) (requires_host scheme) authority user password (Some host) port
        → HasUrlSyntax b (record { scheme = scheme; user = user; password = password; host = Some host; port = port; path = path })
    syntax scheme no_colon other named e holds =
        url_of_common b scheme rest authority path user password (Some host) port (is_web_scheme scheme)
        (record { form = url_has_form b scheme rest no_colon e; not_file = other }) refl common short named cut free (inr begins) holds

    by_scheme : (p : Scheme) → IsRemoteScheme p → b ≡ scheme_text p ++ (codes "://" ++ rest) → HoldsHosted (host_syntax_of (scheme_text p)) (requires_host (scheme_text p)) authority user password (Some host) port
        → Spells b (remote_location p user password host port path)
    by_scheme p of_git e holds = url (record { parts = remote_fields git user password host port path; spelled = syntax (codes "git") refl refl refl e holds; means = remote_means git user password host path port of_git simple (path_common (codes "git") e) some })
    by_scheme p of_ssh e holds = url (record { parts = remote_fields ssh user password host port path; spelled = syntax (codes "ssh") refl refl refl e holds; means = remote_means ssh user password host path port of_ssh simple (path_common (codes "ssh") e) some })
    by_scheme p of_http e holds = url (record { parts = remote_fields http user password host port path; spelled = syntax (codes "http") refl refl refl e holds; means = remote_means http user password host path port of_http simple (path_common (codes "http") e) some })
    by_scheme p of_https e holds = url (record { parts = remote_fields https user password host port path; spelled = syntax (codes "https") refl refl refl e holds; means = remote_means https user password host path port of_https simple (path_common (codes "https") e) some })
    by_scheme p (of_helper name spelled unknown) e holds = url (record {
      parts = remote_fields (helper_url name) user password host port path;
      spelled = syntax name (scheme_text_free name colon spelled refl) (unknown_no_file name unknown) (sym spelled) e holds;
      means = subst (λ named. DenotesAs named b (remote_fields (helper_url name) user password host port path) (remote_location (helper_url name) user password host port path))
          (sym (unknown_helper name unknown)) (remote_means (helper_url name) user password host path port (of_helper name spelled unknown) simple (path_common name e) some);
    })

-- a text of simple parts after a remote scheme is a URL
url_spelled : (b : List ℕ) (p : Scheme) (user : Option (List ℕ)) (host path : List ℕ) (port : Option ℕ) → IsRemoteScheme p → HasSimpleParts b user host path → IfSome port IsSimplePort
    → begins_with slash path ≡ true → length b ≤ 64 → b ≡ scheme_text p ++ (codes "://" ++ (raw_user user ++ (host ++ (port_part port ++ path))))
    → Spells b (record (path_alone p false path) { user = user; host = Some host; port = port })
url_spelled b p user host path port remote parts allowed begins short joined =
    let place = host ++ port_part port in
    let authority = raw_user user ++ place in
    let cut = append_assoc (raw_user user) place path ∙ ap (λ t. raw_user user ++ t) (append_assoc host (port_part port) path) in
    let whole = joined ∙ ap (λ r. scheme_text p ++ (codes "://" ++ r)) (sym cut) in
    let held = simple_authority (host_syntax_of (scheme_text p)) (requires_host (scheme_text p)) user host port parts.simple_user parts.simple_host allowed in
    let free = front_free slash user place parts.simple_user (place_free slash host port parts.simple_host allowed refl refl refl) refl refl in
    let found = remote_spelled b (authority ++ path) authority path p user None host port remote whole parts.common short refl free parts.pathed begins held parts.simple_host in
    subst (λ t. Spells b (record (path_alone p false t) { user = user; host = Some host; port = port })) (path_stays p path remote parts.pathed parts.not_home) found

-- ---- all kinds

-- a simple text spells its location
pub simple_spelled : (b : List ℕ) (v : Location) → IsSimpleText b v → Spells b v
simple_spelled b v (helper_text h) = remote_helper h
simple_spelled b v (local_text h) = local_path h
simple_spelled b v (file_text path text begins joined value) =
    file_url (record { host = []; path = path; joined = joined; text = text; no_slash = refl; rooted = begins; value = value })
simple_spelled b v (scp_text user host path parts free no_slashes joined value) = rw value (scp_spelled b user host path parts free no_slashes joined)
simple_spelled b v (url_text p user host path port remote parts allowed begins short joined value) = rw value (url_spelled b p user host path port remote parts allowed begins short joined)
