-- Settled locations of every kind come back.
use Rattle.std.proofs.Common.{◌≡◌, ℕ, true, false, inl, inr, List, Option, Some, None, refl, sym, ap, subst, ◌∙◌, arith}
use Rattle.std.proofs.lemmas.Bool.Decides.{nat_tests}
use Rattle.std.proofs.lemmas.Bool.{or_from, cond-false}
use Rattle.std.specs.Prelude.{codes, bytes_eq, IsSome, IfSome, IsUtf8}
use Rattle.git_syntax.specs.Schemes.{is_ssh_scheme, is_web_scheme, is_known_scheme, host_syntax_of, requires_host}
use Rattle.git_syntax.specs.Bytes.{is_scheme_text}
use Rattle.git_syntax.specs.Location.{Scheme, Location, fields}
use Rattle.git_syntax.specs.Grammar.{Spells}
use Rattle.git_syntax.proofs.Unique.UniqueLemmas.{spells_unique}
use Rattle.git_syntax.specs.Location.Scheme.{file, git, ssh, http, https, ext, helper, helper_url}
use Rattle.git_syntax.specs.Hosts.HostSyntax.{http_hosts, git_hosts, other_hosts}
use Rattle.git_syntax.specs.Schemes.{is_ftp}
use Rattle.git_location.specs.Settled.{IsValue, IsSettledUrl, IsSettledWeb, IsSettledSecure, IsSettledGit, IsSettledHelperUrl, IsSettledBy, IsSettled, IsBracketedHost, IsWeb}
use Rattle.git_laws.specs.Laws.{ComesBack, TextDecides}
use Rattle.git_laws.proofs.Writing.WrittenPieces.{as_read, WritesPath, IsAuthorityPiece}
use Rattle.git_laws.proofs.Writing.WrittenUrlLemmas.{IsUrlScheme, IsReadable, authority_with_host, authority_without_host, readable_spelled, url_readable, url_again, authority_text}
use Rattle.git_laws.proofs.Writing.WrittenPathLemmas.{web_path_written, transport_path_written, other_path_written}
use Rattle.git_laws.proofs.Writing.WrittenWebHostLemmas.{web_host_written}
use Rattle.git_laws.proofs.Writing.WrittenHostLemmas.{bracketed_host_written, bare_host_written}
use Rattle.git_laws.proofs.Writing.WrittenScpLemmas.{scp_again}
use Rattle.git_laws.proofs.Writing.FileLemmas.{file_again}
use Rattle.git_laws.proofs.Writing.KeptLemmas.{local_again, ext_again, helper_again}
use Rattle.git_location.specs.Text.{keeps_host, canonical_text}
use Rattle.git_syntax.specs.Authority.{Authority}
use Rattle.git_location.proofs.Writing.WrittenAsUrlLemmas.{one_text, written_web, written_git, written_secure, written_other}

-- ---- HTTP

http_scheme : IsUrlScheme http
http_scheme = record { scheme_text = refl; not_file = refl; known = refl; not_ext = λ e. cc }

https_scheme : IsUrlScheme https
https_scheme = record { scheme_text = refl; not_file = refl; known = refl; not_ext = λ e. cc }

-- the fields that a reader finds in the text of a settled location of HTTP
pub web_readable : (v : Location) → IsWeb v → IsValue v → IsSettledWeb v → (host : List ℕ) × IsReadable v (Some host)
web_readable v (inl e) is h =
    let (host, there, web) = h.host in
    let writes = web_host_written v host (inl e) web h.port is.port in
    (host, url_readable v http (Some host) e http_scheme h.common (authority_with_host http_hosts v host host h.common is there writes) (λ need. refl) there (web_path_written v (inl e) h.path h.common.path) (written_web v (inl e)))
web_readable v (inr e) is h =
    let (host, there, web) = h.host in
    let writes = web_host_written v host (inr e) web h.port is.port in
    (host, url_readable v https (Some host) e https_scheme h.common (authority_with_host http_hosts v host host h.common is there writes) (λ need. refl) there (web_path_written v (inr e) h.path h.common.path) (written_web v (inr e)))

-- its text is read as the location with the spelling that was written
pub web_spelled : (v : Location) → IsWeb v → IsValue v → IsSettledWeb v → Spells (canonical_text v) (as_read v)
web_spelled v web is h = grind (arith, nat_tests, web_readable, readable_spelled)

-- a location that is read has the host, the port and the path of the location
web_as_read : (v : Location) → IsSettledWeb v → IsSettledUrl (as_read v) → IsSettledWeb (as_read v)
web_as_read v h common = record { common = common; host = h.host; port = h.port; path = h.path }

-- a settled location of HTTP comes back
web_again : (v : Location) → IsWeb v → IsValue v → IsSettledWeb v → (back : ComesBack v) × IsSettled back.reread
web_again v (inl e) is h =
    let (host, readable) = web_readable v (inl e) is h in
    url_again v http (Some host) e h.common readable (written_web v (inl e)) (written_web (as_read v) (inl e)) (web_as_read v h)
web_again v (inr e) is h =
    let (host, readable) = web_readable v (inr e) is h in
    url_again v https (Some host) e h.common readable (written_web v (inr e)) (written_web (as_read v) (inr e)) (web_as_read v h)

-- ---- Secure Shell

ssh_scheme : IsUrlScheme ssh
ssh_scheme = record { scheme_text = refl; not_file = refl; known = refl; not_ext = λ e. cc }

-- the fields that a reader finds in the text of a settled URL of Secure Shell
pub secure_readable : (v : Location) → v.scheme ≡ ssh → IsValue v → IsSettledSecure v → (named : List ℕ) × IsReadable v (Some named)
secure_readable v e is h =
    let (host, there, unbracketed) = h.host in
    let (named, writes, peels) = bare_host_written v host e unbracketed (subst (λ o. IfSome o IsUtf8) there is.host) is.port in
    let (path, homed, raw) = transport_path_written v (inl e) h.path h.url.common.path h.url.raw in
    (named, url_readable v ssh (Some named) e ssh_scheme h.url.common (authority_with_host git_hosts v host named h.url.common is there writes) (λ need. refl) (host, peels, there) path (written_secure v e h.path))

-- a settled URL of Secure Shell comes back
secure_again : (v : Location) → v.scheme ≡ ssh → IsValue v → IsSettledSecure v → (back : ComesBack v) × IsSettled back.reread
secure_again v e is h =
    let (named, readable) = secure_readable v e is h in
    let (path, homed, raw) = transport_path_written v (inl e) h.path h.url.common.path h.url.raw in
    url_again v ssh (Some named) e h.url.common readable (written_secure v e h.path) (written_secure (as_read v) e homed) (λ c. inr record { url = record { common = c; raw = raw }; host = h.host; path = homed })

-- ---- Git's own protocol

git_scheme : IsUrlScheme git
git_scheme = record { scheme_text = refl; not_file = refl; known = refl; not_ext = λ e. cc }

-- the fields that a reader finds in the text of a settled URL of Git's own protocol
pub git_readable : (v : Location) → v.scheme ≡ git → IsValue v → IsSettledGit v → (host : List ℕ) × IsReadable v (Some host)
git_readable v e is h =
    let (host, there, bracketed) = h.host in
    let writes = bracketed_host_written git_hosts v host (λ e. cc) (ap keeps_host e) bracketed (subst (λ o. IfSome o IsUtf8) there is.host) is.port in
    let (path, homed, raw) = transport_path_written v (inr e) h.path h.url.common.path h.url.raw in
    (host, url_readable v git (Some host) e git_scheme h.url.common (authority_with_host git_hosts v host host h.url.common is there writes) (λ need. refl) there path (written_git v e))

-- a settled URL of Git's own protocol comes back
git_again : (v : Location) → v.scheme ≡ git → IsValue v → IsSettledGit v → (back : ComesBack v) × IsSettled back.reread
git_again v e is h =
    let (host, readable) = git_readable v e is h in
    let (path, homed, raw) = transport_path_written v (inr e) h.path h.url.common.path h.url.raw in
    url_again v git (Some host) e h.url.common readable (written_git v e) (written_git (as_read v) e) (λ c. record { url = record { common = c; raw = raw }; host = h.host; path = homed })

-- ---- other schemes

-- the schemes that a scheme isn't that has no name of its own
pub record IsOther (name : List ℕ) : Type 0 where
  pub not_ssh : is_ssh_scheme name ≡ false
  pub not_web : is_web_scheme name ≡ false
  pub not_file : bytes_eq name (codes "file") ≡ false
  pub not_git : bytes_eq name (codes "git") ≡ false
  pub not_ext : bytes_eq name (codes "ext") ≡ false

pub other_scheme : (name : List ℕ) → is_known_scheme name ≡ false → IsOther name
other_scheme name h = grind arith

-- how the host of such a scheme is read
other_mode : (name : List ℕ) → IsOther name → host_syntax_of name ≡ other_hosts
other_mode name h = cond-false _ _ _ h.not_web ∙ cond-false _ _ _ (or_from _ _ h.not_ssh h.not_git)

-- it needs a host if it is one of FTP
other_hosted : (name : List ℕ) → IsOther name → requires_host name ≡ is_ftp name
other_hosted name h = grind arith

helper_url_scheme : (name : List ℕ) → is_scheme_text name ≡ true → IsOther name → IsUrlScheme (helper_url name)
helper_url_scheme name spelled h = grind arith

-- the fields that a reader finds in the text of a settled URL of another scheme, with its host or without one
pub other_readable : (name : List ℕ) (v : Location) (host : Option (List ℕ)) → v.scheme ≡ helper_url name → v.host ≡ host → IsValue v → IsSettledHelperUrl name v → IsReadable v host
other_readable name v None e there is h =
    let other = other_scheme name h.unknown in
    let (path, raw) = other_path_written v name e h.path h.url.common.path h.url.raw in
    let authority = authority_without_host (host_syntax_of name) v h.url.common there in
    let required : requires_host name ≡ true → IsSome {T = List ℕ} None = λ need. subst IsSome there (h.hosted (sym (other_hosted name other) ∙ need)) in
    url_readable v (helper_url name) None e (helper_url_scheme name h.scheme_text other) h.url.common authority required there (subst (λ web. WritesPath web v) (sym other.not_web) path) (written_other v name e h.scheme_text)
other_readable name v (Some host) e there is h =
    let other = other_scheme name h.unknown in
    let bracketed = subst (λ o. IfSome o IsBracketedHost) there h.host in
    let writes = bracketed_host_written other_hosts v host (λ e. cc) (ap keeps_host e) bracketed (subst (λ o. IfSome o IsUtf8) there is.host) is.port in
    let (path, raw) = other_path_written v name e h.path h.url.common.path h.url.raw in
    let authority = subst (λ syntax. Authority syntax (authority_text v) v.user v.password (Some host) v.port × IsAuthorityPiece (authority_text v)) (sym (other_mode name other)) (authority_with_host other_hosts v host host h.url.common is there writes) in
    url_readable v (helper_url name) (Some host) e (helper_url_scheme name h.scheme_text other) h.url.common authority (λ need. refl) there (subst (λ web. WritesPath web v) (sym other.not_web) path) (written_other v name e h.scheme_text)

-- a settled URL of another scheme comes back
other_again : (name : List ℕ) (v : Location) → v.scheme ≡ helper_url name → IsValue v → IsSettledHelperUrl name v → (back : ComesBack v) × IsSettled back.reread
other_again name v e is h =
    let readable = other_readable name v v.host e refl is h in
    let (path, raw) = other_path_written v name e h.path h.url.common.path h.url.raw in
    url_again v (helper_url name) v.host e h.url.common readable (written_other v name e h.scheme_text) (written_other (as_read v) name e h.scheme_text) (λ c. record { url = record { common = c; raw = raw }; scheme_text = h.scheme_text; unknown = h.unknown; host = h.host; hosted = h.hosted; path = h.path })

-- ---- all kinds

-- by scheme
again_by : (p : Scheme) (v : Location) → v.scheme ≡ p → IsValue v → IsSettledBy p v → (back : ComesBack v) × IsSettled back.reread
again_by file v e is (inl h) = local_again v e h
again_by file v e is (inr h) = file_again v e is h
again_by ssh v e is (inl h) = scp_again v e is h
again_by ssh v e is (inr h) = secure_again v e is h
again_by git v e is h = git_again v e is h
again_by http v e is h = web_again v (inl e) is h
again_by https v e is h = web_again v (inr e) is h
again_by ext v e is h = ext_again v e h
again_by (helper name) v e is h = helper_again name v e h.1 h.0
again_by (helper_url name) v e is h = other_again name v e is h

-- a settled location comes back as a settled one
pub settled_again : (v : Location) → IsValue v → IsSettled v → (back : ComesBack v) × IsSettled back.reread
settled_again v is h = again_by v.scheme v refl is h

-- settled locations with one text have the same fields
pub text_decides : TextDecides
text_decides v w is_v is_w settled_v settled_w same =
    let (back, again) = settled_again v is_v settled_v in
    let (other, also) = settled_again w is_w settled_w in
    let one : back.written ≡ other.written = one_text back.has_text (same ∙ other.has_text) in
    let read : back.reread ≡ other.reread = spells_unique other.written back.reread other.reread (subst (λ t. Spells t back.reread) one back.spelled) other.spelled in
    sym back.same_fields ∙ ap (λ l. fields l) read ∙ other.same_fields
