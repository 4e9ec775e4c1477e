-- The texts of URLs of the class: plain parts, each as it is.
use Rattle.std.proofs.Common.{◌≡◌, ◌∙◌, ◌<◌, ℕ, Bool, true, false, not, ◌&&◌, List, [], ◌∷◌, ◌++◌, Option, Some, None, IfSome, IsSome, Ok, if◌then◌else◌, unwrap_or, codes, length, inl, inr, refl, sym, ap, subst, arith, append_assoc, ⊎_elim, ◌==◌}
use Rattle.std.specs.List.{list_all}
use Rattle.std.proofs.lemmas.Bool.Decides.{nat_tests}
use Rattle.std.proofs.lemmas.Bool.{cond-true, cond-false, and_left, false≢true, both_ways}
use Rattle.percent_encoding.specs.Percent.{percent_encode}
use Rattle.git_syntax.specs.Location.{Scheme, Location}
use Rattle.git_syntax.specs.Location.Scheme.{file, git, ssh, http, https, ext, helper, helper_url}
use Rattle.git_syntax.specs.Bytes.{slash, colon, at_sign, begins_by, begins_with, is_path_start, is_scheme_text, tilde}
use Rattle.git_syntax.specs.Escapes.{matches, password_set, user_set}
use Rattle.git_syntax.specs.Schemes.{requires_path, scheme_text}
use Rattle.git_syntax.specs.AddressTest.{is_ipv6_text}
use Rattle.git_syntax.specs.Hosts.{port_part}
use Rattle.git_syntax.proofs.Texts.CutLemmas.{free_of_all}
use Rattle.git_location.specs.Text.{canonical_path, canonical_text, host_part, keeps_host, needs_brackets, plain_path, text, user_information, root_part}
use Rattle.git_location.specs.Settled.{HasCredentials, IsHosted, IsSettledBy, IsSettledFile, IsSettledGit, IsSettledSecure, IsSettledUrl, IsValue, IsWeb, IsTransportPath}
use Rattle.git_class.specs.GitClass.{AgreesBy, SuitsTransport}
use Rattle.git_class.specs.WebClass.{AgreesOverWeb}
use Rattle.git_location.proofs.SettledClass.SettledLemmas.{settled_as_web}
use Rattle.git_location.proofs.Writing.WrittenAsUrlLemmas.{written_git, written_secure, written_web}
use Rattle.git_laws.proofs.ComponentCuts.ComponentLemmas.{unmatched}
use Rattle.git_laws.proofs.Writing.FileLemmas.{hostless_text}
use Rattle.git_laws.proofs.Writing.WrittenUrlLemmas.{canonical_cut}
use Rattle.git_readers.specs.declared.unambiguous.Condition.TheVariants as condition
use Rattle.git_readers.specs.Conditions.{BeginsPlainly, HasPlainBytes, IsUnambiguous, LacksDots, form_of}
use Rattle.git_readers.specs.declared.unambiguous.Form.{Form}
use Rattle.git_readers.specs.declared.unambiguous.Form.TheVariants as form
use Rattle.git_readers.specs.Readers.{path_in_text}
use Rattle.git_readers.specs.Unambiguous.{HasDots, IsCommonHost, IsPlainUser, IsPlainWord, is_path_byte, is_unreserved}
use Rattle.git_readers.proofs.PartLemmas.{dots_cut, no_empty_dots}
use Rattle.git_readers.proofs.PlainBytes.{host_plain, password_kept, path_kept, user_kept}
use Rattle.git_readers.proofs.ReaderUrls.{ArePlain, IsPlainPath, authority_of, plain_information, with_at}

-- ---- the pieces as they are written

-- plain user information is written as it is
information_written : (user password : Option (List ℕ)) → IfSome user IsPlainWord → IfSome password IsPlainWord → user_information user password ≡ with_at (plain_information user password)
information_written None password plain hidden = refl
information_written (Some u) None plain hidden = ap (λ x. x ++ at_sign ∷ []) (user_kept u plain.bytes)
information_written (Some u) (Some p) plain hidden =
    ap (λ x. x ++ ((colon ∷ percent_encode password_set p) ++ at_sign ∷ [])) (user_kept u plain.bytes) ∙ ap (λ x. u ++ ((colon ∷ x) ++ at_sign ∷ [])) (password_kept p hidden.bytes) ∙ sym (append_assoc u (colon ∷ p) (at_sign ∷ []))

-- whichever way a scheme has of writing hosts, a plain host is written as it is
either_way : (keeps address : Bool) (h : List ℕ) → list_all is_unreserved h ≡ true → (if keeps then h else (if address then percent_encode password_set h else percent_encode user_set h)) ≡ h
either_way true address h plain = refl
either_way false true h plain = password_kept h plain
either_way false false h plain = user_kept h plain

host_written : (v : Location) (host : Option (List ℕ)) → IfSome host IsCommonHost → host_part v host ≡ unwrap_or host []
host_written v None plain = refl
host_written v (Some h) plain =
    let bytes = host_plain h plain in
    let bare : needs_brackets v.port h ≡ false = and_left _ _ (and_left _ _ (free_of_all is_unreserved colon h bytes refl)) in
    cond-false _ _ _ bare ∙ either_way (keeps_host v.scheme) (is_ipv6_text h) h bytes

-- a plain path is written as it is by each scheme's rule
plainly : (scheme : Scheme) (path : List ℕ) → list_all is_path_byte path ≡ true → plain_path scheme path ≡ path
plainly file path plain = refl
plainly git path plain = refl
plainly ssh path plain = refl
plainly http path plain = path_kept path plain
plainly https path plain = path_kept path plain
plainly ext path plain = refl
plainly (helper name) path plain = refl
plainly (helper_url name) path plain = refl

no_root : (needs : Bool) (path : List ℕ) → begins_with slash path ≡ true → (if needs && not (begins_with slash path) then slash ∷ [] else []) ≡ []
no_root false path rooted = refl
no_root true path rooted = rw rooted refl

-- a `/` is written before a path below a home folder
a_root : (needs : Bool) (path : List ℕ) → needs ≡ true → begins_with slash path ≡ false → (if needs && not (begins_with slash path) then slash ∷ [] else []) ≡ slash ∷ []
a_root needs path needed other = rw (needed, other) refl

-- a path that begins with one byte begins with no other
other_begins : (a b : ℕ) (path : List ℕ) → (a == b) ≡ false → begins_with a path ≡ true → begins_with b path ≡ false
other_begins a b [] apart begins = refl
other_begins a b (c ∷ path) apart begins = grind (arith, nat_tests)

-- the path as it is in the text of a URL
abbrev pub url_path : Location → List ℕ
url_path v = path_in_text false v.path

-- a path in the text of a URL: rooted, of plain bytes, without dots
pub record IsWrittenPath (v : Location) : Type 0 where
  pub written : canonical_path v ≡ url_path v
  pub rooted : begins_with slash (url_path v) ≡ true
  pub plain : IsPlainPath (url_path v)

path_written : (v : Location) → matches v.spelling v.path ≡ false → list_all is_path_byte v.path ≡ true → canonical_path v ≡ root_part v ++ v.path
path_written v none plain =
    ap (λ x. root_part v ++ x) (unmatched v.spelling v.path (plain_path v.scheme v.path) none ∙ plainly v.scheme v.path plain)

-- a rooted path is written as it is
rooted_written : (v : Location) → matches v.spelling v.path ≡ false → list_all is_path_byte v.path ≡ true → ¬ HasDots v.path → begins_with slash v.path ≡ true → IsWrittenPath v
rooted_written v none plain no_dots rooted =
    let same : url_path v ≡ v.path = cond-false _ _ _ (other_begins slash tilde v.path refl rooted) in record {
      written = path_written v none plain ∙ ap (λ x. x ++ v.path) (no_root (requires_path v.scheme) v.path rooted) ∙ sym same;
      rooted = ap (λ x. begins_with slash x) same ∙ rooted;
      plain = subst IsPlainPath (sym same) record { bytes = plain; no_dots = no_dots };
    }

-- no segment is `.` or `..` if a `/` is before the path
no_dots_after : (path : List ℕ) → ¬ HasDots path → ¬ HasDots (slash ∷ path)
no_dots_after path none has = ⊎_elim (λ dots. no_empty_dots dots) none (dots_cut (slash ∷ path) [] path refl refl has)

-- a path below a home folder is written with a `/` before it
home_written : (v : Location) → matches v.spelling v.path ≡ false → list_all is_path_byte v.path ≡ true → ¬ HasDots v.path → begins_with tilde v.path ≡ true → requires_path v.scheme ≡ true → IsWrittenPath v
home_written v none plain no_dots home needed =
    let same : url_path v ≡ slash ∷ v.path = cond-true _ _ _ home in record {
      written = path_written v none plain ∙ ap (λ x. x ++ v.path) (a_root (requires_path v.scheme) v.path needed (other_begins tilde slash v.path refl home)) ∙ sym same;
      rooted = ap (λ x. begins_with slash x) same;
      plain = subst IsPlainPath (sym same) record { bytes = plain; no_dots = no_dots_after v.path no_dots };
    }

-- a path of Git's transports is either
transport_written : (v : Location) → matches v.spelling v.path ≡ false → list_all is_path_byte v.path ≡ true → ¬ HasDots v.path → IsTransportPath v → requires_path v.scheme ≡ true → IsWrittenPath v
transport_written v none plain no_dots (inl rooted) needed = rooted_written v none plain no_dots rooted.0
transport_written v none plain no_dots (inr home) needed = home_written v none plain no_dots home.0 needed

-- ---- the text

-- the text of a URL of plain parts
abbrev pub url_of : Location → List ℕ
url_of v = scheme_text v.scheme ++ (codes "://" ++ (authority_of v.user v.password v.host v.port ++ url_path v))

-- the location is written as such a URL
pub record IsPlainUrl (v : Location) : Type 0 where
  pub written : text v ≡ Ok (url_of v)
  pub parts : ArePlain v.user v.password v.host v.port
  pub path : IsPlainPath (url_path v)
  pub rooted : begins_with slash (url_path v) ≡ true
  pub scheme : is_scheme_text (scheme_text v.scheme) ≡ true
  pub plain : list_all is_unreserved (scheme_text v.scheme) ≡ true

-- a plain user is a plain word
pub users_plain : (user : Option (List ℕ)) → IfSome user IsPlainUser → IfSome user IsPlainWord
users_plain None plain = tt
users_plain (Some u) plain = plain.word

-- a password comes with a user
with_user : (password user : Option (List ℕ)) → IfSome password (λ p. (0 < length p) × IsSome user) → IsSome password → IsSome user
with_user None user h there = absurd (false≢true there)
with_user (Some p) user h there = h.1

-- the conditions that the parts of a settled URL impose on each other
parts_plain : (v : Location) → IsValue v → IsUnambiguous v → HasCredentials v → IsHosted v → ArePlain v.user v.password v.host v.port
parts_plain v is clear credentials hosted = record {
  user = users_plain v.user (clear condition.User);
  password = clear condition.Password;
  host = clear condition.Host;
  port = is.port;
  with_user = with_user v.password v.user credentials.0;
  port_hosted = hosted.1;
}

-- the text of a URL of plain parts is the text of a URL
canonical_plain : (v : Location) → IsUnambiguous v → canonical_path v ≡ url_path v → canonical_text v ≡ url_of v
canonical_plain v clear path =
    let information = information_written v.user v.password (users_plain v.user (clear condition.User)) (clear condition.Password) in
    let host = host_written v v.host (clear condition.Host) in
    let front = ap (λ x. x ++ (host_part v v.host ++ port_part v.port)) information ∙ ap (λ x. with_at (plain_information v.user v.password) ++ (x ++ port_part v.port)) host in
    canonical_cut v ∙ ap (λ x. scheme_text v.scheme ++ (codes "://" ++ (x ++ canonical_path v))) front ∙ ap (λ x. scheme_text v.scheme ++ (codes "://" ++ (authority_of v.user v.password v.host v.port ++ x))) path

-- a settled URL without the flag, with a plain path, is one of plain parts
plain_url : (v : Location) → IsValue v → IsUnambiguous v → IsSettledUrl v → text v ≡ Ok (canonical_text v) → IsWrittenPath v → is_scheme_text (scheme_text v.scheme) ≡ true → list_all is_unreserved (scheme_text v.scheme) ≡ true → IsPlainUrl v
plain_url v is clear common written path scheme plain = record {
  written = written ∙ ap Ok (canonical_plain v clear path.written);
  parts = parts_plain v is clear common.credentials common.hosted;
  path = path.plain;
  rooted = path.rooted;
  scheme = scheme;
  plain = plain;
}

-- ---- by the scheme

-- the facts about the path that follow from the conditions, by the form
pub record PathMeets (v : Location) (f : Form) : Type 0 where
  pub bytes : HasPlainBytes f v.path
  pub start : BeginsPlainly f v.path
  pub dots : LacksDots f v.path

pub path_meets : (v : Location) → IsUnambiguous v → (p : Scheme) (b : Bool) → v.scheme ≡ p → v.flag ≡ b → PathMeets v (form_of p b)
path_meets v clear p b e flag =
    let start : PathMeets v (form_of v.scheme v.flag) = record { bytes = clear condition.PathBytes; start = clear condition.PathStart; dots = clear condition.DotSegment } in
    subst (λ s. PathMeets v (form_of s b)) e (subst (λ f. PathMeets v (form_of v.scheme f)) flag start)

-- a path of plain bytes that may start at a `?` or a `#` begins with `/`
web_rooted : (path : List ℕ) → begins_by (is_path_start true) path ≡ true → list_all is_path_byte path ≡ true → begins_with slash path ≡ true
web_rooted [] start plain = absurd (false≢true start)
web_rooted (b ∷ bs) start plain = grind (arith, nat_tests)

-- of HTTP
web_url : (v : Location) → IsWeb v → IsValue v → AgreesOverWeb v → IsUnambiguous v → v.flag ≡ false → PathMeets v form.Web → is_scheme_text (scheme_text v.scheme) ≡ true → list_all is_unreserved (scheme_text v.scheme) ≡ true → IsPlainUrl v
web_url v web is a clear unflagged path scheme plain =
    let w = settled_as_web v web a.settled in
    plain_url v is clear w.common ((written_web v web).canonical unflagged w.common.hosted) (rooted_written v (clear condition.Escapes) path.bytes path.dots (web_rooted v.path w.path path.bytes)) scheme plain

-- of Secure Shell
secure_url : (v : Location) → v.scheme ≡ ssh → IsValue v → IsSettledSecure v → IsUnambiguous v → v.flag ≡ false → PathMeets v form.Transport → IsPlainUrl v
secure_url v e is h clear unflagged path =
    plain_url v is clear h.url.common ((written_secure v e h.path).canonical unflagged h.url.common.hosted) (transport_written v (clear condition.Escapes) path.bytes path.dots h.path (subst (λ s. requires_path s ≡ true) (sym e) refl)) (subst (λ s. is_scheme_text (scheme_text s) ≡ true) (sym e) refl) (subst (λ s. list_all is_unreserved (scheme_text s) ≡ true) (sym e) refl)

-- of Git's own protocol
git_url : (v : Location) → v.scheme ≡ git → IsValue v → IsSettledGit v → IsUnambiguous v → v.flag ≡ false → PathMeets v form.Transport → IsPlainUrl v
git_url v e is h clear unflagged path =
    plain_url v is clear h.url.common ((written_git v e).canonical unflagged h.url.common.hosted) (transport_written v (clear condition.Escapes) path.bytes path.dots h.path (subst (λ s. requires_path s ≡ true) (sym e) refl)) (subst (λ s. is_scheme_text (scheme_text s) ≡ true) (sym e) refl) (subst (λ s. list_all is_unreserved (scheme_text s) ≡ true) (sym e) refl)

-- of a file, which has neither user nor host nor port
file_of : (v : Location) → v.user ≡ None → v.password ≡ None → v.host ≡ None → v.port ≡ None → v.scheme ≡ file → v.path ≡ url_path v → codes "file://" ++ v.path ≡ url_of v
file_of v user password host port e path = λ i. scheme_text (sym e i) ++ (codes "://" ++ (authority_of (sym user i) (sym password i) (sym host i) (sym port i) ++ path i))

file_url : (v : Location) → v.scheme ≡ file → v.host ≡ None → IsSettledFile v → PathMeets v form.Transport → IsValue v → IsUnambiguous v → IsPlainUrl v
file_url v e none h path is clear =
    let same : url_path v ≡ v.path = cond-false _ _ _ (other_begins slash tilde v.path refl h.rooted) in record {
      written = hostless_text v e h none ∙ ap Ok (file_of v h.alone.0 h.alone.1 none h.alone.2 e (sym same));
      parts = record {
        user = users_plain v.user (clear condition.User);
        password = clear condition.Password;
        host = clear condition.Host;
        port = is.port;
        with_user = λ there. absurd (false≢true (subst IsSome h.alone.1 there));
        port_hosted = λ there. absurd (false≢true (subst IsSome h.alone.2 there));
      };
      path = subst IsPlainPath (sym same) record { bytes = path.bytes; no_dots = path.dots };
      rooted = ap (λ x. begins_with slash x) same ∙ h.rooted;
      scheme = subst (λ s. is_scheme_text (scheme_text s) ≡ true) (sym e) refl;
      plain = subst (λ s. list_all is_unreserved (scheme_text s) ≡ true) (sym e) refl;
    }

-- ---- every scheme

-- a flagged location has no text of a URL without the flag
flagged_not : {A : Type 0} (v : Location) → v.flag ≡ true → v.flag ≡ false → A
flagged_not v flagged unflagged = absurd (both_ways v.flag unflagged flagged)

secure_by : (v : Location) → v.scheme ≡ ssh → IsValue v → IsSettledBy ssh v → IsUnambiguous v → v.flag ≡ false → IsPlainUrl v
secure_by v e is (inl scp) clear unflagged = flagged_not v scp.flagged unflagged
secure_by v e is (inr url) clear unflagged = secure_url v e is url clear unflagged (path_meets v clear ssh false e unflagged)

file_by : (v : Location) → v.scheme ≡ file → IsValue v → v.host ≡ None → IsSettledBy file v → IsUnambiguous v → v.flag ≡ false → IsPlainUrl v
file_by v e is none (inl path) clear unflagged = flagged_not v path.bare.0 unflagged
file_by v e is none (inr url) clear unflagged = file_url v e none url (path_meets v clear file false e unflagged) is clear

-- a location of the class without the flag, by its scheme
url_by : (p : Scheme) (v : Location) → v.scheme ≡ p → IsValue v → IsUnambiguous v → v.flag ≡ false → AgreesBy p v → IsPlainUrl v
url_by file v e is clear unflagged a = file_by v e is (subst (λ s. SuitsTransport s v) e a.suits).0 (subst (λ s. IsSettledBy s v) e a.settled) clear unflagged
url_by git v e is clear unflagged a = git_url v e is (subst (λ s. IsSettledBy s v) e a.settled) clear unflagged (path_meets v clear git false e unflagged)
url_by ssh v e is clear unflagged a = secure_by v e is (subst (λ s. IsSettledBy s v) e a.settled) clear unflagged
url_by http v e is clear unflagged a =
    web_url v (inl e) is a clear unflagged (path_meets v clear http false e unflagged) (subst (λ s. is_scheme_text (scheme_text s) ≡ true) (sym e) refl) (subst (λ s. list_all is_unreserved (scheme_text s) ≡ true) (sym e) refl)
url_by https v e is clear unflagged a =
    web_url v (inr e) is a clear unflagged (path_meets v clear https false e unflagged) (subst (λ s. is_scheme_text (scheme_text s) ≡ true) (sym e) refl) (subst (λ s. list_all is_unreserved (scheme_text s) ≡ true) (sym e) refl)
url_by ext v e is clear unflagged a = absurd (subst (λ s. SuitsTransport s v) e a.suits)
url_by (helper name) v e is clear unflagged a = absurd (subst (λ s. SuitsTransport s v) e a.suits)
url_by (helper_url name) v e is clear unflagged a = absurd (subst (λ s. SuitsTransport s v) e a.suits)

-- a location of the class without the flag is written as a URL of plain parts
pub url_text : (v : Location) → IsValue v → IsUnambiguous v → v.flag ≡ false → IsPlainUrl v
url_text v is clear unflagged = url_by v.scheme v refl is clear unflagged (clear condition.Git)
