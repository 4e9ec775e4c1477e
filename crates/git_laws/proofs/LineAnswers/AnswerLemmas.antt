-- The answer to a line is one line: the text that is printed for a line without byte 10 has none.
use Rattle.std.proofs.Common.{◌≡◌, ℕ, ◌<◌, Bool, false, not, ◌⊎◌, inl, inr, List, [], ◌∷◌, ◌++◌, append_assoc, append-nil, All, Option, Some, IfSome, IsUtf8, Ok, codes, refl, sym, ap, subst, ◌∙◌, arith}
use Rattle.std.proofs.lemmas.Bool.Decides.{nat_tests}
use Rattle.std.proofs.lemmas.Bool.{and_left, both_ways, cases_Bool, cond-true, cond-false, false≢true}
use Rattle.std.proofs.lemmas.List.Elements.{All-append, All-cons, All-head, All-nil, All-tail}
use Rattle.std.proofs.lemmas.Option.{same_Some}
use Rattle.percent_encoding.specs.Percent.{percent_decode, percent_encode}
use Rattle.git_syntax.specs.declared.escape.TheConstants.{PATH}
use Rattle.git_syntax.specs.declared.refusal.UrlFault.{UrlFault}
use Rattle.git_refusals.specs.declared.refusal.Refusal.{Refusal}
use Rattle.git_refusals.specs.declared.reason.RefusalKind.{RefusalKind}
use Rattle.git_refusals.specs.Kinds.{kind_of}
use Rattle.git_syntax.specs.Location.{Scheme, Location}
use Rattle.git_syntax.specs.Location.Scheme.{git, ssh, http, https, helper_url}
use Rattle.git_syntax.specs.Bytes.{tab, newline, colon, at_sign, left_bracket, right_bracket, FreeOf, lowercase}
use Rattle.git_syntax.specs.Addresses.{Literal}
use Rattle.git_syntax.specs.Hosts.{HostSyntax, Number, SpellsHostPort, is_http_host_byte, port_part, raw_user}
use Rattle.git_syntax.specs.Schemes.{scheme_of, scheme_text, host_syntax_of}
use Rattle.git_syntax.specs.Authority.{unless_empty, Authority}
use Rattle.git_syntax.specs.Authority.Authority.{host_alone, with_user}
use Rattle.git_syntax.specs.Grammar.{UrlSyntax, HasUrlSyntax, DenotesByScheme, DenotesAs, SpellsFile, SpellsScpBefore, SpellsScpAddressed, ScpUser, Spells, scp_location, from_home}
use Rattle.git_location.specs.Text.{keeps_host, open_host, canonical_host, host_part, user_information, root_part, plain_path, matching_or, canonical_path, raw_host, text}
use Rattle.git_location.specs.Settled.{HasMatch, IsRawPath, IsWeb, IsWebHost, IsNormalName, IsBareHost, IsBracketedHost, IsScpName, IsNormalAddress, IsSettledUrl, IsSettledWeb, IsSettledSecure, IsSettledGit, IsSettledHelperUrl, IsSettledBy, IsSettled}
use Rattle.git_location.specs.Settled.IsWebHost.{literal, literal_colon, named, named_colon}
use Rattle.git_location.specs.Internal.SettledPieces.{IsWrittenAsUrl}
use Rattle.git_location.specs.Answers.{ended_lines, last_line, fault_name, error_name, refusal_name, reported_line, IsReported, IsAnswer, AnswersEach}
use Rattle.git_laws.specs.AnswerLaws.{IsEndedLine, OneLine, AreAnswered, LineForLine}
use Rattle.git_syntax.proofs.Texts.CutLemmas.{free-append, free-cons, free_head_tail, free_of_all, free_parts, helper_name_free, scheme_text_free}
use Rattle.git_syntax.proofs.Texts.EscapeLemmas.{encode_free, lacks_escaped_percents, no_line}
use Rattle.git_syntax.proofs.Texts.EscapeSets.{path_holds, password_holds, user_holds}
use Rattle.git_syntax.proofs.Addresses.AddressLemmas.{address_free, address-lowercase}
use Rattle.git_syntax.proofs.Parsing.SchemeLemmas.{scheme_cases, helper_cases, means_scheme}
use Rattle.git_location.proofs.SettledClass.UnchangedLemmas.{helper_unchanged, local_unchanged}
use Rattle.git_laws.proofs.Writing.PieceTextLemmas.{port_piece}
use Rattle.git_laws.proofs.Writing.WrittenPathLemmas.{matching_cases}
use Rattle.git_syntax.proofs.Parsing.ScpLemmas.{scp_denoted_utf8}
use Rattle.git_laws.proofs.Writing.WrittenScpLemmas.{scp_written}
use Rattle.git_location.proofs.Writing.WrittenAsUrlLemmas.{one_text, written_web, written_git, written_secure, written_other}

-- ---- a user, hosts and ports

-- user information is written without a line's end
user_line : (user password : Option (List ℕ)) → FreeOf newline (user_information user password)
user_line user password = grind (arith, nat_tests, free-append, encode_free, user_holds, free-cons, password_holds)

-- so is a host that is escaped
open_line : (p : Scheme) (host : List ℕ) → keeps_host p ≡ false → FreeOf newline (open_host p host)
open_line p host h2 = grind (arith, nat_tests, cond-false, cond-true, encode_free, password_holds, user_holds, cases_Bool)

-- brackets hold no line's end if neither the text in them nor the rest does
bracketed_line : (inner rest : List ℕ) → FreeOf newline inner → FreeOf newline rest → FreeOf newline (left_bracket ∷ (inner ++ right_bracket ∷ rest))
bracketed_line inner rest free suffix =
    free-cons newline left_bracket (inner ++ right_bracket ∷ rest) refl (free-append newline inner (right_bracket ∷ rest) free (free-cons newline right_bracket rest refl suffix))

-- a host without one is written without one
unmarked_line : (p : Scheme) (host : List ℕ) → FreeOf newline host → FreeOf newline (open_host p host)
unmarked_line p host h2 = grind (arith, nat_tests, cond-true, open_line, cases_Bool)

host_line : (v : Location) (host : List ℕ) → FreeOf newline host → FreeOf newline (canonical_host v host)
host_line v host h2 = grind (arith, nat_tests, cond-true, bracketed_line, lacks_escaped_percents, cond-false, unmarked_line, cases_Bool)

-- a name is escaped
name_line : (v : Location) (host : List ℕ) → keeps_host v.scheme ≡ false → IsNormalName host → FreeOf newline (canonical_host v host)
name_line v host h2 h3 = grind (arith, nat_tests, and_left, cond-false, open_line)

-- a settled host of Secure Shell is written without a line's end
bare_line : (v : Location) (host : List ℕ) → keeps_host v.scheme ≡ false → IsBareHost host → FreeOf newline (canonical_host v host)
bare_line v host escapes (inl name) = name_line v host escapes name
bare_line v host escapes (inr is) = host_line v host (address_free newline host refl is.address)

-- so is one of Git's own protocol or of another scheme
part_line : (v : Location) (host : Option (List ℕ)) → keeps_host v.scheme ≡ false → IfSome host IsBracketedHost → FreeOf newline (host_part v host)
part_line v host h2 h3 = grind (arith, nat_tests, name_line, host_line, bracketed_line, address_free)

-- a literal holds none
literal_line : (t n : List ℕ) → Literal t n → FreeOf newline t
literal_line t n h2 = grind (arith, nat_tests, address_free, free-append, codes, free_of_all)

-- nor does a settled host of HTTP
web_line : (port : Option ℕ) (host : List ℕ) → IsWebHost port host → FreeOf newline host
web_line port host (literal n is e) = subst (λ t. FreeOf newline t) (sym e) (bracketed_line n [] (literal_line n n is) refl)
web_line port host (literal_colon n is p e) = subst (λ t. FreeOf newline t) (sym e) (bracketed_line n (colon ∷ []) (literal_line n n is) refl)
web_line port host (named is) = free_of_all is_http_host_byte newline host is.bytes refl
web_line port host (named_colon n is plain p e) =
    subst (λ t. FreeOf newline t) (sym e) (free-append newline n (colon ∷ []) (free_of_all is_http_host_byte newline n is.bytes refl) refl)

-- a number in the port's place is a port
abbrev IsPort : Option ℕ → Type 0
IsPort port = IfSome port (λ p. p < 65536)

number_port : (syntax : HostSyntax) (digits : List ℕ) (n : ℕ) → Number syntax digits n → IsPort (Some n)
number_port syntax digits n number = let within = number.within in omega arith

-- so is one that is named
named_port : (syntax : HostSyntax) (piece : List ℕ) (host : Option (List ℕ)) (port : Option ℕ) → SpellsHostPort syntax piece host port → IsPort port
named_port syntax piece host port h4 = grind (arith, nat_tests, number_port)

-- and that of an authority
authority_port : (syntax : HostSyntax) (b : List ℕ) (user password host : Option (List ℕ)) (port : Option ℕ) → Authority syntax b user password host port → IsPort port
authority_port syntax b user password host port (host_alone free h u p) = named_port syntax b host port h
authority_port syntax b user password host port (with_user information piece free e credentials h some) = named_port syntax piece host port h

-- a port is written without a line's end
port_line : (port : Option ℕ) → IsPort port → FreeOf newline (port_part port)
port_line port h1 = grind (arith, nat_tests, port_piece, no_line)

-- ---- a path

-- the root before a path holds no line's end
root_line : (v : Location) → FreeOf newline (root_part v)
root_line v = grind (arith, nat_tests, cond-true, cond-false, cases_Bool, not)

-- so the path of a settled URL is written without one
path_line : (v : Location) → IsSettledUrl v → (¬ HasMatch v → FreeOf newline (plain_path v.scheme v.path)) → FreeOf newline (canonical_path v)
path_line v h plain =
    let fair : (s : List ℕ) → v.spelling ≡ Some s → percent_decode s ≡ v.path → FreeOf newline s = λ s is same. no_line s (h.path.spelling s is same).text (h.path.spelling s is same).no_white_space in
    free-append newline (root_part v) (matching_or v.spelling v.path (plain_path v.scheme v.path)) (root_line v) (matching_cases (FreeOf newline) v.spelling v.path (plain_path v.scheme v.path) fair plain)

-- a path that is written raw
raw_line : (v : Location) (p : Scheme) → v.scheme ≡ p → plain_path p v.path ≡ v.path → IsSettledUrl v → IsRawPath v → ¬ HasMatch v → FreeOf newline (plain_path v.scheme v.path)
raw_line v p e same h raw none =
    subst (λ t. FreeOf newline t) (sym (ap (λ q. plain_path q v.path) e ∙ same)) (no_line v.path h.path.path_text (raw none).1)

-- ---- settled URLs

-- a settled URL is written without a line's end
url_line : (v : Location) (t : List ℕ) → IsWrittenAsUrl v → IsSettledUrl v → IsPort v.port → FreeOf newline (scheme_text v.scheme) → FreeOf newline (host_part v v.host) → (¬ HasMatch v → FreeOf newline (plain_path v.scheme v.path)) → text v ≡ Ok t → FreeOf newline t
url_line v t written h small scheme host plain is =
    let canonical = written.canonical h.unflagged h.hosted in
    let past_host = port_part v.port ++ canonical_path v in
    let after_user = host_part v v.host ++ past_host in
    let after_mark = user_information v.user v.password ++ after_user in
    subst (λ x. FreeOf newline x) (one_text canonical is)
    (free-append newline (scheme_text v.scheme) (codes "://" ++ after_mark) scheme
    (free-append newline (codes "://") after_mark refl
    (free-append newline (user_information v.user v.password) after_user (user_line v.user v.password)
    (free-append newline (host_part v v.host) past_host host
    (free-append newline (port_part v.port) (canonical_path v) (port_line v.port small) (path_line v h plain))))))

-- one of HTTP
web_settled : (v : Location) (t : List ℕ) (p : Scheme) → v.scheme ≡ p → IsWeb v → FreeOf newline (scheme_text p) → plain_path p v.path ≡ percent_encode PATH v.path → IsPort v.port → IsSettledWeb v → text v ≡ Ok t → FreeOf newline t
web_settled v t p e web scheme encoded small h is =
    let (host, there, kind) = h.host in
    let part = subst (λ o. FreeOf newline (host_part v o)) (sym there) (host_line v host (web_line v.port host kind)) in
    let plain : ¬ HasMatch v → FreeOf newline (plain_path v.scheme v.path) = λ none. subst (λ x. FreeOf newline x) (sym (ap (λ q. plain_path q v.path) e ∙ encoded)) (encode_free PATH v.path newline (path_holds newline (omega arith)) refl) in
    url_line v t (written_web v web) h.common small (subst (λ q. FreeOf newline (scheme_text q)) (sym e) scheme) part plain is

-- one of Secure Shell
secure_settled : (v : Location) (t : List ℕ) → v.scheme ≡ ssh → IsPort v.port → IsSettledSecure v → text v ≡ Ok t → FreeOf newline t
secure_settled v t e small h is =
    let (host, there, kind) = h.host in
    let part = subst (λ o. FreeOf newline (host_part v o)) (sym there) (bare_line v host (ap keeps_host e) kind) in
    url_line v t (written_secure v e h.path) h.url.common small (subst (λ q. FreeOf newline (scheme_text q)) (sym e) refl) part (raw_line v ssh e refl h.url.common h.url.raw) is

-- one of Git's own protocol
git_settled : (v : Location) (t : List ℕ) → v.scheme ≡ git → IsPort v.port → IsSettledGit v → text v ≡ Ok t → FreeOf newline t
git_settled v t e small h is =
    let (host, there, kind) = h.host in
    let part = subst (λ o. FreeOf newline (host_part v o)) (sym there) (part_line v (Some host) (ap keeps_host e) kind) in
    url_line v t (written_git v e) h.url.common small (subst (λ q. FreeOf newline (scheme_text q)) (sym e) refl) part (raw_line v git e refl h.url.common h.url.raw) is

-- one of another scheme
other_settled : (v : Location) (t name : List ℕ) → v.scheme ≡ helper_url name → IsPort v.port → IsSettledHelperUrl name v → text v ≡ Ok t → FreeOf newline t
other_settled v t name e small h is =
    let scheme = subst (λ q. FreeOf newline (scheme_text q)) (sym e) (scheme_text_free name newline h.scheme_text refl) in
    url_line v t (written_other v name e h.scheme_text) h.url.common small scheme (part_line v v.host (ap keeps_host e) h.host) (raw_line v (helper_url name) e refl h.url.common h.url.raw) is

-- a settled location of a URL is written without a line's end, by its scheme
abbrev IsWrittenLine : List ℕ → UrlSyntax → Location → List ℕ → Scheme → Type 0
IsWrittenLine b parts v t p = DenotesAs p b parts v → v.scheme ≡ p → IsSettledBy p v → FreeOf newline t

parts_line : (b : List ℕ) (parts : UrlSyntax) (v : Location) (t : List ℕ) → FreeOf newline b → HasUrlSyntax b parts → text v ≡ Ok t → IsWrittenLine b parts v t (scheme_of parts.scheme)
parts_line b parts v t free spelled is =
    let small : IsPort parts.port = authority_port (host_syntax_of parts.scheme) spelled.authority parts.user parts.password parts.host parts.port spelled.named in
    let port : (p : Scheme) → DenotesByScheme p parts v → IsPort v.port = λ p m. subst (λ (l : Location). IsPort l.port) (sym m.value) small in
    scheme_cases (IsWrittenLine b parts v t) parts.scheme
    (λ is_ssh m e s. elim s [ inl scp ↦ absurd (false≢true (sym (ap (λ (l : Location). l.flag) m.value) ∙ scp.flagged)) | inr h ↦ secure_settled v t e (port ssh m) h is ])
    (λ is_file m e s. absurd (both_ways _ spelled.not_file is_file))
    (λ m e h. git_settled v t e (port git m) h is)
    (λ is_http m e h. web_settled v t http e (inl e) refl refl (port http m) h is)
    (λ is_https m e h. web_settled v t https e (inr e) refl refl (port https m) h is)
    (λ m e h. subst (λ x. FreeOf newline x) (one_text (ap (λ l. text l) m) is) (free-append newline (codes "ext::") b refl free))
    (λ m e h. other_settled v t parts.scheme e (port (helper_url parts.scheme) m) h is)

-- ---- the other forms

-- an optional text after its mark
unless_empty_line : (v : Location) (host : List ℕ) → FreeOf newline host → FreeOf newline (host_part v (unless_empty host))
unless_empty_line v [] free = refl
unless_empty_line v (b ∷ bs) free = host_line v (b ∷ bs) free

-- a file URL is written without a line's end if it was read without one
file_line : (b : List ℕ) (v : Location) (t : List ℕ) → FreeOf newline b → SpellsFile b v → text v ≡ Ok t → FreeOf newline t
file_line b v t h3 h4 h5 = grind (arith, nat_tests, free_parts, codes, one_text, free-append, unless_empty_line)

-- a path below a home folder holds none if the path that it is read from holds none
from_home_line : (path : List ℕ) → FreeOf newline path → FreeOf newline (from_home path)
from_home_line path h1 = grind (arith, nat_tests, cond-true, free_head_tail, cond-false, cases_Bool)

-- a raw host
raw_host_line : (host : List ℕ) → FreeOf newline host → FreeOf newline (raw_host (Some host))
raw_host_line host h1 = grind (arith, nat_tests, cond-true, bracketed_line, cond-false, cases_Bool)

-- a location in the scp form is written without a line's end if its parts hold none
scp_line : (v : Location) (t : List ℕ) (user : Option (List ℕ)) (host path : List ℕ) → v ≡ scp_location user host path → FreeOf newline (raw_user user) → FreeOf newline host → FreeOf newline path → text v ≡ Ok t → FreeOf newline t
scp_line v t user host path h5 h6 h7 h8 h9 = grind (arith, nat_tests, scp_written, one_text, free-append, raw_host_line, free-cons, from_home_line)

-- the user in a front without a line's end holds none
scp_user_line : (front : List ℕ) (user : Option (List ℕ)) (host : List ℕ) → ScpUser front user host → FreeOf newline front → FreeOf newline (raw_user user)
scp_user_line front user host h3 h4 = grind (arith, nat_tests, free_parts, free-append)

-- a settled host of the scp form holds none
scp_host_line : (host : List ℕ) → IsUtf8 host → IsScpName host ⊎ IsNormalAddress host → FreeOf newline host
scp_host_line host is (inl name) = no_line host is name.no_white_space
scp_host_line host is (inr h) = address_free newline host refl h.address

settled_host_line : (user : Option (List ℕ)) (host path : List ℕ) → IsUtf8 host → IsSettled (scp_location user host path) → FreeOf newline host
settled_host_line user host path h3 h4 = grind (arith, nat_tests, scp_host_line, same_Some, false≢true)

-- the scp form, except `user@[address]:path`
scp_before_line : (b : List ℕ) (v : Location) (t : List ℕ) → FreeOf newline b → SpellsScpBefore b v → IsSettled v → text v ≡ Ok t → FreeOf newline t
scp_before_line b v t free h settled is =
    let (front, rest) = free_parts newline h.front (colon ∷ h.path) (subst (λ x. FreeOf newline x) h.form.joined free) in
    let hosted = h.hosted in
    let utf8 : IsUtf8 h.denoted = scp_denoted_utf8 hosted in
    let host = settled_host_line h.user h.denoted h.path utf8 (subst (λ l. IsSettled l) h.value settled) in
    scp_line v t h.user h.denoted h.path h.value (scp_user_line h.front h.user h.host h.split front) host (free_head_tail newline colon h.path rest).1 is

-- that shape
scp_addressed_line : (b : List ℕ) (v : Location) (t : List ℕ) → FreeOf newline b → SpellsScpAddressed b v → text v ≡ Ok t → FreeOf newline t
scp_addressed_line b v t free h is =
    let cut = h.form.cut in
    let (user, rest) = free_parts newline h.user (at_sign ∷ (left_bracket ∷ (h.address ++ right_bracket ∷ (colon ∷ h.path)))) (subst (λ x. FreeOf newline x) cut.joined free) in
    let suffix = (free_parts newline (at_sign ∷ (left_bracket ∷ h.address)) (right_bracket ∷ (colon ∷ h.path)) rest).1 in
    let path = (free_parts newline (right_bracket ∷ (colon ∷ [])) h.path suffix).1 in
    scp_line v t (Some h.user) (lowercase h.address) h.path h.value (free-append newline h.user (at_sign ∷ []) user refl) (address_free newline (lowercase h.address) refl (address-lowercase h.address cut.addressed)) path is

-- ---- all forms

-- a settled location that a line spells is written without a line's end
spelled_line : (line : List ℕ) (v : Location) (t : List ℕ) → FreeOf newline line → Spells line v → IsSettled v → text v ≡ Ok t → FreeOf newline t
spelled_line line v t free (Spells.url h) settled is =
    let e = means_scheme (scheme_of h.parts.scheme) line h.parts v h.means in
    parts_line line h.parts v t free h.spelled is h.means e (subst (λ p. IsSettledBy p v) e settled)
spelled_line line v t free (Spells.file_url h) settled is = file_line line v t free h is
spelled_line line v t free (Spells.remote_helper h) settled is = subst (λ x. FreeOf newline x) (one_text (helper_unchanged line v h).1 is) free
spelled_line line v t free (Spells.scp_form (inl h)) settled is = scp_before_line line v t free h settled is
spelled_line line v t free (Spells.scp_form (inr h)) settled is = scp_addressed_line line v t free h is
spelled_line line v t free (Spells.local_path h) settled is = subst (λ x. FreeOf newline x) (one_text (local_unchanged line v h).1 is) free

-- the scheme of a spelled location holds none, whatever the text is
abbrev HasSchemeLine : Scheme → Type 0
HasSchemeLine p = FreeOf newline (scheme_text p)

scheme_line : (b : List ℕ) (v : Location) → Spells b v → HasSchemeLine v.scheme
scheme_line b v (Spells.url h) =
    subst HasSchemeLine (sym (means_scheme (scheme_of h.parts.scheme) b h.parts v h.means))
    (scheme_cases HasSchemeLine h.parts.scheme (λ e. refl) (λ e. refl) refl (λ e. refl) (λ e. refl) refl (scheme_text_free h.parts.scheme newline h.spelled.scheme_text refl))
scheme_line b v (Spells.file_url h) = subst HasSchemeLine (sym (ap (λ (l : Location). l.scheme) h.value)) refl
scheme_line b v (Spells.remote_helper h) =
    subst HasSchemeLine (sym (ap (λ (l : Location). l.scheme) h.value)) (helper_cases HasSchemeLine h.name (λ e. refl) (λ e. helper_name_free h.name newline h.parts.named refl))
scheme_line b v (Spells.scp_form (inl h)) = subst HasSchemeLine (sym (ap (λ (l : Location). l.scheme) h.value)) refl
scheme_line b v (Spells.scp_form (inr h)) = subst HasSchemeLine (sym (ap (λ (l : Location). l.scheme) h.value)) refl
scheme_line b v (Spells.local_path h) = subst HasSchemeLine (sym (ap (λ (l : Location). l.scheme) h.value)) refl

-- the names of errors hold none
fault_line : (f : UrlFault) → FreeOf newline (codes "BadUrl " ++ fault_name f)
fault_line f = grind (arith, nat_tests)

error_line : (k : RefusalKind) → FreeOf newline (error_name k)
error_line k = grind (arith, nat_tests, fault_line)

-- nor do those of refusals
refusal_line : (r : Refusal) → FreeOf newline (refusal_name r)
refusal_line r = error_line (kind_of r.reason)

-- ---- answers

-- a word and the text after it are one line
said_line : (word of_what answer : List ℕ) → FreeOf newline word → FreeOf newline of_what → answer ≡ reported_line word of_what → IsEndedLine answer
said_line word of_what answer word_free free e =
    (word ++ tab ∷ of_what, free-append newline word (tab ∷ of_what) word_free (free-cons newline tab of_what refl free), e ∙ sym (append_assoc word (tab ∷ of_what) (newline ∷ [])))

-- the text that is printed for a location that a line spells is one line
location_line : (line answer : List ℕ) (v : Location) (good : Bool) → FreeOf newline line → Spells line v → IsReported v answer good → IsEndedLine answer
location_line line answer v good free spelled (IsReported.settled t is settled e k) = said_line (codes "settled") t answer refl (spelled_line line v t free spelled settled is) e
location_line line answer v good free spelled (IsReported.unsettled t is other e k) = said_line (codes "unsettled") (scheme_text v.scheme) answer refl (scheme_line line v spelled) e
location_line line answer v good free spelled (IsReported.unwritable f is e k) = said_line (codes "unwritable") (scheme_text v.scheme) answer refl (scheme_line line v spelled) e

-- the law for one line
pub one_line : OneLine
one_line line answer good free (IsAnswer.reported v spelled is) = location_line line answer v good free spelled is
one_line line answer good free (IsAnswer.refused r flaw k bad) = said_line (codes "refused") (refusal_name r) answer refl (refusal_line r) k

-- ---- all lines

-- the answers to some lines, as lines
record AnsweredLines (lines : List (List ℕ)) (out : List ℕ) : Type 0 where
  reported : List (List ℕ)
  each : All (FreeOf newline) reported
  joined : out ≡ ended_lines reported
  answered : AreAnswered lines reported

answered_lines : (lines : List (List ℕ)) (out : List ℕ) (good : Bool) → All (FreeOf newline) lines → AnswersEach lines out good → AnsweredLines lines out
answered_lines [] out good each h = record { reported = []; each = All-nil (FreeOf newline); joined = h.0; answered = tt }
answered_lines (line ∷ lines) out good each (answer, more, first, others, is, rest, joined, all) =
    let (reported, free, e) = one_line line answer first (All-head (FreeOf newline) line lines each) is in
    let suffix = answered_lines lines more others (All-tail (FreeOf newline) line lines each) rest in record {
      reported = reported ∷ suffix.reported;
      each = All-cons (FreeOf newline) reported suffix.reported free suffix.each;
      joined = joined ∙ ap (λ t. t ++ more) e ∙ ap (λ t. (reported ++ newline ∷ []) ++ t) suffix.joined;
      answered = ((first, subst (λ t. IsAnswer line t first) e is), suffix.answered);
    }

-- the last line holds no line's end
last_free : (last : List ℕ) → FreeOf newline last → All (FreeOf newline) (last_line last)
last_free [] free = All-nil (FreeOf newline)
last_free (b ∷ bs) free = All-cons (FreeOf newline) (b ∷ bs) [] free (All-nil (FreeOf newline))

-- the law for all lines
pub line_for_line : LineForLine
line_for_line b out good (lines, splits, each) =
    let free : All (FreeOf newline) lines = subst (All (FreeOf newline)) (sym splits.counted) (All-append (FreeOf newline) splits.full (last_line splits.last) splits.each (last_free splits.last splits.open_ended)) in
    let found = answered_lines lines out good free each in (
      lines,
      found.reported,
      splits,
      record {
        full = found.reported;
        last = [];
        each = found.each;
        open_ended = refl;
        joined = found.joined ∙ sym (append-nil (ended_lines found.reported));
        counted = sym (append-nil found.reported);
      },
      found.answered,
    )
