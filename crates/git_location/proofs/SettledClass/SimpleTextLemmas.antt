-- A simple text is that of its location, which is settled.
use Rattle.std.proofs.Common.{◌≡◌, ◌∙◌, ◌≤◌, ◌++◌, ◌∷◌, ◌==◌, ◌&&◌, not, ℕ, Bool, true, false, List, [], Option, Some, None, Ok, length, codes, refl, sym, ap, subst, inl, inr, arith}
use Rattle.std.specs.List.{list_all}
use Rattle.std.specs.Prelude.{IfSome}
use Rattle.std.specs.Str.{IsUtf8}
use Rattle.std.proofs.lemmas.Bool.{and_parts, both_ways, cases_Bool, cond_both, eqb-true, or_left}
use Rattle.std.proofs.lemmas.Bool.Decides.{nat_tests}
use Rattle.percent_encoding.specs.Percent.{percent_encode}
use Rattle.git_syntax.specs.AddressTest.{is_ipv6_text}
use Rattle.git_syntax.specs.Authority.{FitsText}
use Rattle.git_syntax.specs.Escapes.{password_set, user_set}
use Rattle.git_syntax.specs.Bytes.{FreeOf, at_sign, begins_by, begins_with, colon, is_path_start, left_bracket, slash}
use Rattle.git_syntax.specs.Location.{Location, Scheme, path_alone}
use Rattle.git_syntax.specs.Location.Scheme.{file, git, ssh, http, https, helper_url}
use Rattle.git_syntax.specs.Schemes.{requires_path, scheme_text}
use Rattle.git_syntax.specs.SimpleTexts.{HasSimpleParts, IsRemoteScheme, IsSimplePort, IsSimpleText}
use Rattle.git_syntax.specs.Hosts.{port_part, raw_user}
use Rattle.git_syntax.specs.SimpleTexts.IsRemoteScheme.{of_git, of_helper, of_ssh, of_http, of_https}
use Rattle.git_syntax.specs.SimpleTexts.IsSimpleText.{file_text, helper_text, local_text, scp_text, url_text}
use Rattle.git_syntax.specs.Internal.HostPieces.{IsSimpleHost, is_simple_byte}
use Rattle.git_syntax.specs.Internal.Masks.{is_common}
use Rattle.git_location.specs.Text.{canonical_text, is_relative, open_host, plain_path, text, user_information}
use Rattle.git_location.specs.Settled.{IsScpUser, IsSettled, IsSettledRaw, begins_with_slashes}
use Rattle.git_location.specs.Internal.KeptBytes.{is_unescaped_in_user}
use Rattle.git_syntax.proofs.ByMasks.CommonLemmas.{common_around, common_parts, common_plain, short_fits}
use Rattle.git_syntax.proofs.ByMasks.SimpleTextLemmas.{simple_free}
use Rattle.git_syntax.proofs.Parsing.ClassifierLemmas.{file_mark_utf8}
use Rattle.git_syntax.proofs.Texts.CutLemmas.{free_begins, held_free, scheme_text_free}
use Rattle.git_syntax.proofs.Texts.EscapeLemmas.{utf8_after}
use Rattle.git_syntax.proofs.Texts.PlainLemmas.{plain_utf8}
use Rattle.git_location.proofs.SettledClass.SettledLemmas.{plain_raw_path, simple_normal_name, simple_scp_name, simple_web_host}
use Rattle.git_location.proofs.SettledClass.UnchangedLemmas.{helper_unchanged, local_unchanged}
use Rattle.git_location.proofs.Texts.UnescapedLemmas.{common_path, ready_password, ready_user}
use Rattle.git_location.proofs.Writing.WrittenAsUrlLemmas.{written_git, written_other, written_secure, written_web}

-- ---- paths

-- a path that begins with `/` begins as one of HTTP
pub rooted_starts : (path : List ℕ) → begins_with slash path ≡ true → begins_by (is_path_start true) path ≡ true
rooted_starts [] rooted = rooted
rooted_starts (b ∷ bs) rooted = or_left _ _ rooted

-- ---- bytes that are written as they are

simple_ready : (t : List ℕ) → list_all is_simple_byte t ≡ true → list_all is_unescaped_in_user t ≡ true
simple_ready [] all = refl
simple_ready (b ∷ t) all =
    let (byte, more) = and_parts (is_simple_byte b) (list_all is_simple_byte t) all in
    let ready : is_unescaped_in_user b ≡ true = grind (arith, nat_tests) in rw ready (simple_ready t more)

-- ---- paths

no_slashes : (path : List ℕ) → ((rest : List ℕ) → ¬ (path ≡ slash ∷ (slash ∷ rest))) → begins_with_slashes path ≡ false
no_slashes [] other = refl
no_slashes (a ∷ []) other = refl
no_slashes (a ∷ b ∷ rest) other = elim (cases_Bool (a == slash && b == slash)) [
  | inr apart ↦ apart
  | inl same ↦
      let (first, second) = and_parts (a == slash) (b == slash) same in
      absurd (other rest (ap (λ c. c ∷ (b ∷ rest)) (eqb-true a slash first) ∙ ap (λ c. slash ∷ (c ∷ rest)) (eqb-true b slash second)))
]

-- ---- the text of a URL

-- the location of simple parts
abbrev simple_value : Scheme → Bool → Option (List ℕ) → List ℕ → Option ℕ → List ℕ → Location
simple_value p flag user host port path = record (path_alone p flag path) { user = user; host = Some host; port = port }

-- the text of a URL of simple parts
abbrev simple_url : Scheme → Option (List ℕ) → List ℕ → Option ℕ → List ℕ → List ℕ
simple_url p user host port path = scheme_text p ++ (codes "://" ++ (raw_user user ++ (host ++ (port_part port ++ path))))

user_kept : (user : Option (List ℕ)) → IfSome user IsSimpleHost → user_information user None ≡ raw_user user
user_kept None simple = refl
user_kept (Some user) simple = ap (λ t. t ++ at_sign ∷ []) (ready_user user (simple_ready user simple.bytes))

encoded_host : (host : List ℕ) → IsSimpleHost host → open_host git host ≡ host
encoded_host host simple =
    let ready = simple_ready host simple.bytes in
    cond_both (is_ipv6_text host) (percent_encode password_set host) (percent_encode user_set host) (λ n. n ≡ host) (λ _. ready_password host ready) (λ _. ready_user host ready)

host_kept : (p : Scheme) (host : List ℕ) → IsRemoteScheme p → IsSimpleHost host → open_host p host ≡ host
host_kept p host of_http simple = refl
host_kept p host of_https simple = refl
host_kept p host of_git simple = encoded_host host simple
host_kept p host of_ssh simple = encoded_host host simple
host_kept p host (of_helper name spelled unknown) simple = encoded_host host simple

path_kept : (p : Scheme) (path : List ℕ) → IsRemoteScheme p → is_common path ≡ true → plain_path p path ≡ path
path_kept p path of_http common = common_path path common
path_kept p path of_https common = common_path path common
path_kept p path of_git common = refl
path_kept p path of_ssh common = refl
path_kept p path (of_helper name spelled unknown) common = refl

no_root : (p : Scheme) (path : List ℕ) → begins_with slash path ≡ true → (requires_path p && not (begins_with slash path)) ≡ false
no_root p path begins = rw begins (and_false (requires_path p))
  where
    and_false : (b : Bool) → (b && false) ≡ false
    and_false true = refl
    and_false false = refl

-- the text of such a URL
simple_canonical : (p : Scheme) (user : Option (List ℕ)) (host path : List ℕ) (port : Option ℕ) → IsRemoteScheme p → IfSome user IsSimpleHost → IsSimpleHost host → is_common path ≡ true → begins_with slash path ≡ true
    → canonical_text (simple_value p false user host port path) ≡ simple_url p user host port path
simple_canonical p user host path port remote simple_user simple_host common begins =
    rw (user_kept user simple_user, simple_free colon host simple_host refl, host_kept p host remote simple_host, no_root p path begins, path_kept p path remote common) refl

-- ---- URLs are settled

no_empty_user : (user : Option (List ℕ)) {A : Type 0} → IfSome user IsSimpleHost → user ≡ Some [] → A
no_empty_user None simple e = absurd cc
no_empty_user (Some user) simple e = let same : user ≡ [] = cc in absurd (omega (arith, simple.nonempty, ap length same))

-- the common conditions of settled URLs
url_common : (b : List ℕ) (p : Scheme) (user : Option (List ℕ)) (host path : List ℕ) (port : Option ℕ) → IsRemoteScheme p → IfSome user IsSimpleHost → is_common path ≡ true
    → text (simple_value p false user host port path) ≡ Ok b → FitsText b → IsSettledRaw (simple_value p false user host port path)
url_common b p user host path port remote simple_user common is fits =
    let v = simple_value p false user host port path in
    let raw = plain_raw_path v refl (common_plain path common) in
    record {
      common = record { unflagged = refl; credentials = (tt, λ e. no_empty_user user simple_user e); hosted = (λ _. refl, λ _. refl); path = raw.0; fits = (b, is, fits) };
      raw = raw.1;
    }

-- a port that isn't 0
no_zero : (port : Option ℕ) → IfSome port IsSimplePort → ¬ (port ≡ Some 0)
no_zero None allowed e = absurd cc
no_zero (Some port) allowed e = let same : port ≡ 0 = cc in absurd (omega (arith, allowed.0, same))

-- a URL of simple parts is settled, and its text is as it was read
url_unchanged : (b : List ℕ) (p : Scheme) (user : Option (List ℕ)) (host path : List ℕ) (port : Option ℕ) → IsRemoteScheme p → HasSimpleParts b user host path → IfSome port IsSimplePort → begins_with slash path ≡ true → length b ≤ 64
    → b ≡ simple_url p user host port path → IsSettled (simple_value p false user host port path) × (text (simple_value p false user host port path) ≡ Ok b)
url_unchanged b p user host path port remote parts allowed begins short joined = by_scheme p remote joined
  where
    path_common : (front : List ℕ) → b ≡ front ++ (codes "://" ++ (raw_user user ++ (host ++ (port_part port ++ path)))) → is_common path ≡ true
    path_common front e =
        let suffix = (common_parts front (codes "://" ++ (raw_user user ++ (host ++ (port_part port ++ path)))) (subst (λ s. is_common s ≡ true) e parts.common)).1 in
        let rest = (common_parts (codes "://") (raw_user user ++ (host ++ (port_part port ++ path))) suffix).1 in
        let place = (common_parts (raw_user user) (host ++ (port_part port ++ path)) rest).1 in
        (common_parts (port_part port) path (common_parts host (port_part port ++ path) place).1).1

    fits : (front : List ℕ) → FreeOf colon front → b ≡ front ++ (codes "://" ++ (raw_user user ++ (host ++ (port_part port ++ path)))) → FitsText b
    fits front free e = record { scheme = front; rest = raw_user user ++ (host ++ (port_part port ++ path)); no_colon = free; joined = e; fits = short_fits b front (raw_user user ++ (host ++ (port_part port ++ path))) e short }

    by_scheme : (p : Scheme) → IsRemoteScheme p → b ≡ simple_url p user host port path → IsSettled (simple_value p false user host port path) × (text (simple_value p false user host port path) ≡ Ok b)
    by_scheme p of_git e =
        let v = simple_value git false user host port path in
        let common = path_common (codes "git") e in
        let is = (written_git v refl).canonical refl (λ _. refl, λ _. refl) ∙ ap Ok (simple_canonical git user host path port of_git parts.simple_user parts.simple_host common begins ∙ sym e) in
        (record { url = url_common b git user host path port of_git parts.simple_user common is (fits (codes "git") refl e); host = (host, refl, inl (simple_normal_name host parts.simple_host)); path = inl (begins, parts.not_home) }, is)
    by_scheme p of_ssh e =
        let v = simple_value ssh false user host port path in
        let common = path_common (codes "ssh") e in
        let is = (written_secure v refl (inl (begins, parts.not_home))).canonical refl (λ _. refl, λ _. refl) ∙ ap Ok (simple_canonical ssh user host path port of_ssh parts.simple_user parts.simple_host common begins ∙ sym e) in
        (inr (record { url = url_common b ssh user host path port of_ssh parts.simple_user common is (fits (codes "ssh") refl e); host = (host, refl, inl (simple_normal_name host parts.simple_host)); path = inl (begins, parts.not_home) }), is)
    by_scheme p of_http e =
        let v = simple_value http false user host port path in
        let common = path_common (codes "http") e in
        let is = (written_web v (inl refl)).canonical refl (λ _. refl, λ _. refl) ∙ ap Ok (simple_canonical http user host path port of_http parts.simple_user parts.simple_host common begins ∙ sym e) in
        (record { common = (url_common b http user host path port of_http parts.simple_user common is (fits (codes "http") refl e)).common; host = (host, refl, simple_web_host port host parts.simple_host); port = no_zero port allowed; path = rooted_starts path begins }, is)
    by_scheme p of_https e =
        let v = simple_value https false user host port path in
        let common = path_common (codes "https") e in
        let is = (written_web v (inr refl)).canonical refl (λ _. refl, λ _. refl) ∙ ap Ok (simple_canonical https user host path port of_https parts.simple_user parts.simple_host common begins ∙ sym e) in
        (record { common = (url_common b https user host path port of_https parts.simple_user common is (fits (codes "https") refl e)).common; host = (host, refl, simple_web_host port host parts.simple_host); port = no_zero port allowed; path = rooted_starts path begins }, is)
    by_scheme p (of_helper name spelled unknown) e =
        let v = simple_value (helper_url name) false user host port path in
        let common = path_common name e in
        let is = (written_other v name refl spelled).canonical refl (λ _. refl, λ _. refl) ∙ ap Ok (simple_canonical (helper_url name) user host path port (of_helper name spelled unknown) parts.simple_user parts.simple_host common begins ∙ sym e) in
        (record { url = url_common b (helper_url name) user host path port (of_helper name spelled unknown) parts.simple_user common is (fits name (scheme_text_free name colon spelled refl) e); scheme_text = spelled; unknown = unknown; host = inl (simple_normal_name host parts.simple_host); hosted = λ _. refl; path = inr begins }, is)

-- ---- the scp form

-- the text of the scp form
scp_written : (user : Option (List ℕ)) (host path : List ℕ) → IsSimpleHost host → text (simple_value ssh true user host None path) ≡ Ok (raw_user user ++ (host ++ colon ∷ path))
scp_written None host path simple = elim (cases_Bool (is_relative path)) [
  | inl relative ↦ rw (relative, simple_free colon host simple refl) refl
  | inr other ↦ rw (other, simple_free colon host simple refl) refl
]
scp_written (Some user) host path simple = elim (cases_Bool (is_relative path)) [
  | inl relative ↦ rw (relative, simple_free colon host simple refl) refl
  | inr other ↦ rw (other, simple_free colon host simple refl) refl
]

scp_user : (user : Option (List ℕ)) → IfSome user IsSimpleHost → IfSome user IsScpUser
scp_user None simple = tt
scp_user (Some user) simple = record { no_colon = simple_free colon user simple refl; no_slash = simple_free slash user simple refl; no_bracket = free_begins left_bracket user (simple_free left_bracket user simple refl) }

-- a text of simple parts in the scp form is settled
scp_unchanged : (b : List ℕ) (user : Option (List ℕ)) (host path : List ℕ) → HasSimpleParts b user host path → FreeOf colon path → ((rest : List ℕ) → ¬ (path ≡ slash ∷ (slash ∷ rest)))
    → b ≡ raw_user user ++ (host ++ colon ∷ path) → IsSettled (simple_value ssh true user host None path) × (text (simple_value ssh true user host None path) ≡ Ok b)
scp_unchanged b user host path parts free other joined =
    let suffix = (common_parts (raw_user user) (host ++ colon ∷ path) (subst (λ s. is_common s ≡ true) joined parts.common)).1 in
    let common = (common_around (host ++ colon ∷ path) host path colon suffix refl).1 in (
      inl (record {
        flagged = refl;
        no_password = refl;
        no_port = refl;
        path = record { path_text = plain_utf8 path (common_plain path common); nonempty = parts.pathed; not_home = parts.not_home; not_slashes = no_slashes path other; no_mark = held_free path free };
        user = scp_user user parts.simple_user;
        host = (host, refl, inl (simple_scp_name host parts.simple_host), λ (none, named, begins). both_ways (begins_with colon path) (free_begins colon path free) begins);
      }),
      scp_written user host path parts.simple_host ∙ ap Ok (sym joined),
    )

-- ---- all kinds

-- a file URL without a host
file_unchanged : (b path : List ℕ) → IsUtf8 b → begins_with slash path ≡ true → b ≡ codes "file://" ++ path → IsSettled (path_alone file false path) × (text (path_alone file false path) ≡ Ok b)
file_unchanged b path utf8 begins joined =
    let path_text = utf8_after (codes "file://") path (subst IsUtf8 joined utf8) file_mark_utf8 in
    (inr (record { unflagged = refl; alone = (refl, refl, refl); no_match = λ (s, e, d). absurd cc; host = tt; path_text = path_text; rooted = begins }), ap Ok (sym joined))

-- a simple text is settled, and is the text of its location
pub simple_unchanged : (b : List ℕ) (v : Location) → IsSimpleText b v → IsSettled v × (text v ≡ Ok b)
simple_unchanged b v (helper_text h) = helper_unchanged b v h
simple_unchanged b v (local_text h) = local_unchanged b v h
simple_unchanged b v (file_text path utf8 begins joined value) = rw value (file_unchanged b path utf8 begins joined)
simple_unchanged b v (scp_text user host path parts free other joined value) = rw value (scp_unchanged b user host path parts free other joined)
simple_unchanged b v (url_text p user host path port remote parts allowed begins short joined value) = rw value (url_unchanged b p user host path port remote parts allowed begins short joined)
