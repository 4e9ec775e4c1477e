-- A location that is read has a text, and isn't taken for a stored location of the legacy form.
use Rattle.std.proofs.Common.{◌≡◌, ℕ, ◌<◌, ◌≤◌, true, false, ◌==◌, inl, inr, ◌⊎◌, ⊎_elim, List, [], ◌∷◌, ◌++◌, length, Option, Some, None, Ok, IsSome, refl, sym, ap, subst, ◌∙◌, arith, codes}
use Rattle.std.proofs.lemmas.Bool.Decides.{nat_tests}
use Rattle.std.specs.Option.{is_some}
use Rattle.std.proofs.lemmas.Bool.{cond-true, cond-false, cases_Bool, and_parts, or_cases, both_ways, false≢true}
use Rattle.std.proofs.lemmas.Slice.Eq.{bytes_eq-Decides}
use Rattle.percent_encoding.specs.Percent.{percent_decode}
use Rattle.percent_encoding.proofs.PercentLemmas.{length-percent_decode}
use Rattle.git_syntax.specs.Location.{Scheme, Location, path_alone}
use Rattle.git_syntax.specs.Location.Scheme.{file, git, ssh, http, https, helper_url}
use Rattle.git_syntax.specs.Bytes.{slash, tilde, begins_with, lowercase, StartsPath}
use Rattle.git_syntax.specs.Escapes.{is_sound, has_percent, begins_with_digits}
use Rattle.git_syntax.specs.Hosts.{HostSyntax}
use Rattle.git_syntax.specs.Schemes.{is_ssh_scheme, is_web_scheme, host_syntax_of}
use Rattle.git_syntax.specs.Authority.{unless_empty, Authority}
use Rattle.git_syntax.specs.Authority.Authority.{host_alone, with_user}
use Rattle.git_syntax.specs.Grammar.{HostFor, UrlSyntax, HasUrlSyntax, DenotesByScheme, DenotesAs, SpellsUrl, SpellsScp, Spells, from_home, or_root, path_for, retained_spelling}
use Rattle.git_location.specs.Text.{choice, with_host, in_form, text, canonical_text}
use Rattle.git_location.specs.Text.Form.{canonical_form}
use Rattle.git_laws.specs.Laws.{Writable}
use Rattle.git_syntax.proofs.Texts.EscapeLemmas.{sound_head, sound_tail, decode_byte, decode_escape}
use Rattle.git_syntax.proofs.Texts.CutLemmas.{begins_cut}
use Rattle.git_syntax.proofs.Parsing.UrlLemmas.{none_not_some}
use Rattle.git_syntax.proofs.Parsing.SchemeLemmas.{scheme_cases, means_cases}
use Rattle.git_syntax.proofs.Unique.UniqueLemmas.{denoted_with}
use Rattle.git_location.proofs.SettledClass.UnchangedLemmas.{helper_unchanged, local_unchanged}
use Rattle.git_laws.proofs.Records.RecordLemmas.{unmigrated}
use Rattle.git_laws.proofs.SettledClass.WebClosedLemmas.{retained_by, sound_after, parts_joined}
use Rattle.git_laws.proofs.Writing.WrittenScpLemmas.{scp_written}
use Rattle.std.proofs.lemmas.Option.{none-some}
use Rattle.git_location.proofs.Writing.WrittenAsUrlLemmas.{host_given, not_relative, secure_choice}

-- ---- a text

-- the location has a text
abbrev pub HasText : Location → Type 0
HasText v = (t : List ℕ) × (text v ≡ Ok t)

-- a location whose form is that of a URL has a text if its user comes with a host
canonical_there : (v : Location) → choice v ≡ with_host v canonical_form → (IsSome v.user → IsSome v.host) → HasText v
canonical_there v chosen hosted = (canonical_text v, ap (λ form. in_form form v) (chosen ∙ host_given v canonical_form hosted))

-- the user of an authority comes with a host
user_hosted : (syntax : HostSyntax) (authority : List ℕ) (user password host : Option (List ℕ)) (port : Option ℕ) → Authority syntax authority user password host port → IsSome user → IsSome host
user_hosted syntax authority user password host port (host_alone free names no_user no_password) given = none_not_some user no_user given
user_hosted syntax authority user password host port (with_user information piece free joined credentials names hosted) given = hosted

-- so does the user of a URL
parts_hosted : (b : List ℕ) (parts : UrlSyntax) → HasUrlSyntax b parts → IsSome parts.user → IsSome parts.host
parts_hosted b parts h given = user_hosted (host_syntax_of parts.scheme) h.authority parts.user parts.password parts.host parts.port h.named given

-- the location of a URL that has the host that the URL names has a text, if it is written as a URL
named_there : (scheme : Scheme) (parts : UrlSyntax) (v : Location) → (h : DenotesByScheme scheme parts v) → h.host ≡ parts.host → (IsSome parts.user → IsSome parts.host) → choice (denoted_with scheme parts h.host) ≡ with_host (denoted_with scheme parts h.host) canonical_form → HasText v
named_there scheme parts v h same hosted chosen =
    subst HasText (sym h.value) (canonical_there (denoted_with scheme parts h.host) chosen (λ given. ap is_some same ∙ hosted given))

-- ---- Secure Shell

-- a scheme of Secure Shell isn't one of HTTP
ssh_not_web : (s : List ℕ) → is_ssh_scheme s ≡ true → is_web_scheme s ≡ false
ssh_not_web s h1 = grind (arith, nat_tests, bytes_eq-Decides, codes, or_cases)

-- a rooted path is read as a rooted one, or as one below a home folder
from_home_begins : (rest : List ℕ) → (begins_with slash (from_home (slash ∷ rest)) ≡ true) ⊎ (begins_with tilde (from_home (slash ∷ rest)) ≡ true)
from_home_begins rest = grind (arith, nat_tests, cond-true, cond-false, cases_Bool)

-- a path that is there begins with `/` outside HTTP
begins_rooted : (path : List ℕ) → 0 < length path → StartsPath false path → begins_with slash path ≡ true
begins_rooted path h1 h2 = grind (arith, nat_tests, length, false≢true, or_cases)

-- so the path of a URL of Secure Shell is rooted or below a home folder
path_begins : (path : List ℕ) → begins_with slash path ≡ true → (begins_with slash (from_home (percent_decode path)) ≡ true) ⊎ (begins_with tilde (from_home (percent_decode path)) ≡ true)
path_begins path h1 = grind (arith, nat_tests, begins_cut, decode_byte, from_home_begins)

-- the host of Secure Shell is there if the URL names one
ssh_host_there : (named host : Option (List ℕ)) → HostFor ssh named host → IsSome named → IsSome host
ssh_host_there None host h some = absurd (false≢true some)
ssh_host_there (Some named) host h some = ap is_some h.2

-- the location of a URL of Secure Shell has a text
secure_there : (b : List ℕ) (parts : UrlSyntax) (v : Location) → is_ssh_scheme parts.scheme ≡ true → HasUrlSyntax b parts → DenotesByScheme ssh parts v → HasText v
secure_there b parts v is_ssh spelled h =
    let starts = subst (λ web. StartsPath web parts.path) (ssh_not_web parts.scheme is_ssh) spelled.path_starts in
    let begins = path_begins parts.path (begins_rooted parts.path (h.pathed refl) starts) in
    let value = denoted_with ssh parts h.host in
    let chosen = secure_choice value (not_relative value.path begins) refl in
    subst HasText (sym h.value) (canonical_there value chosen (λ given. ssh_host_there parts.host h.host h.hosted (parts_hosted b parts spelled given)))

-- ---- all forms

-- a URL, by its scheme
url_there : (b : List ℕ) (v : Location) → SpellsUrl b v → HasText v
url_there b v h =
    let parts = h.parts in
    let hosted : IsSome parts.user → IsSome parts.host = parts_hosted b parts h.spelled in
    scheme_cases (λ p. DenotesAs p b parts v → HasText v) parts.scheme
    (λ is_ssh m. secure_there b parts v is_ssh h.spelled m)
    (λ e m. named_there file parts v m m.hosted hosted refl)
    (λ m. named_there git parts v m m.hosted hosted refl)
    (λ e m. named_there http parts v m m.hosted hosted refl)
    (λ e m. named_there https parts v m m.hosted hosted refl)
    (λ m. (_, ap (λ l. text l) m))
    (λ m. named_there (helper_url parts.scheme) parts v m m.hosted hosted refl) h.means

-- a file URL has no user
file_there : (host : Option (List ℕ)) (path : List ℕ) → HasText (record (path_alone file false path) { host = host })
file_there host path = (_, refl)

-- the scp form
scp_there : (b : List ℕ) (v : Location) → SpellsScp b v → HasText v
scp_there b v (inl h) = (_, ap (λ l. text l) h.value ∙ scp_written h.user h.denoted (from_home h.path) None)
scp_there b v (inr h) = (_, ap (λ l. text l) h.value ∙ scp_written (Some h.user) (lowercase h.address) (from_home h.path) None)

-- a spelled location has a text
pub has_a_text : (b : List ℕ) (v : Location) → Spells b v → HasText v
has_a_text b v (Spells.url h) = url_there b v h
has_a_text b v (Spells.file_url h) = subst HasText (sym h.value) (file_there (unless_empty h.host) h.path)
has_a_text b v (Spells.remote_helper h) = (b, (helper_unchanged b v h).1)
has_a_text b v (Spells.scp_form h) = scp_there b v h
has_a_text b v (Spells.local_path h) = (b, (local_unchanged b v h).1)

-- ---- the spelling isn't the path

-- an escape makes a decoding shorter than its spelling
escape_shorter : (b : ℕ) (bs : List ℕ) → (b == 37) ≡ true → begins_with_digits bs ≡ true → length (percent_decode (b ∷ bs)) < length (b ∷ bs)
escape_shorter b bs h2 h3 = grind (arith, nat_tests, false≢true, and_parts, length, decode_escape, length-percent_decode)

-- if a first byte begins an escape, two digits follow it
digits_after : (b : ℕ) (bs : List ℕ) → (b == 37) ≡ true → is_sound (b ∷ bs) ≡ true → begins_with_digits bs ≡ true
digits_after b bs percent sound = rw percent at (sound_head b bs sound)

-- the decoding of a sound text that holds an escape is shorter than the text
decoding_shorter : (bs : List ℕ) → is_sound bs ≡ true → has_percent bs ≡ true → length (percent_decode bs) < length bs
decoding_shorter [] sound held = absurd (false≢true held)
decoding_shorter (b ∷ bs) sound held = ⊎_elim
    (λ percent. escape_shorter b bs percent (digits_after b bs percent sound))
    (λ other.
    let tail : has_percent bs ≡ true = ⊎_elim (λ percent. absurd (both_ways (b == 37) other percent)) (λ e. e) (or_cases _ _ held) in
    let rest = decoding_shorter bs (sound_tail b bs sound) tail in
    omega (arith, ap length (decode_byte b bs other), rest))
    (cases_Bool (b == 37))

-- a path below a home folder isn't longer than it was
from_home_short : (path : List ℕ) → length (from_home path) ≤ length path
from_home_short path = grind (arith, nat_tests, length, cond-true, cond-false, cases_Bool)

-- nor is a path that is there and becomes rooted
or_root_short : (path : List ℕ) → 0 < length path → length (or_root path) ≤ length path
or_root_short [] some = absurd (omega (arith, some))
or_root_short (b ∷ bs) some = omega arith

-- so no scheme's path is longer than the decoding
path_short : (scheme : Scheme) (path : List ℕ) → 0 < length path → length (path_for scheme path) ≤ length path
path_short scheme path h2 = grind (arith, nat_tests, from_home_short, or_root_short)

-- a text that holds an escape isn't empty
held_nonempty : (bs : List ℕ) → has_percent bs ≡ true → 0 < length bs
held_nonempty [] held = absurd (false≢true held)
held_nonempty (b ∷ bs) held = omega arith

-- the retained spelling of a sound path isn't the path that it is read as
retained_other : (scheme : Scheme) (path : List ℕ) → is_sound path ≡ true → ¬ (retained_spelling path ≡ Some (path_for scheme (percent_decode path)))
retained_other scheme path sound e =
    let meaning = path_for scheme (percent_decode path) in
    let kept = retained_by path meaning (has_percent path) refl e in
    let sizes = length-percent_decode path in
    let some : 0 < length (percent_decode path) = omega (arith, held_nonempty path kept.1, sizes.1) in
    let short = path_short scheme (percent_decode path) some in
    let shorter = decoding_shorter path sound kept.1 in
    omega (arith, ap length kept.0, short, shorter)

-- the path of a URL is sound
path_sound : (b : List ℕ) (parts : UrlSyntax) → HasUrlSyntax b parts → is_sound parts.path ≡ true
path_sound b parts h =
    sound_after (parts.scheme ++ (codes "://" ++ h.authority)) parts.path (subst (λ t. is_sound t ≡ true) (parts_joined h) h.sound)

-- the spelling isn't the path in the location of the parts of a URL
denoted_other : (scheme : Scheme) (b : List ℕ) (parts : UrlSyntax) (v : Location) → HasUrlSyntax b parts → DenotesByScheme scheme parts v → ¬ (v.spelling ≡ Some v.path)
denoted_other scheme b parts v spelled h =
    subst (λ l. ¬ (l.spelling ≡ Some l.path)) (sym h.value) (retained_other scheme parts.path (path_sound b parts spelled))

-- nor if there is no spelling
unspelled_other : (v : Location) → v.spelling ≡ None → ¬ (v.spelling ≡ Some v.path)
unspelled_other v none e = absurd (none-some v.path (sym none ∙ e))

-- a URL
url_other : (scheme : Scheme) (b : List ℕ) (parts : UrlSyntax) (v : Location) → HasUrlSyntax b parts → DenotesAs scheme b parts v → ¬ (v.spelling ≡ Some v.path)
url_other scheme b parts v spelled h =
    elim (means_cases scheme b parts v h) [
      | inl m ↦ unspelled_other v (ap (λ l. l.spelling) m.1)
      | inr m ↦ denoted_other scheme b parts v spelled m.1
    ]

-- the scp form has no spelling
scp_unspelled : (b : List ℕ) (v : Location) → SpellsScp b v → v.spelling ≡ None
scp_unspelled b v (inl h) = ap (λ l. l.spelling) h.value
scp_unspelled b v (inr h) = ap (λ l. l.spelling) h.value

-- of a spelled location the spelling isn't the path
pub spelling_other : (b : List ℕ) (v : Location) → Spells b v → ¬ (v.spelling ≡ Some v.path)
spelling_other b v h2 = grind (arith, nat_tests, url_other, unspelled_other, scp_unspelled)

-- a spelled location has a text, and represents itself when it was stored
pub writable : Writable
writable b v spelled =
    let other = spelling_other b v spelled in
    (has_a_text b v spelled, other, unmigrated v other)
