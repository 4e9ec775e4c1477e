-- The words that Git gives Secure Shell for a location in whose text it reads the same place: those of the
-- command.
use Rattle.std.proofs.Common.{◌≡◌, ◌∙◌, ℕ, ◌<◌, Bool, true, false, ◌⊎◌, inl, inr, List, [], ◌∷◌, ◌++◌, length, Option, Some, None, IfSome, codes, refl, sym, ap, subst, arith}
use Rattle.std.proofs.lemmas.Bool.{false_from_ne_true}
use Rattle.std.proofs.lemmas.Bool.Decides.{Decides-eqb}
use Rattle.std.proofs.lemmas.Option.{IfSome_then}
use Rattle.std.proofs.lemmas.Slice.Eq.{starts_is}
use Rattle.percent_encoding.specs.declared.ascii_set.AsciiSet.{AsciiSet}
use Rattle.percent_encoding.specs.AsciiSet.{contains}
use Rattle.git_syntax.specs.Location.{Location}
use Rattle.git_syntax.specs.Location.Scheme.{ssh}
use Rattle.git_syntax.specs.Bytes.{slash, at_sign, tilde, FreeOf, begins_with, is_option_like}
use Rattle.git_syntax.specs.Escapes.{password_set, user_set}
use Rattle.git_syntax.specs.Authority.{unless_empty}
use Rattle.git_syntax.proofs.Texts.CutLemmas.{free_of_lacked}
use Rattle.git_location.specs.Settled.{IsSettledScp, IsSettledSecure, IsSettledBy}
use Rattle.git_class.specs.GitClass.{is_contested, IsPlainPart, IsHostOfGit, SuitsTransport, AgreesByTransport, AgreesBy}
use Rattle.git_reads.specs.Git.{GitReading, GitReads, ReadsInput, ReachesSecure, UserCut, from_tilde}
use Rattle.git_laws.specs.GitClass.{HostForGit, own_reading, ReadsOwnPlace, ReadsOwnBy, ReadsOwn, ReadAlike}
use Rattle.git_laws.proofs.GitReadings.GitPieceLemmas.{kept_free}
use Rattle.git_rules.specs.SecureShell.{Request, destination, is_url_like, user_refusal, host_refusal, url_refusal, path_refusal, request_refusal, ssh_refusal}
use Rattle.git_rules.specs.SecureLaws.{GivesSecure, GivesOwnWords}

-- ---- the places that are reached

-- a place that is read is reached by Secure Shell
record IsReached (reading : GitReading) : Type 0 where
  place : List ℕ
  path : List ℕ
  reaches : ReachesSecure place path reading

-- a place of Secure Shell that is read in a text is reached
reached : (t : List ℕ) (reading : GitReading) → reading.protocol ≡ ssh → ReadsInput t reading → IsReached reading
reached t reading e (ReadsInput.secure_url rest place path own cut reaches) = record { place = place; path = from_tilde (slash ∷ path); reaches = reaches }
reached t reading e (ReadsInput.git_url rest place path own cut reaches) = absurd (cc (ap (λ (r : GitReading). r.protocol) reaches.value, e))
reached t reading e (ReadsInput.file_url rest place path own cut is) = absurd (cc (ap (λ (r : GitReading). r.protocol) is, e))
reached t reading e (ReadsInput.scp_form place path no_url remote cut reaches) = record { place = place; path = from_tilde path; reaches = reaches }
reached t reading e (ReadsInput.local_path passed path no_url local end some no_option no_tilde is) = absurd (cc (ap (λ (r : GitReading). r.protocol) is, e))

-- a host that is there is the text
host_kept : (text host : List ℕ) → unless_empty text ≡ Some host → (text ≡ host) × (0 < length host)
host_kept [] host e = absurd (cc)
host_kept (b ∷ bs) host e = (cc, subst (λ (o : Option (List ℕ)). IfSome o (λ t. 0 < length t)) e (omega arith))

-- a word that is cut into user and host is the destination of both
word_joined : (word host : List ℕ) (user : Option (List ℕ)) → UserCut word user host → word ≡ destination user host
word_joined word host user (UserCut.host_alone free none is) = cc (ap (λ u. destination u host) none, is)
word_joined word host user (UserCut.with_user name some free joined is) = joined ∙ sym (ap (λ u. destination u host) is)

-- its host has no `@`
host_no_at : (word host : List ℕ) (user : Option (List ℕ)) → UserCut word user host → FreeOf at_sign host
host_no_at word host user (UserCut.host_alone free none is) = subst (λ t. FreeOf at_sign t) (sym is) free
host_no_at word host user (UserCut.with_user name some free joined is) = free

-- ---- no refusal

-- a text that is found to begin with `ssh://` does
url_begins : (t : List ℕ) → is_url_like t ≡ true → (rest : List ℕ) × (t ≡ codes "ssh://" ++ rest)
url_begins t h = (_, (starts_is Decides-eqb t (codes "ssh://") true (sym h)).0 refl)

-- a text that doesn't isn't
not_url : (t : List ℕ) → ((rest : List ℕ) → ¬ (t ≡ codes "ssh://" ++ rest)) → is_url_like t ≡ false
not_url t never = false_from_ne_true (is_url_like t) (λ h. never (url_begins t h).0 (url_begins t h).1)

-- a plain part has no byte 0
plain_zero_free : (flag : Bool) (set : AsciiSet) (part : List ℕ) → contains set 0 ≡ true → IsPlainPart flag set part → FreeOf 0 part
plain_zero_free true set part held plain = free_of_lacked is_contested 0 part plain refl
plain_zero_free false set part held plain = kept_free set part plain 0 held

-- nor has a plain host of Secure Shell
host_zero_free : (v : Location) (host : List ℕ) → v.scheme ≡ ssh → IsHostOfGit v host → FreeOf 0 host
host_zero_free v host e (inl plain) = plain_zero_free v.flag password_set host refl plain
host_zero_free v host e (inr bracketed) = absurd (cc (bracketed.0, e))

-- a user that is not empty, without byte 0 and no option, is not refused
user_accepted : (user : Option (List ℕ)) → ¬ (user ≡ Some []) → IfSome user (λ u. FreeOf 0 u) → IfSome user (λ u. is_option_like u ≡ false) → user_refusal user ≡ None
user_accepted None some free safe = refl
user_accepted (Some []) some free safe = absurd (some refl)
user_accepted (Some (b ∷ bs)) some free safe = rw free (rw safe refl)

-- nor is such a host without `@`
host_accepted : (host : List ℕ) → 0 < length host → FreeOf 0 host → is_option_like host ≡ false → FreeOf at_sign host → host_refusal (Some host) ≡ None
host_accepted [] some free safe no_at = absurd (omega (arith, some))
host_accepted (b ∷ bs) some free safe no_at = rw free (rw safe (rw no_at refl))

-- nor such a path
path_accepted : (path : List ℕ) → 0 < length path → FreeOf 0 path → is_option_like path ≡ false → path_refusal path ≡ None
path_accepted [] some free safe = absurd (omega (arith, some))
path_accepted (b ∷ bs) some free safe = rw free (rw safe refl)

-- nor a destination that isn't a URL
url_accepted : (user : Option (List ℕ)) (host : List ℕ) → ((rest : List ℕ) → ¬ (destination user host ≡ codes "ssh://" ++ rest)) → url_refusal user (Some host) ≡ None
url_accepted None host never = rw (not_url host never) refl
url_accepted (Some user) host never = rw (not_url user (λ rest e. never (rest ++ at_sign ∷ host) (ap (λ u. u ++ at_sign ∷ host) e))) refl

-- a path of a settled location of Secure Shell is not empty
transport_path : (path : List ℕ) (front : ℕ) → begins_with front path ≡ true → 0 < length path
transport_path [] front h = absurd (cc)
transport_path (b ∷ bs) front h = omega arith

settled_path : (v : Location) → IsSettledScp v ⊎ IsSettledSecure v → 0 < length v.path
settled_path v (inl scp) = scp.path.nonempty
settled_path v (inr url) = elim url.path [
  | inl homeless ↦ transport_path v.path slash homeless.0
  | inr home ↦ transport_path v.path tilde home.0
]

-- its host is there
settled_host : (v : Location) → IsSettledScp v ⊎ IsSettledSecure v → (host : List ℕ) × (v.host ≡ Some host)
settled_host v (inl scp) = (scp.host.0, scp.host.1)
settled_host v (inr url) = (url.host.0, url.host.1)

-- ---- the law

-- the known facts about a host of the class
record IsGiven (v : Location) (host : List ℕ) : Type 0 where
  there : v.host ≡ Some host
  some : 0 < length host
  no_at : FreeOf at_sign host
  no_url : (rest : List ℕ) → ¬ (destination v.user host ≡ codes "ssh://" ++ rest)

-- there is a command
accepted : (v : Location) (host : List ℕ) → v.scheme ≡ ssh → AgreesByTransport v → IsSettledScp v ⊎ IsSettledSecure v → ¬ (v.user ≡ Some []) → IsGiven v host → (r : Request) → request_refusal r v.port ≡ None → ssh_refusal r v ≡ None
accepted v host e a settled named given r asked =
    let user_free = IfSome_then v.user a.plain.user (λ u p. plain_zero_free v.flag user_set u refl p) in
    let host_free = host_zero_free v host e (subst (λ o. IfSome o (IsHostOfGit v)) given.there a.plain.host) in
    let host_safe = subst (λ o. IfSome o (λ h. is_option_like h ≡ false)) given.there a.no_option.host in
    let path_free = free_of_lacked is_contested 0 v.path a.plain.path refl in
    let user = user_accepted v.user named user_free a.no_option.user in
    let host_none = host_accepted host given.some host_free host_safe given.no_at in
    let url_none = url_accepted v.user host given.no_url in
    let path_none = path_accepted v.path (settled_path v settled) path_free a.no_option.path in
    rw e (rw a.no_password (rw given.there (rw user (rw host_none (rw url_none (rw path_none asked))))))

-- the location's own place, which Git reads in a text: it is reached by its words
record IsOwnReached (v : Location) (t host : List ℕ) : Type 0 where
  given : IsGiven v host
  words : GivesSecure t (destination v.user host) v.port v.path

own_reached : (v : Location) (t host place path : List ℕ) → v.host ≡ Some host → GitReads t (own_reading v v.host) → ReachesSecure place path (own_reading v v.host) → IsOwnReached v t host
own_reached v t host place path there reads r =
    let user : v.user ≡ r.user = ap (λ (g : GitReading). g.user) r.value in
    let hosted : v.host ≡ unless_empty r.host = ap (λ (g : GitReading). g.host) r.value in
    let port : v.port ≡ r.port = ap (λ (g : GitReading). g.port) r.value in
    let way : v.path ≡ path = ap (λ (g : GitReading). g.path) r.value in
    let kept = host_kept r.host host (sym hosted ∙ there) in
    let word = word_joined r.word r.host r.user r.split ∙ ap (λ u. destination u r.host) (sym user) ∙ ap (λ h. destination v.user h) kept.0 in
    record {
      given = record {
        there = there;
        some = kept.1;
        no_at = subst (λ h. FreeOf at_sign h) kept.0 (host_no_at r.word r.host r.user r.split);
        no_url = λ rest e. r.no_url rest (word ∙ e);
      };
      words = subst (λ p. GivesSecure t (destination v.user host) v.port p) (sym way) record { reading = own_reading v v.host; reads = reads; place = place; reaches = r; word = word; port = sym port };
    }

-- so it is in each text of a location of the class
read_reached : (v : Location) (t host : List ℕ) → v.scheme ≡ ssh → v.host ≡ Some host → ReadsOwn t v → IsOwnReached v t host
read_reached v t host e there own =
    let place : ReadsOwnPlace t v = subst (λ p. ReadsOwnBy p t v) e own in
    let same : place.host ≡ v.host = subst (λ p. HostForGit p v.host place.host) e place.own in
    let reads = subst (λ h. GitReads t (own_reading v h)) same place.reads in
    let way = reached t (own_reading v v.host) e reads.reads in
    own_reached v t host way.place way.path there reads way.reaches

-- the law
pub own_words : ReadAlike → GivesOwnWords
own_words alike v value agrees e =
    let a : AgreesByTransport v = subst (λ p. AgreesBy p v) e agrees in
    let settled : IsSettledScp v ⊎ IsSettledSecure v = subst (λ p. IsSettledBy p v) e a.settled in
    let suits = subst (λ p. SuitsTransport p v) e a.suits in
    let (host, there) = settled_host v settled in
    let read = alike v value agrees in
    let first = read_reached v read.written host e there (read.read read.written read.has_text) in
    record {
      host = host;
      there = there;
      built = accepted v host e a settled suits.2 first.given;
      words = λ t has. (read_reached v t host e there (read.read t has)).words;
    }
