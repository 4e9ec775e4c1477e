-- Which texts have no reading, and why. The forms of a text exclude one another, and its cuts are unique.
use Rattle.std.proofs.Common.{◌≡◌, ◌∙◌, ℕ, ◌<◌, true, inl, inr, List, [], ◌∷◌, length, codes, refl, sym, ap, subst}
use Rattle.std.proofs.lemmas.Bool.{both_ways, false≢true}
use Rattle.git_syntax.specs.Location.{Scheme}
use Rattle.git_syntax.specs.Location.Scheme.{file, git, ssh, http, https, ext, helper, helper_url}
use Rattle.git_syntax.specs.Bytes.{slash, colon, tilde, FreeOf, Holds, begins_with, is_helper_name}
use Rattle.git_syntax.specs.Internal.Cuts.{url_mark}
use Rattle.git_syntax.specs.Schemes.{scheme_of}
use Rattle.git_reads.specs.declared.transport.Protocol.{Protocol}
use Rattle.git_reads.specs.declared.transport.Protocol.TheVariants as protocol
use Rattle.git_reads.specs.declared.transport.Unread.{Unread}
use Rattle.git_reads.specs.declared.transport.Unread.TheVariants as why
use Rattle.git_reads.specs.Git.{GitReading, on_this_machine, from_tilde, git_decode, HostEnd, CutsPlace, ReachesSecure, OwnUrl, IsNoUrl, IsRemote, IsLocal, ReadsInput}
use Rattle.git_reads.specs.Unread.{IsForeign, IsForHelper, IsOfTwoPlaces, IsForSecureShell, GetsUrl, GivesUrl, IsRewritten, IsGiven, LacksReading, Unreads}
use Rattle.git_reads.specs.Views.{scheme_of_protocol}
use Rattle.git_reads.specs.Transports.{BeginsBy, NamesHelper, url_text, LacksAny, FailsToReach, ReachesBy, GetsUrlBy, IsForeignFor, IsReadPath, IsUnreadPath, Fails}
use Rattle.git_syntax.proofs.Texts.CutLemmas.{cut_unique, different_bytes, helper_name_free, held_free, mark_cut_unique}
use Rattle.git_syntax.proofs.Parsing.FormLemmas.{mark_no_helper}
use Rattle.git_reads.proofs.Reading.UniqueLemmas.{is_own, own_free, own_no_other, own_unique, place_unique, remote_not_local}
use Rattle.git_reads.proofs.Texts.DecodeLemmas.{decoded_some}
use Rattle.git_reads.proofs.Texts.PlaceLemmas.{cut_some, host_end_unique}
use Rattle.git_reads.proofs.Reading.TransportLemmas.{url_lacks}

-- ---- URLs of Git's own transports

-- a text is a URL of the transport that its scheme names
pub own_url : (scheme spelled rest : List ℕ) (p : Scheme) → scheme_of scheme ≡ p → rest ≡ git_decode spelled → OwnUrl p (url_text scheme spelled) rest
own_url scheme spelled rest p own decoded = record { scheme = scheme; spelled = spelled; own = own; joined = refl; decoded = decoded }

-- the scheme of a transport's URL has no colon
url_free : (p : Scheme) (t rest : List ℕ) → is_own p ≡ true → (u : OwnUrl p t rest) → FreeOf colon u.scheme
url_free p t rest own u = own_free p u.scheme u.own own

-- a scheme of one of Git's own transports is not foreign
own_not_foreign : (p : Scheme) (scheme : List ℕ) → is_own p ≡ true → IsForeign scheme → scheme_of scheme ≡ p → ⊥
own_not_foreign ssh scheme own h e = h.0 e
own_not_foreign git scheme own h e = h.1.0 e
own_not_foreign file scheme own h e = h.1.1 e
own_not_foreign http scheme own h e = false≢true own
own_not_foreign https scheme own h e = false≢true own
own_not_foreign ext scheme own h e = false≢true own
own_not_foreign (helper n) scheme own h e = false≢true own
own_not_foreign (helper_url n) scheme own h e = false≢true own

-- a URL of Git's own transports is rewritten if a text is after its mark
pub own_rewritten : (scheme spelled : List ℕ) (p : Scheme) → is_own p ≡ true → scheme_of scheme ≡ p → 0 < length spelled → IsRewritten (url_text scheme spelled)
own_rewritten scheme spelled p own is some = IsRewritten.url scheme spelled (λ foreign. own_not_foreign p scheme own foreign is) some refl

-- and the cut of its decoding
own_cut_rewritten : (p : Scheme) (t rest place path : List ℕ) → is_own p ≡ true → OwnUrl p t rest → CutsPlace slash rest place path → IsRewritten t
own_cut_rewritten p t rest place path own u c =
    let some = decoded_some u.spelled (subst (λ s. 0 < length s) u.decoded (cut_some slash rest place path c)) in
    IsRewritten.url u.scheme u.spelled (λ foreign. own_not_foreign p u.scheme own foreign u.own) some u.joined

-- a transport's URL is for no helper
own_no_helper : (p : Scheme) (t rest : List ℕ) → is_own p ≡ true → OwnUrl p t rest → ¬ IsForHelper t
own_no_helper p t rest own u (IsForHelper.named h) = mark_no_helper t u.scheme u.spelled (url_free p t rest own u) u.joined h
own_no_helper p t rest own u (IsForHelper.unnamed more e) =
    different_bytes 47 58 refl (cut_unique colon u.scheme [] (slash ∷ slash ∷ u.spelled) (colon ∷ more) (url_free p t rest own u) refl (sym u.joined ∙ e)).1
own_no_helper p t rest own u (IsForHelper.by_scheme scheme more foreign name other e) =
    let same = (cut_unique colon u.scheme scheme (slash ∷ slash ∷ u.spelled) (slash ∷ slash ∷ more) (url_free p t rest own u) (helper_name_free scheme colon name refl) (sym u.joined ∙ e)).0 in
    own_not_foreign p scheme own foreign (ap scheme_of (sym same) ∙ u.own)

-- a transport's URL is not of two places
own_one_place : (p : Scheme) (t rest : List ℕ) → OwnUrl p t rest → ¬ IsOfTwoPlaces t
own_one_place p t rest u h = own_no_other p t rest u h.no_url

-- a text is the URL of one transport, with one rest
same_url : (P : Scheme → List ℕ → Type 0) (p q : Scheme) (t rest other : List ℕ) → is_own p ≡ true → is_own q ≡ true → OwnUrl p t rest → OwnUrl q t other → P q other → P p rest
same_url P p q t rest other first second u v h =
    let same = own_unique p q t rest other first second u v in
    subst (λ s. P s rest) (sym same.0) (subst (P q) (sym same.1) h)

-- the transport reaches the reading at a cut of the rest
pub record ReachesUrl (r : GitReading) (p : Scheme) (rest : List ℕ) : Type 0 where
  pub place : List ℕ
  pub path : List ℕ
  pub cut : CutsPlace slash rest place path
  pub reaches : ReachesBy p place (slash ∷ path) r

-- a reading of a transport's URL is reached by this transport
own_reached : (p : Scheme) (t rest : List ℕ) (r : GitReading) → is_own p ≡ true → OwnUrl p t rest → ReadsInput t r → ReachesUrl r p rest
own_reached p t rest r own u (ReadsInput.secure_url x place path v c h) = same_url (ReachesUrl r) p ssh t rest x own refl u v record { place = place; path = path; cut = c; reaches = h }
own_reached p t rest r own u (ReadsInput.git_url x place path v c h) = same_url (ReachesUrl r) p git t rest x own refl u v record { place = place; path = path; cut = c; reaches = h }
own_reached p t rest r own u (ReadsInput.file_url x place path v c h) = same_url (ReachesUrl r) p file t rest x own refl u v record { place = place; path = path; cut = c; reaches = h }
own_reached p t rest r own u (ReadsInput.scp_form place path n m c h) = own_no_other p t rest u n
own_reached p t rest r own u (ReadsInput.local_path passed path n l e some safe low is) = own_no_other p t rest u n

-- the transport gets a URL at a cut of the rest
pub record GetsUrlOf (p : Scheme) (rest : List ℕ) : Type 0 where
  pub place : List ℕ
  pub path : List ℕ
  pub cut : CutsPlace slash rest place path
  pub gets : GetsUrlBy p place (slash ∷ path)

-- a URL that Secure Shell gets of a transport's URL is got by this transport
gets_of : (p : Scheme) (t rest place path : List ℕ) → is_own p ≡ true → OwnUrl p t rest → IsForSecureShell t place path → GetsUrl place path → GetsUrlOf p rest
gets_of p t rest place path own u (IsForSecureShell.url x suffix v c is) h =
    same_url GetsUrlOf p ssh t rest x own refl u v record { place = place; path = suffix; cut = c; gets = subst (λ s. GetsUrl place s) is h }
gets_of p t rest place path own u (IsForSecureShell.scp_form suffix n m c is) h = own_no_other p t rest u n

-- a transport's URL is refused if nothing is reached and no URL is got
own_refused : (p : Scheme) (t rest : List ℕ) → is_own p ≡ true → OwnUrl p t rest → ((r : GitReading) → ¬ ReachesUrl r p rest) → ¬ GetsUrlOf p rest → Fails t why.Refused
own_refused p t rest own u none other = (
  λ r h. none r (own_reached p t rest r own u h),
  (
    own_no_helper p t rest own u,
    (
      own_one_place p t rest u,
      λ h. other (gets_of p t rest h.place h.path own u h.secure h.gets),
    ),
  ),
)

-- a transport's URL without a path is refused
pub own_uncut : (p : Scheme) (t rest : List ℕ) → is_own p ≡ true → OwnUrl p t rest → ((place path : List ℕ) → ¬ CutsPlace slash rest place path) → Fails t why.Refused
own_uncut p t rest own u uncut = own_refused p t rest own u (λ r h. uncut h.place h.path h.cut) (λ h. uncut h.place h.path h.cut)

-- the place that the transport reaches is read
pub own_reads : (p : Scheme) (t rest place path : List ℕ) (r : GitReading) → OwnUrl p t rest → CutsPlace slash rest place path → ReachesBy p place (slash ∷ path) r → ReadsInput t r
own_reads ssh t rest place path r u c h = ReadsInput.secure_url rest place path u c h
own_reads git t rest place path r u c h = ReadsInput.git_url rest place path u c h
own_reads file t rest place path r u c h = ReadsInput.file_url rest place path u c h
own_reads http t rest place path r u c h = absurd h
own_reads https t rest place path r u c h = absurd h
own_reads ext t rest place path r u c h = absurd h
own_reads (helper n) t rest place path r u c h = absurd h
own_reads (helper_url n) t rest place path r u c h = absurd h

-- a text gives Secure Shell a URL if the transport gets one
own_gives : (p : Scheme) (t rest place path : List ℕ) → OwnUrl p t rest → CutsPlace slash rest place path → GetsUrlBy p place (slash ∷ path) → GivesUrl t
own_gives ssh t rest place path u c h = record { place = place; path = from_tilde (slash ∷ path); secure = IsForSecureShell.url rest path u c refl; gets = h }
own_gives git t rest place path u c h = absurd h
own_gives file t rest place path u c h = absurd h
own_gives http t rest place path u c h = absurd h
own_gives https t rest place path u c h = absurd h
own_gives ext t rest place path u c h = absurd h
own_gives (helper n) t rest place path u c h = absurd h
own_gives (helper_url n) t rest place path u c h = absurd h

-- a place that the transport doesn't reach isn't read
pub own_fails : (p : Scheme) (t rest place path : List ℕ) (w : Unread) → is_own p ≡ true → OwnUrl p t rest → CutsPlace slash rest place path → FailsToReach place (ReachesBy p place (slash ∷ path)) (GetsUrlBy p place (slash ∷ path)) w → Fails t w
own_fails p t rest place path why.Memory own u c h = own_cut_rewritten p t rest place path own u c
own_fails p t rest place path why.ByteZero own u c h = absurd h
own_fails p t rest place path why.Option own u c h = absurd h
own_fails p t rest place path why.RemoteHelper own u c h = absurd h
own_fails p t rest place path why.HomeOrHere own u c h = absurd h
own_fails p t rest place path why.SecureShellUrl own u c h = own_gives p t rest place path u c h
own_fails p t rest place path why.Refused own u c h =
    let reached : (r : GitReading) → ¬ ReachesUrl r p rest = λ r k.
    let same = place_unique slash rest place path k.place k.path c k.cut in
    h.0 r (subst (λ s. ReachesBy p s (slash ∷ path) r) (sym same.0) (subst (λ s. ReachesBy p k.place (slash ∷ s) r) (sym same.1) k.reaches)) in
    let got : ¬ GetsUrlOf p rest = λ k.
    let same = place_unique slash rest place path k.place k.path c k.cut in
    h.1 (subst (λ s. GetsUrlBy p s (slash ∷ path)) (sym same.0) (subst (λ s. GetsUrlBy p k.place (slash ∷ s)) (sym same.1) k.gets)) in
    own_refused p t rest own u reached got

-- ---- other URLs

-- the text before the mark names the transport
own_scheme : (p : Scheme) (scheme spelled rest : List ℕ) → is_own p ≡ true → ¬ Holds url_mark scheme → OwnUrl p (url_text scheme spelled) rest → scheme_of scheme ≡ p
own_scheme p scheme spelled rest own none u =
    let free = url_free p (url_text scheme spelled) rest own u in
    ap scheme_of (mark_cut_unique scheme u.scheme spelled u.spelled none (held_free u.scheme free) u.joined).0 ∙ u.own

-- a URL of none of Git's own transports has no reading
foreign_lacks : (scheme spelled : List ℕ) → ¬ Holds url_mark scheme → IsForeign scheme → LacksAny (ReadsInput (url_text scheme spelled))
foreign_lacks scheme spelled none foreign r (ReadsInput.secure_url x place path u c h) = foreign.0 (own_scheme ssh scheme spelled x refl none u)
foreign_lacks scheme spelled none foreign r (ReadsInput.git_url x place path u c h) = foreign.1.0 (own_scheme git scheme spelled x refl none u)
foreign_lacks scheme spelled none foreign r (ReadsInput.file_url x place path u c h) = foreign.1.1 (own_scheme file scheme spelled x refl none u)
foreign_lacks scheme spelled none foreign r (ReadsInput.scp_form place path n m c h) = n.no_mark (scheme, spelled, refl)
foreign_lacks scheme spelled none foreign r (ReadsInput.local_path passed path n l e some safe low is) = n.no_mark (scheme, spelled, refl)

-- a URL of none of Git's own transports isn't for Secure Shell
foreign_gives : (scheme spelled place path : List ℕ) → ¬ Holds url_mark scheme → IsForeign scheme → ¬ IsForSecureShell (url_text scheme spelled) place path
foreign_gives scheme spelled place path none foreign (IsForSecureShell.url x suffix u c is) = foreign.0 (own_scheme ssh scheme spelled x refl none u)
foreign_gives scheme spelled place path none foreign (IsForSecureShell.scp_form suffix n m c is) = n.no_mark (scheme, spelled, refl)

-- a URL of none of Git's own transports is for no helper if its scheme names none
foreign_helper : (scheme spelled : List ℕ) → ¬ Holds url_mark scheme → ¬ NamesHelper (url_text scheme spelled) → IsForeignFor scheme why.Refused → ¬ IsForHelper (url_text scheme spelled)
foreign_helper scheme spelled none unnamed h (IsForHelper.named k) = unnamed (inl k)
foreign_helper scheme spelled none unnamed h (IsForHelper.unnamed more e) = unnamed (inr (more, e))
foreign_helper scheme spelled none unnamed h (IsForHelper.by_scheme other more foreign name apart e) =
    let same = (mark_cut_unique scheme other spelled more none (held_free other (helper_name_free other colon name refl)) e).0 in
    h (ap is_helper_name same ∙ name, λ is. apart (sym same ∙ is))

-- a URL of none of Git's own transports isn't read
pub foreign_fails : (scheme spelled : List ℕ) (w : Unread) → ¬ Holds url_mark scheme → ¬ NamesHelper (url_text scheme spelled) → IsForeign scheme → IsForeignFor scheme w → Fails (url_text scheme spelled) w
foreign_fails scheme spelled why.Memory none unnamed foreign h = absurd h
foreign_fails scheme spelled why.ByteZero none unnamed foreign h = absurd h
foreign_fails scheme spelled why.Option none unnamed foreign h = absurd h
foreign_fails scheme spelled why.RemoteHelper none unnamed foreign h = IsForHelper.by_scheme scheme spelled foreign h.0 h.1 refl
foreign_fails scheme spelled why.HomeOrHere none unnamed foreign h = absurd h
foreign_fails scheme spelled why.SecureShellUrl none unnamed foreign h = absurd h
foreign_fails scheme spelled why.Refused none unnamed foreign h = (
  foreign_lacks scheme spelled none foreign,
  (
    foreign_helper scheme spelled none unnamed h,
    (
      λ k. k.no_url.no_mark (scheme, spelled, refl),
      λ k. foreign_gives scheme spelled k.place k.path none foreign k.secure,
    ),
  ),
)

-- ---- texts that aren't URLs

-- a text without a mark isn't a URL of a transport
unmarked_url : {A : Type 0} (p : Scheme) (t rest : List ℕ) → ¬ Holds url_mark t → OwnUrl p t rest → A
unmarked_url p t rest none u = absurd (none (u.scheme, u.spelled, u.joined))

-- a text without a mark is for no helper if it names none
unmarked_helper : (t : List ℕ) → ¬ Holds url_mark t → ¬ NamesHelper t → ¬ IsForHelper t
unmarked_helper t none unnamed (IsForHelper.named h) = unnamed (inl h)
unmarked_helper t none unnamed (IsForHelper.unnamed rest e) = unnamed (inr (rest, e))
unmarked_helper t none unnamed (IsForHelper.by_scheme scheme rest foreign name other e) = none (scheme, rest, e)

-- a text without a mark isn't a URL if it names no helper and isn't for `rsync`
pub is_no_url : (t : List ℕ) → ¬ Holds url_mark t → ¬ NamesHelper t → ¬ BeginsBy (codes "rsync:") t → IsNoUrl t
is_no_url t none unnamed other = record {
  no_mark = none;
  no_helper = λ h. unnamed (inl h);
  no_empty_helper = λ rest e. unnamed (inr (rest, e));
  no_rsync = λ rest e. other (rest, e);
}

-- a reading of a text without a mark is of the scp form or of a local path
unmarked_read : {A : Type 0} (t : List ℕ) (r : GitReading) → ¬ Holds url_mark t → ReadsInput t r → ((place path : List ℕ) → IsNoUrl t → IsRemote t → CutsPlace colon t place path → ReachesSecure place (from_tilde path) r → A) → ((passed path : List ℕ) → IsNoUrl t → IsLocal t → HostEnd t passed path → IsReadPath path → A) → A
unmarked_read t r none (ReadsInput.secure_url x place path u c h) scp path_of = unmarked_url ssh t x none u
unmarked_read t r none (ReadsInput.git_url x place path u c h) scp path_of = unmarked_url git t x none u
unmarked_read t r none (ReadsInput.file_url x place path u c h) scp path_of = unmarked_url file t x none u
unmarked_read t r none (ReadsInput.scp_form place path n m c h) scp path_of = scp place path n m c h
unmarked_read t r none (ReadsInput.local_path passed path n l e some safe low is) scp path_of = path_of passed path n l e record { some = some; safe = safe; no_home = low }

-- a text without a mark that is for Secure Shell has the scp form
unmarked_gives : {A : Type 0} (t place path : List ℕ) → ¬ Holds url_mark t → IsForSecureShell t place path → ((suffix : List ℕ) → IsNoUrl t → IsRemote t → CutsPlace colon t place suffix → path ≡ from_tilde suffix → A) → A
unmarked_gives t place path none (IsForSecureShell.url x suffix u c is) scp = unmarked_url ssh t x none u
unmarked_gives t place path none (IsForSecureShell.scp_form suffix n m c is) scp = scp suffix n m c is

-- ---- the scp form

-- the scp form is refused if nothing is reached and no URL is got
scp_refused : (t : List ℕ) → ¬ Holds url_mark t → ¬ NamesHelper t → IsRemote t → ((place path : List ℕ) (r : GitReading) → CutsPlace colon t place path → ¬ ReachesSecure place (from_tilde path) r) → ((place path : List ℕ) → CutsPlace colon t place path → ¬ GetsUrl place (from_tilde path)) → Fails t why.Refused
scp_refused t none unnamed remote unreached ungot = (
  λ r h. unmarked_read t r none h (λ place path n m c k. unreached place path r c k) (λ passed path n l k some. remote_not_local t remote l),
  (
    unmarked_helper t none unnamed,
    (
      λ h. remote_not_local t remote h.local,
      λ h. unmarked_gives t h.place h.path none h.secure (λ suffix n m c is. ungot h.place suffix c (subst (λ s. GetsUrl h.place s) is h.gets)),
    ),
  ),
)

-- the scp form without a path is refused
pub scp_uncut : (t : List ℕ) → ¬ Holds url_mark t → ¬ NamesHelper t → IsRemote t → ((place path : List ℕ) → ¬ CutsPlace colon t place path) → Fails t why.Refused
scp_uncut t none unnamed remote uncut = scp_refused t none unnamed remote (λ place path r c h. uncut place path c) (λ place path c h. uncut place path c)

-- a place of the scp form that Secure Shell doesn't reach isn't read
pub scp_fails : (t place path : List ℕ) (w : Unread) → ¬ Holds url_mark t → ¬ NamesHelper t → ¬ BeginsBy (codes "rsync:") t → IsRemote t → CutsPlace colon t place path → FailsToReach place (ReachesSecure place (from_tilde path)) (GetsUrl place (from_tilde path)) w → Fails t w
scp_fails t place path why.Memory none unnamed other remote c h = IsRewritten.scp_form place path (is_no_url t none unnamed other) remote c h
scp_fails t place path why.ByteZero none unnamed other remote c h = absurd h
scp_fails t place path why.Option none unnamed other remote c h = absurd h
scp_fails t place path why.RemoteHelper none unnamed other remote c h = absurd h
scp_fails t place path why.HomeOrHere none unnamed other remote c h = absurd h
scp_fails t place path why.SecureShellUrl none unnamed other remote c h = record {
  place = place;
  path = from_tilde path;
  secure = IsForSecureShell.scp_form path (is_no_url t none unnamed other) remote c refl;
  gets = h;
}
scp_fails t place path why.Refused none unnamed other remote c h =
    let reached : (p q : List ℕ) (r : GitReading) → CutsPlace colon t p q → ¬ ReachesSecure p (from_tilde q) r = λ p q r d k.
    let same = place_unique colon t place path p q c d in
    h.0 r (subst (λ s. ReachesSecure s (from_tilde path) r) (sym same.0) (subst (λ s. ReachesSecure p (from_tilde s) r) (sym same.1) k)) in
    let got : (p q : List ℕ) → CutsPlace colon t p q → ¬ GetsUrl p (from_tilde q) = λ p q d k.
    let same = place_unique colon t place path p q c d in
    h.1 (subst (λ s. GetsUrl s (from_tilde path)) (sym same.0) (subst (λ s. GetsUrl p (from_tilde s)) (sym same.1) k)) in
    scp_refused t none unnamed remote reached got

-- ---- local paths

-- a local path isn't read if its path isn't
pub local_fails : (t passed path : List ℕ) (w : Unread) → ¬ Holds url_mark t → ¬ NamesHelper t → ¬ BeginsBy (codes "rsync:") t → IsLocal t → HostEnd t passed path → IsUnreadPath path w → Fails t w
local_fails t passed path why.Memory none unnamed other place e h = absurd h
local_fails t passed path why.ByteZero none unnamed other place e h = absurd h
local_fails t passed path why.Option none unnamed other place e h = absurd h
local_fails t passed path why.RemoteHelper none unnamed other place e h = absurd h
local_fails t passed path why.HomeOrHere none unnamed other place e h = record { no_url = is_no_url t none unnamed other; local = place; passed = passed; path = path; end = e; tilde_first = h }
local_fails t passed path why.SecureShellUrl none unnamed other place e h = absurd h
local_fails t passed path why.Refused none unnamed other place e h = (
  λ r k. unmarked_read t r none k (λ p q n m c s. remote_not_local t m place) (λ p q n l d some. h.0 (subst IsReadPath (host_end_unique t p q passed path d e).1 some)),
  (
    unmarked_helper t none unnamed,
    (
      λ k. both_ways (begins_with tilde path) h.1 (ap (begins_with tilde) (sym (host_end_unique t k.passed k.path passed path k.end e).1) ∙ k.tilde_first),
      λ k. unmarked_gives t k.place k.path none k.secure (λ suffix n m c is. remote_not_local t m place),
    ),
  ),
)

-- ---- a text that has no reading

-- a text that isn't a URL is for no helper
no_url_no_helper : (t : List ℕ) → IsNoUrl t → ¬ IsForHelper t
no_url_no_helper t n (IsForHelper.named h) = n.no_helper h
no_url_no_helper t n (IsForHelper.unnamed rest e) = n.no_empty_helper rest e
no_url_no_helper t n (IsForHelper.by_scheme scheme rest foreign name other e) = n.no_mark (scheme, rest, e)

-- a text for a helper has no reading
helper_lacks : (t : List ℕ) (r : GitReading) → IsForHelper t → ¬ ReadsInput t r
helper_lacks t r h (ReadsInput.secure_url x place path u c k) = own_no_helper ssh t x refl u h
helper_lacks t r h (ReadsInput.git_url x place path u c k) = own_no_helper git t x refl u h
helper_lacks t r h (ReadsInput.file_url x place path u c k) = own_no_helper file t x refl u h
helper_lacks t r h (ReadsInput.scp_form place path n m c k) = no_url_no_helper t n h
helper_lacks t r h (ReadsInput.local_path passed path n l e some safe low is) = no_url_no_helper t n h

-- a text of two places has no reading
places_lacks : (t : List ℕ) (r : GitReading) → IsOfTwoPlaces t → ¬ ReadsInput t r
places_lacks t r h k = unmarked_read t r h.no_url.no_mark k (λ place path n m c s. remote_not_local t m h.local) (λ passed path n l e some. both_ways (begins_with tilde path) some.no_home (ap (begins_with tilde) (host_end_unique t passed path h.passed h.path e h.end).1 ∙ h.tilde_first))

-- a text that gives Secure Shell a URL has no reading
gives_lacks : (t place path : List ℕ) (r : GitReading) → IsForSecureShell t place path → GetsUrl place path → ¬ ReadsInput t r
gives_lacks t place path r (IsForSecureShell.url x suffix u c is) h k =
    let read = own_reached ssh t x r refl u k in
    let same = place_unique slash x place suffix read.place read.path c read.cut in
    url_lacks read.place (from_tilde (slash ∷ read.path)) (subst (λ s. GetsUrl read.place (from_tilde (slash ∷ s))) same.1 (subst (λ s. GetsUrl s (from_tilde (slash ∷ suffix))) same.0 (subst (λ s. GetsUrl place s) is h))) r read.reaches
gives_lacks t place path r (IsForSecureShell.scp_form suffix n m c is) h k =
    unmarked_read t r n.no_mark k (λ p q n' m' d s.
    let same = place_unique colon t place suffix p q c d in
    url_lacks p (from_tilde q) (subst (λ s. GetsUrl p (from_tilde s)) same.1 (subst (λ s. GetsUrl s (from_tilde suffix)) same.0 (subst (λ s. GetsUrl place s) is h))) r s) (λ passed q n' l e some. remote_not_local t m l)

-- a text that isn't read has no reading, unless memory was refused
pub fails_lacks : (t : List ℕ) (w : Unread) → Fails t w → ¬ (w ≡ why.Memory) → LacksReading t
fails_lacks t why.Memory h other r k = other refl
fails_lacks t why.ByteZero h other r k = h
fails_lacks t why.Option h other r k = h
fails_lacks t why.RemoteHelper h other r k = helper_lacks t r h k.reads
fails_lacks t why.HomeOrHere h other r k = places_lacks t r h k.reads
fails_lacks t why.SecureShellUrl h other r k = gives_lacks t h.place h.path r h.secure h.gets k.reads
fails_lacks t why.Refused h other r k = h.0 r k.reads

-- the reason why a text isn't read is that of the text
pub fails_why : (t : List ℕ) (w : Unread) → IsGiven t → Fails t w → Unreads t w
fails_why t why.Memory given h = (given, h)
fails_why t why.ByteZero given h = absurd h
fails_why t why.Option given h = absurd h
fails_why t why.RemoteHelper given h = (given, h)
fails_why t why.HomeOrHere given h = (given, h)
fails_why t why.SecureShellUrl given h = (given, h)
fails_why t why.Refused given h = (given, h.1)

-- a text that names a helper is for a helper
pub named_for : (t : List ℕ) → NamesHelper t → IsForHelper t
named_for t (inl h) = IsForHelper.named h
named_for t (inr (rest, e)) = IsForHelper.unnamed rest e

-- ---- the texts that are read

-- a local path is read if its path is
pub local_reads : (t passed path : List ℕ) (r : GitReading) → ¬ Holds url_mark t → ¬ NamesHelper t → ¬ BeginsBy (codes "rsync:") t → IsLocal t → HostEnd t passed path → IsReadPath path → r ≡ on_this_machine path → ReadsInput t r
local_reads t passed path r none unnamed other place e some is = ReadsInput.local_path passed path (is_no_url t none unnamed other) place e some.some some.safe some.no_home is

-- the place of the scp form that Secure Shell reaches is read
pub scp_reads : (t place path given : List ℕ) (r : GitReading) → IsNoUrl t → IsRemote t → CutsPlace colon t place path → given ≡ from_tilde path → ReachesSecure place given r → ReadsInput t r
scp_reads t place path given r n m c is h = ReadsInput.scp_form place path n m c (subst (λ s. ReachesSecure place s r) is h)

-- the transports that the code has are Git's own
pub protocol_own : (p : Protocol) → is_own (scheme_of_protocol p) ≡ true
protocol_own protocol.Ssh = refl
protocol_own protocol.Git = refl
protocol_own protocol.File = refl
