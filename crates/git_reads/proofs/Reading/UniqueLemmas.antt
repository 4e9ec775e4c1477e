-- Git reads one thing in a text: its cuts are unique.
use Rattle.std.proofs.Common.{◌≡◌, ◌∙◌, ℕ, ◌<◌, Bool, true, false, not, ◌==◌, ◌⊎◌, inl, inr, List, [], ◌∷◌, ◌++◌, length, Option, Some, None, codes, refl, sym, ap, subst, arith, eq-eqb}
use Rattle.std.proofs.lemmas.Bool.Decides.{nat_tests}
use Rattle.std.proofs.lemmas.Bool.{both_ways, false≢true}
use Rattle.std.proofs.lemmas.Option.{none-some}
use Rattle.std.proofs.lemmas.Slice.Eq.{bytes_eq-Decides}
use Rattle.git_syntax.specs.Location.{Scheme}
use Rattle.git_syntax.specs.Location.Scheme.{file, git, ssh}
use Rattle.git_syntax.specs.Bytes.{slash, colon, FreeOf}
use Rattle.git_syntax.specs.Schemes.{scheme_of}
use Rattle.git_syntax.specs.Authority.{unless_empty}
use Rattle.git_reads.specs.Git.{GitReading, OneGitReading, on_this_machine, from_tilde, git_decode, CutsPlace, git_port, BeforePort, HostAndPort, SecurePort, UserCut, ReachesSecure, ReachesGit, OwnUrl, IsNoUrl, IsRemote, IsLocal, ReadsInput}
use Rattle.git_syntax.proofs.Parsing.SchemeLemmas.{scheme_cases, transport}
use Rattle.git_reads.proofs.Texts.PlaceLemmas.{brackets_unique, brackets_not_lacked, host_end_unique}
use Rattle.git_syntax.proofs.Texts.CutLemmas.{heads, tails, different_bytes, cut_unique, free_head_tail, last_cut_unique, not_free}

-- ---- places

-- a text is cut at one place
pub place_unique : (c : ℕ) (t place rest other more : List ℕ) → CutsPlace c t place rest → CutsPlace c t other more → (place ≡ other) × (rest ≡ more)
place_unique c t place rest other more h k =
    let ends = host_end_unique t h.passed (h.between ++ c ∷ rest) k.passed (k.between ++ c ∷ more) h.end k.end in
    let cut = cut_unique c h.between k.between rest more h.first k.first ends.1 in
    (h.joined ∙ ap (λ x. x ++ h.between) ends.0 ∙ ap (λ x. k.passed ++ x) cut.0 ∙ sym k.joined, cut.1)

-- ---- ports

-- a text and a port
abbrev both : List ℕ → Option ℕ → List ℕ × Option ℕ
both text port = (text, port)

-- the pieces of a text around its first colon make up the text
abbrev outcome : List ℕ → List ℕ → List ℕ → Option ℕ → List ℕ × Option ℕ
outcome t front suffix (Some number) = (front, Some number)
outcome t front [] None = (front, None)
outcome t front (b ∷ bs) None = (t, None)

-- the text is cut at its first colon, and this comes of it
record ComesOfCut (t front : List ℕ) (port : Option ℕ) : Type 0 where
  before : List ℕ
  suffix : List ℕ
  first : FreeOf colon before
  joined : t ≡ before ++ colon ∷ suffix
  value : both front port ≡ outcome t before suffix (git_port suffix)

-- the text has no colon, and is the rest
record ComesOfNone (t front : List ℕ) (port : Option ℕ) : Type 0 where
  free : FreeOf colon t
  value : both front port ≡ both t None

-- a text that isn't a port leaves the text unchanged
unmarked_outcome : (t front suffix : List ℕ) → 0 < length suffix → outcome t front suffix None ≡ both t None
unmarked_outcome t front [] some = absurd (omega arith)
unmarked_outcome t front (b ∷ bs) some = refl

-- equal texts and equal ports
pair : (a b : List ℕ) (p q : Option ℕ) → a ≡ b → p ≡ q → both a p ≡ both b q
pair a b p q e f = λ i. (e i, f i)

-- one or the other comes of a text
before_comes : (t front : List ℕ) (port : Option ℕ) → BeforePort t front port → ComesOfCut t front port ⊎ ComesOfNone t front port
before_comes t front port (BeforePort.marked digits number first e is p) = inl record {
  before = front;
  suffix = digits;
  first = first;
  joined = e;
  value = pair front front port (Some number) refl p ∙ ap (outcome t front digits) (sym is);
}
before_comes t front port (BeforePort.colon_alone first e p) = inl record { before = front; suffix = []; first = first; joined = e; value = pair front front port None refl p }
before_comes t front port (BeforePort.unmarked host other first e some is whole p) = inl record {
  before = host;
  suffix = other;
  first = first;
  joined = e;
  value = pair front t port None whole p ∙ sym (unmarked_outcome t host other some) ∙ ap (outcome t host other) (sym is);
}
before_comes t front port (BeforePort.no_colon free whole p) = inr record { free = free; value = pair front t port None whole p }

-- and one outcome
comes_unique : (t front other : List ℕ) (port number : Option ℕ) → ComesOfCut t front port ⊎ ComesOfNone t front port → ComesOfCut t other number ⊎ ComesOfNone t other number → both front port ≡ both other number
comes_unique t front other port number h5 h6 = grind (arith, nat_tests, cut_unique, not_free)

-- so one port follows one front
before_unique : (t front other : List ℕ) (port number : Option ℕ) → BeforePort t front port → BeforePort t other number → (front ≡ other) × (port ≡ number)
before_unique t front other port number h k =
    let same = comes_unique t front other port number (before_comes t front port h) (before_comes t other number k) in
    (ap (λ p. p.0) same, ap (λ p. p.1) same)

-- a place has one host and one port
pub host_unique : (place host other : List ℕ) (port number : Option ℕ) → HostAndPort place host port → HostAndPort place other number → (host ≡ other) × (port ≡ number)
host_unique place host other port number (HostAndPort.brackets f i b d h is p) (HostAndPort.brackets f' i' b' d' h' is' p') =
    let same = brackets_unique place f i b f' i' b' h h' in
    (is ∙ ap (λ x. x ++ i) same.0 ∙ ap (λ x. f' ++ x) same.1 ∙ sym is', (before_unique b' d d' port number (subst (λ x. BeforePort x d port) same.2 p) p').1)
host_unique place host other port number (HostAndPort.brackets f i b d h is p) (HostAndPort.none lacks p') = absurd (brackets_not_lacked place f i b h lacks)
host_unique place host other port number (HostAndPort.none lacks p) (HostAndPort.brackets f i b d h is p') = absurd (brackets_not_lacked place f i b h lacks)
host_unique place host other port number (HostAndPort.none lacks p) (HostAndPort.none lacks' p') = before_unique place host other port number p p'

-- ---- Secure Shell

-- a port was found, and no other is searched for
abbrev secure_outcome : List ℕ → List ℕ → Option ℕ → List ℕ × Option ℕ
secure_outcome named front (Some number) = (front, Some number)
secure_outcome named front None = (named, None)

-- the place of the text in brackets
data SecureComes (named : List ℕ) (found : Option ℕ) (word : List ℕ) (port : Option ℕ) : Type 0 where
  of_found : (number : ℕ) → found ≡ Some number → both word port ≡ both named found → SecureComes named found word port
  of_cut : (front digits : List ℕ) → found ≡ None → FreeOf colon front → named ≡ front ++ colon ∷ digits
      → both word port ≡ secure_outcome named front (git_port digits) → SecureComes named found word port
  of_none : found ≡ None → FreeOf colon named → both word port ≡ both named None → SecureComes named found word port

-- this comes of it
secure_comes : (named : List ℕ) (found : Option ℕ) (word : List ℕ) (port : Option ℕ) → SecurePort named found word port → SecureComes named found word port
secure_comes named found word port (SecurePort.outside n is w p) = SecureComes.of_found n is (pair word named port found w p)
secure_comes named found word port (SecurePort.inside d n none first e is p) =
    SecureComes.of_cut word d none first e (pair word word port (Some n) refl p ∙ ap (secure_outcome named word) (sym is))
secure_comes named found word port (SecurePort.unmarked h o none first e is w p) =
    SecureComes.of_cut h o none first e (pair word named port None w p ∙ ap (secure_outcome named h) (sym is))
secure_comes named found word port (SecurePort.no_colon none free w p) = SecureComes.of_none none free (pair word named port None w p)

-- the port that was found is there
found_not_none : {A : Type 0} (found : Option ℕ) (n : ℕ) → found ≡ Some n → found ≡ None → A
found_not_none found n is none = absurd (none-some n (sym none ∙ is))

-- one outcome comes of it
secure_same : (named : List ℕ) (found : Option ℕ) (word other : List ℕ) (port number : Option ℕ) → SecureComes named found word port → SecureComes named found other number → both word port ≡ both other number
secure_same named found word other port number h6 h7 = grind (arith, nat_tests, found_not_none, cut_unique, not_free)

-- so there is one word, and one port
pub secure_unique : (named : List ℕ) (found : Option ℕ) (word other : List ℕ) (port number : Option ℕ) → SecurePort named found word port → SecurePort named found other number → (word ≡ other) × (port ≡ number)
secure_unique named found word other port number h k =
    let same = secure_same named found word other port number (secure_comes named found word port h) (secure_comes named found other number k) in
    (ap (λ p. p.0) same, ap (λ p. p.1) same)

-- Secure Shell cuts its word in one way
user_unique : (word host other : List ℕ) (user name : Option (List ℕ)) → UserCut word user host → UserCut word name other → (user ≡ name) × (host ≡ other)
user_unique word host other user name h5 h6 = grind (arith, nat_tests, not_free, last_cut_unique)

-- ---- transports

-- the place that Secure Shell reaches, by its parts
abbrev secure_of : List ℕ → Option (List ℕ) → List ℕ → Option ℕ → GitReading
secure_of whole name place number = record { protocol = ssh; user = name; host = unless_empty place; port = number; path = whole }

-- equal parts make equal readings
same_secure : (path : List ℕ) (user name : Option (List ℕ)) (host other : List ℕ) (port number : Option ℕ) → user ≡ name → host ≡ other → port ≡ number → secure_of path user host port ≡ secure_of path name other number
same_secure path user name host other port number e f g = λ i. secure_of path (e i) (f i) (g i)

-- the place that Git's own protocol reaches, by its parts
abbrev git_of : List ℕ → List ℕ → Option ℕ → GitReading
git_of whole place number = record { protocol = git; user = None; host = unless_empty place; port = number; path = whole }

-- equal parts make equal readings
same_git : (path host other : List ℕ) (port number : Option ℕ) → host ≡ other → port ≡ number → git_of path host port ≡ git_of path other number
same_git path host other port number f g = λ i. git_of path (f i) (g i)

-- Secure Shell reaches one place
secure_reading_unique : (place path : List ℕ) (reading other : GitReading) → ReachesSecure place path reading → ReachesSecure place path other → reading ≡ other
secure_reading_unique place path reading other h k =
    let hosts = host_unique place h.named k.named h.found k.found h.cut k.cut in
    let secure = subst (λ n. SecurePort n h.found h.word h.port) hosts.0 h.secure in
    let words = secure_unique k.named k.found h.word k.word h.port k.port (subst (λ f. SecurePort k.named f h.word h.port) hosts.1 secure) k.secure in
    let users = user_unique k.word h.host k.host h.user k.user (subst (λ w. UserCut w h.user h.host) words.0 h.split) k.split in
    h.value ∙ same_secure path h.user k.user h.host k.host h.port k.port users.0 users.1 words.1 ∙ sym k.value

-- so does Git's own protocol
git_reading_unique : (place path : List ℕ) (reading other : GitReading) → ReachesGit place path reading → ReachesGit place path other → reading ≡ other
git_reading_unique place path reading other h k =
    let hosts = host_unique place h.host k.host h.port k.port h.cut k.cut in
    h.value ∙ same_git path h.host k.host h.port k.port hosts.0 hosts.1 ∙ sym k.value

-- ---- forms

-- the scheme is one of Git's own transports
abbrev pub is_own : Scheme → Bool
is_own file = true
is_own git = true
is_own ssh = true
is_own _ = false

-- the scheme of a transport has no colon
pub own_free : (p : Scheme) (s : List ℕ) → scheme_of s ≡ p → is_own p ≡ true → FreeOf colon s
own_free p s h2 h3 = grind (arith, nat_tests, transport, not, scheme_cases, false≢true, bytes_eq-Decides, codes)

-- a URL of a transport is one of no other, and one rest follows its scheme
pub own_unique : (p q : Scheme) (t rest other : List ℕ) → is_own p ≡ true → is_own q ≡ true → OwnUrl p t rest → OwnUrl q t other → (p ≡ q) × (rest ≡ other)
own_unique p q t rest other first second h k =
    let schemes = cut_unique colon h.scheme k.scheme (slash ∷ slash ∷ h.spelled) (slash ∷ slash ∷ k.spelled) (own_free p h.scheme h.own first) (own_free q k.scheme k.own second) (sym h.joined ∙ k.joined) in
    (sym h.own ∙ ap scheme_of schemes.0 ∙ k.own, h.decoded ∙ ap git_decode (tails (tails schemes.1)) ∙ sym k.decoded)

-- a URL isn't another text
pub own_no_other : {A : Type 0} (p : Scheme) (t rest : List ℕ) → OwnUrl p t rest → IsNoUrl t → A
own_no_other p t rest h k = absurd (k.no_mark (h.scheme, h.spelled, h.joined))

-- a colon before any `/` isn't after one
not_both_first : (x y p q : List ℕ) → FreeOf slash x → FreeOf colon p → x ++ colon ∷ y ≡ p ++ slash ∷ q → ⊥
not_both_first [] y [] q f g e = different_bytes 58 47 refl e
not_both_first [] y (b ∷ p) q f g e = both_ways (b == colon) (free_head_tail colon b p g).0 (eq-eqb b colon (sym (heads e)))
not_both_first (a ∷ x) y [] q f g e = both_ways (a == slash) (free_head_tail slash a x f).0 (eq-eqb a slash (heads e))
not_both_first (a ∷ x) y (b ∷ p) q f g e = not_both_first x y p q (free_head_tail slash a x f).1 (free_head_tail colon b p g).1 (tails e)

-- no text is both the scp form and a local path
pub remote_not_local : {A : Type 0} (t : List ℕ) → IsRemote t → IsLocal t → A
remote_not_local t h (inl free) = absurd (not_free colon h.front h.rest (subst (λ s. FreeOf colon s) h.joined free))
remote_not_local t h (inr (p, q, free, e)) = absurd (not_both_first h.front h.rest p q h.no_slash free (sym h.joined ∙ e))

-- two URLs of one transport are cut alike
url_cut_unique : (p : Scheme) (t rest other place name path more : List ℕ) → is_own p ≡ true → OwnUrl p t rest → OwnUrl p t other → CutsPlace slash rest place path → CutsPlace slash other name more → (place ≡ name) × (path ≡ more)
url_cut_unique p t rest other place name path more own h k c d =
    let same = own_unique p p t rest other own own h k in
    place_unique slash other place path name more (subst (λ r. CutsPlace slash r place path) same.1 c) d

-- and URLs of two transports are two texts
apart : {A : Type 0} (p q : Scheme) (t rest other : List ℕ) → is_own p ≡ true → is_own q ≡ true → ¬ (p ≡ q) → OwnUrl p t rest → OwnUrl q t other → A
apart p q t rest other first second differ h k = absurd (differ (own_unique p q t rest other first second h k).0)

-- equal places and paths are reached alike by Secure Shell
secure_paths : (place name path more : List ℕ) (reading other : GitReading) → place ≡ name → path ≡ more → ReachesSecure place path reading → ReachesSecure name more other → reading ≡ other
secure_paths place name path more reading other e f h k =
    secure_reading_unique name more reading other (subst (λ p. ReachesSecure name p reading) f (subst (λ n. ReachesSecure n path reading) e h)) k

-- and by Git's own protocol
git_paths : (place name path more : List ℕ) (reading other : GitReading) → place ≡ name → path ≡ more → ReachesGit place path reading → ReachesGit name more other → reading ≡ other
git_paths place name path more reading other e f h k =
    git_reading_unique name more reading other (subst (λ p. ReachesGit name p reading) f (subst (λ n. ReachesGit n path reading) e h)) k

-- the same form reads one thing
reads_alike : (t : List ℕ) (reading other : GitReading) → ReadsInput t reading → ReadsInput t other → reading ≡ other
reads_alike t r o (ReadsInput.secure_url x place path u c h) (ReadsInput.secure_url x' place' path' u' c' h') =
    let same = url_cut_unique ssh t x x' place place' path path' refl u u' c c' in
    secure_paths place place' (from_tilde (slash ∷ path)) (from_tilde (slash ∷ path')) r o same.0 (ap (λ p. from_tilde (slash ∷ p)) same.1) h h'
reads_alike t r o (ReadsInput.secure_url x place path u c h) (ReadsInput.git_url x' place' path' u' c' h') = apart ssh git t x x' refl refl (λ e. cc) u u'
reads_alike t r o (ReadsInput.secure_url x place path u c h) (ReadsInput.file_url x' place' path' u' c' h') = apart ssh file t x x' refl refl (λ e. cc) u u'
reads_alike t r o (ReadsInput.secure_url x place path u c h) (ReadsInput.scp_form place' path' n m c' h') = own_no_other ssh t x u n
reads_alike t r o (ReadsInput.secure_url x place path u c h) (ReadsInput.local_path p' path' n l e some safe low is) = own_no_other ssh t x u n
reads_alike t r o (ReadsInput.git_url x place path u c h) (ReadsInput.secure_url x' place' path' u' c' h') = apart git ssh t x x' refl refl (λ e. cc) u u'
reads_alike t r o (ReadsInput.git_url x place path u c h) (ReadsInput.git_url x' place' path' u' c' h') =
    let same = url_cut_unique git t x x' place place' path path' refl u u' c c' in
    git_paths place place' (from_tilde (slash ∷ path)) (from_tilde (slash ∷ path')) r o same.0 (ap (λ p. from_tilde (slash ∷ p)) same.1) h h'
reads_alike t r o (ReadsInput.git_url x place path u c h) (ReadsInput.file_url x' place' path' u' c' h') = apart git file t x x' refl refl (λ e. cc) u u'
reads_alike t r o (ReadsInput.git_url x place path u c h) (ReadsInput.scp_form place' path' n m c' h') = own_no_other git t x u n
reads_alike t r o (ReadsInput.git_url x place path u c h) (ReadsInput.local_path p' path' n l e some safe low is) = own_no_other git t x u n
reads_alike t r o (ReadsInput.file_url x place path u c h) (ReadsInput.secure_url x' place' path' u' c' h') = apart file ssh t x x' refl refl (λ e. cc) u u'
reads_alike t r o (ReadsInput.file_url x place path u c h) (ReadsInput.git_url x' place' path' u' c' h') = apart file git t x x' refl refl (λ e. cc) u u'
reads_alike t r o (ReadsInput.file_url x place path u c h) (ReadsInput.file_url x' place' path' u' c' h') =
    h ∙ ap (λ p. on_this_machine (slash ∷ p)) (url_cut_unique file t x x' place place' path path' refl u u' c c').1 ∙ sym h'
reads_alike t r o (ReadsInput.file_url x place path u c h) (ReadsInput.scp_form place' path' n m c' h') = own_no_other file t x u n
reads_alike t r o (ReadsInput.file_url x place path u c h) (ReadsInput.local_path p' path' n l e some safe low is) = own_no_other file t x u n
reads_alike t r o (ReadsInput.scp_form place path n m c h) (ReadsInput.secure_url x' place' path' u' c' h') = own_no_other ssh t x' u' n
reads_alike t r o (ReadsInput.scp_form place path n m c h) (ReadsInput.git_url x' place' path' u' c' h') = own_no_other git t x' u' n
reads_alike t r o (ReadsInput.scp_form place path n m c h) (ReadsInput.file_url x' place' path' u' c' h') = own_no_other file t x' u' n
reads_alike t r o (ReadsInput.scp_form place path n m c h) (ReadsInput.scp_form place' path' n' m' c' h') =
    let same = place_unique colon t place path place' path' c c' in
    secure_paths place place' (from_tilde path) (from_tilde path') r o same.0 (ap from_tilde same.1) h h'
reads_alike t r o (ReadsInput.scp_form place path n m c h) (ReadsInput.local_path p' path' n' l e some safe low is) = remote_not_local t m l
reads_alike t r o (ReadsInput.local_path p path n l e some safe low is) (ReadsInput.secure_url x' place' path' u' c' h') = own_no_other ssh t x' u' n
reads_alike t r o (ReadsInput.local_path p path n l e some safe low is) (ReadsInput.git_url x' place' path' u' c' h') = own_no_other git t x' u' n
reads_alike t r o (ReadsInput.local_path p path n l e some safe low is) (ReadsInput.file_url x' place' path' u' c' h') = own_no_other file t x' u' n
reads_alike t r o (ReadsInput.local_path p path n l e some safe low is) (ReadsInput.scp_form place' path' n' m c' h') = remote_not_local t m l
reads_alike t r o (ReadsInput.local_path p path n l e some safe low is) (ReadsInput.local_path p' path' n' l' e' some' safe' low' is') =
    is ∙ ap on_this_machine (host_end_unique t p path p' path' e e').1 ∙ sym is'

-- Git reads one thing in a text
pub one_reading : OneGitReading
one_reading t reading other h k = reads_alike t reading other h.reads k.reads
