-- Which texts name a remote helper, have the scp form or are a local path, and the places that Secure Shell
-- reaches.
use Rattle.std.proofs.Common.{◌≡◌, ◌∙◌, ◌↔◌, ◌==◌, ℕ, ◌<◌, Bool, true, false, inl, inr, List, [], ◌∷◌, ◌++◌, length, Option, IsTrue, codes, refl, sym, ap, subst, arith, append_assoc}
use Rattle.std.proofs.lemmas.Bool.{both_ways, false≢true}
use Rattle.git_syntax.specs.Location.Scheme.{ssh}
use Rattle.git_syntax.specs.Bytes.{slash, colon, at_sign, FreeOf, begins_with, is_helper_name, is_option_like}
use Rattle.git_syntax.specs.Authority.{unless_empty}
use Rattle.git_reads.specs.Git.{GitReading, HostAndPort, SecurePort, UserCut, ReachesSecure, IsRemote, IsLocal}
use Rattle.git_reads.specs.Unread.{GetsUrl}
use Rattle.git_reads.specs.Transports.{BeginsBy, NamesHelper, LacksAny}
use Rattle.git_syntax.proofs.Texts.CutLemmas.{begins_cut, cut_unique, free_or_cut, free_parts, last_cut_unique, not_free}
use Rattle.git_syntax.proofs.Parsing.ClassifierLemmas.{helper_front, no_helper_alone}
use Rattle.git_reads.proofs.Reading.UniqueLemmas.{host_unique, remote_not_local, secure_unique}

-- ---- remote helpers

-- a text with two colons after a name names a helper if the name is one
pub helper_decided : (t name address : List ℕ) (b : Bool) → FreeOf colon name → t ≡ name ++ colon ∷ address → begins_with colon address ≡ true → (length name == 0) ≡ false → b ≡ is_helper_name name → IsTrue b ↔ NamesHelper t
helper_decided t name address b free e double some is =
    let (rest, begins) = begins_cut colon address double in
    let found : IsTrue b → NamesHelper t = λ h. inl (name, rest, record { named = sym is ∙ h; joined = e ∙ ap (λ s. name ++ colon ∷ s) begins }) in
    let back : NamesHelper t → IsTrue b = λ h. elim h [
      | inl (n, a, k) ↦ is ∙ ap is_helper_name (sym (helper_front t name address n a k free e).0) ∙ k.named
      | inr (more, whole) ↦ absurd (both_ways (length name == 0) some (ap (λ s. length s == 0) (cut_unique colon name [] address (colon ∷ more) free refl (sym e ∙ whole)).0))
    ] in
    (found, back)

-- a text with one colon after a name names no helper
pub helper_single : (t name address : List ℕ) → FreeOf colon name → t ≡ name ++ colon ∷ address → begins_with colon address ≡ false → ¬ NamesHelper t
helper_single t name address free e single (inl h) = no_helper_alone t name address free e single h
helper_single t name address free e single (inr (more, whole)) =
    false≢true (sym single ∙ ap (begins_with colon) (cut_unique colon name [] address (colon ∷ more) free refl (sym e ∙ whole)).1)

-- ---- the scp form and local paths

-- a text whose first colon is after a `/` is a local path
local_after : (t front rest x y : List ℕ) → FreeOf colon front → t ≡ front ++ colon ∷ rest → front ≡ x ++ slash ∷ y → IsLocal t
local_after t front rest x y free e is =
    inr (x, y ++ colon ∷ rest, (free_parts colon x (slash ∷ y) (subst (λ s. FreeOf colon s) is free)).0, e ∙ ap (λ s. s ++ colon ∷ rest) is ∙ append_assoc x (slash ∷ y) (colon ∷ rest))

-- a text has the scp form if its first colon is before any `/`
pub remote_decided : (t front rest : List ℕ) (b : Bool) → FreeOf colon front → t ≡ front ++ colon ∷ rest → (IsTrue b ↔ FreeOf slash front) → IsTrue b ↔ IsRemote t
remote_decided t front rest b free e decided = (
  λ h. record { front = front; rest = rest; joined = e; no_slash = decided.0 h },
  λ h. elim (free_or_cut slash front) [
    | inl none ↦ decided.1 none
    | inr (x, y, first, is) ↦ remote_not_local t h (local_after t front rest x y free e is)
  ],
)

-- a text without the scp form is a local path
pub local_decided : (t : List ℕ) → ¬ IsRemote t → IsLocal t
local_decided t other = elim (free_or_cut colon t) [
  | inl free ↦ inl free
  | inr (front, rest, free, e) ↦ elim (free_or_cut slash front) [
    | inl none ↦ absurd (other record { front = front; rest = rest; joined = e; no_slash = none })
    | inr (x, y, first, is) ↦ local_after t front rest x y free e is
  ]
]

-- ---- users

-- a word with nothing before its last `@` has no user and no host
pub user_refused : (word front host : List ℕ) → length front < 1 → FreeOf at_sign host → word ≡ front ++ at_sign ∷ host → (user : Option (List ℕ)) (other : List ℕ) → ¬ UserCut word user other
user_refused word front host empty free e user other (UserCut.host_alone none is whole) = not_free at_sign front host (subst (λ s. FreeOf at_sign s) e none)
user_refused word front host empty free e user other (UserCut.with_user name some none whole is) =
    absurd (omega (arith, some, ap length (last_cut_unique at_sign name front other host none free (sym whole ∙ e)).0, empty))

-- ---- Secure Shell

-- a place gives one word and one port
gets_unique : (place n m : List ℕ) (f g : Option ℕ) (w v : List ℕ) (p q : Option ℕ) → HostAndPort place n f → SecurePort n f w p → HostAndPort place m g → SecurePort m g v q → (w ≡ v) × (p ≡ q)
gets_unique place n m f g w v p q h s k t =
    let hosts = host_unique place n m f g h k in
    secure_unique m g w v p q (subst (λ x. SecurePort m x w p) hosts.1 (subst (λ x. SecurePort x f w p) hosts.0 s)) t

-- the word and the port that a place gives
pub record GivesWord (place word : List ℕ) (port : Option ℕ) : Type 0 where
  pub named : List ℕ
  pub found : Option ℕ
  pub cut : HostAndPort place named found
  pub secure : SecurePort named found word port

-- the word that a place gives is the word of each place that is reached
reached_word : (place path word : List ℕ) (port : Option ℕ) (r : GitReading) → GivesWord place word port → (k : ReachesSecure place path r) → word ≡ k.word
reached_word place path word port r h k = (gets_unique place h.named k.named h.found k.found word k.word port k.port h.cut h.secure k.cut k.secure).0

-- the word that a place gives is the URL that Secure Shell gets
url_word : (place path word : List ℕ) (port : Option ℕ) → GivesWord place word port → (k : GetsUrl place path) → word ≡ codes "ssh://" ++ k.suffix
url_word place path word port h k = (gets_unique place h.named k.named h.found k.found word (codes "ssh://" ++ k.suffix) port k.port h.cut h.secure k.cut k.word).0

-- Secure Shell reaches nothing and gets no URL
abbrev pub IsRefused : List ℕ → List ℕ → Type 0
IsRefused place path = LacksAny (ReachesSecure place path) × ¬ GetsUrl place path

-- Secure Shell refuses a word that is an option
pub word_refused : (place path word : List ℕ) (port : Option ℕ) → GivesWord place word port → is_option_like word ≡ true → IsRefused place path
word_refused place path word port h option = (
  λ r k. both_ways (is_option_like k.word) k.word_safe (ap is_option_like (sym (reached_word place path word port r h k)) ∙ option),
  λ k. both_ways (is_option_like (codes "ssh://" ++ k.suffix)) refl (ap is_option_like (sym (url_word place path word port h k)) ∙ option),
)

-- Secure Shell refuses a word that isn't a URL and has an empty user
pub split_refused : (place path word : List ℕ) (port : Option ℕ) → GivesWord place word port → ¬ BeginsBy (codes "ssh://") word → ((user : Option (List ℕ)) (host : List ℕ) → ¬ UserCut word user host) → IsRefused place path
split_refused place path word port h other uncut = (
  λ r k. uncut k.user k.host (subst (λ w. UserCut w k.user k.host) (sym (reached_word place path word port r h k)) k.split),
  λ k. other (k.suffix, url_word place path word port h k),
)

-- Secure Shell gets a URL if its word begins with `ssh://`
pub gets_url : (place path word : List ℕ) (port : Option ℕ) → GivesWord place word port → is_option_like path ≡ false → BeginsBy (codes "ssh://") word → GetsUrl place path
gets_url place path word port h safe (suffix, begins) = record {
  named = h.named;
  found = h.found;
  port = port;
  suffix = suffix;
  cut = h.cut;
  word = subst (λ w. SecurePort h.named h.found w port) begins h.secure;
  path_safe = safe;
}

-- Secure Shell reaches nothing if it gets a URL
pub url_lacks : (place path : List ℕ) → GetsUrl place path → LacksAny (ReachesSecure place path)
url_lacks place path h r k =
    let word : GivesWord place (codes "ssh://" ++ h.suffix) h.port = record { named = h.named; found = h.found; cut = h.cut; secure = h.word } in
    k.no_url h.suffix (sym (reached_word place path (codes "ssh://" ++ h.suffix) h.port r word k))

-- a place that Secure Shell reaches, by its parts
abbrev secure_of : List ℕ → Option (List ℕ) → Option ℕ → Option (List ℕ) → GitReading
secure_of whole name number place = record { protocol = ssh; user = name; host = place; port = number; path = whole }

-- Secure Shell reaches a place if its word isn't an option, isn't a URL and doesn't have an empty user
pub secure_reached : (place path word host : List ℕ) (port : Option ℕ) (user kept : Option (List ℕ)) → GivesWord place word port → is_option_like word ≡ false → is_option_like path ≡ false → ¬ BeginsBy (codes "ssh://") word → UserCut word user host → kept ≡ unless_empty host → ReachesSecure place path (record { protocol = ssh; user = user; host = kept; port = port; path = path })
secure_reached place path word host port user kept h word_safe path_safe other split is = record {
  named = h.named;
  found = h.found;
  word = word;
  host = host;
  user = user;
  port = port;
  cut = h.cut;
  secure = h.secure;
  word_safe = word_safe;
  path_safe = path_safe;
  no_url = λ rest e. other (rest, e);
  split = split;
  value = ap (secure_of path user port) is;
}
