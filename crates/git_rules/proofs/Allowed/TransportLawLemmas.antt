-- Each text has a transport or a reason why it has none, and the transport is that of the place that Git
-- reads.
use Rattle.std.proofs.Common.{◌≡◌, ◌∙◌, ℕ, true, false, ◌==◌, ◌⊎◌, inl, inr, List, [], ◌∷◌, ◌++◌, codes, bytes_eq, refl, sym, ap, subst, append-nil, arith}
use Rattle.std.specs.List.{starts_with}
use Rattle.std.proofs.lemmas.Bool.{cases_Bool, false≢true, or_cases}
use Rattle.std.proofs.lemmas.Bool.Decides.{Decides-eqb}
use Rattle.std.proofs.lemmas.Slice.Eq.{bytes_eq-Decides, starts_is}
use Rattle.git_syntax.specs.Location.{Scheme, Location}
use Rattle.git_syntax.specs.Location.Scheme.{file, git, ssh, http, https, ext, helper, helper_url}
use Rattle.git_syntax.specs.Bytes.{slash, colon, FreeOf, Holds, begins_with, is_helper_name, is_option_like}
use Rattle.git_syntax.specs.Internal.Cuts.{url_mark}
use Rattle.git_syntax.specs.Schemes.{is_ssh_scheme, scheme_of, scheme_text}
use Rattle.git_reads.specs.Git.{GitReading, OwnUrl, IsNoUrl, IsRemote, ReadsInput}
use Rattle.git_reads.specs.Transports.{BeginsBy, NamesHelper}
use Rattle.git_class.specs.GitClass.{SuitsTransport, AgreesByTransport, AgreesBy}
use Rattle.git_laws.specs.GitWeb.{ReadsOwnOverWeb}
use Rattle.git_laws.specs.GitClass.{own_reading, ReadAlike, ReadsOwnBy, ReadsOwnPlace}
use Rattle.git_syntax.proofs.Texts.CutLemmas.{different_bytes, free_or_cut, not_free, tails}
use Rattle.git_reads.proofs.Reading.TransportLemmas.{helper_single, local_decided, remote_decided}
use Rattle.git_reads.proofs.Reading.UnreadLemmas.{is_no_url}
use Rattle.git_reads.specs.Unread.{IsGiven}
use Rattle.git_rules.specs.declared.protocols.text.NoTransport.{NoTransport}
use Rattle.git_rules.specs.declared.protocols.text.NoTransport.TheVariants as why
use Rattle.git_rules.specs.TextTransports.{scheme_transport, UsesTransport, HasTransport, LacksTransport, EachDecided, TransportOfReading, TransportOfLocation}
use Rattle.git_rules.proofs.Allowed.TransportLemmas.{for_rsync, names_none, unknown, uses_empty, uses_helper, uses_url}

-- ---- fronts and parts of a text

-- a text begins with a mark or not
begins_or_not : (mark t : List ℕ) → BeginsBy mark t ⊎ ¬ BeginsBy mark t
begins_or_not mark t =
    let is = starts_is Decides-eqb t mark (starts_with (λ a b. a == b) t mark) refl in
    elim (cases_Bool (starts_with (λ a b. a == b) t mark)) [
      | inl begins ↦ inl (_, is.0 begins)
      | inr other ↦ inr (λ (rest, e). false≢true (sym other ∙ is.1 rest e))
    ]

-- a text that begins with a byte and the rest before a mark: it begins with the mark, or the rest holds it
held_at_front : (b : ℕ) (bs rest : List ℕ) → ¬ BeginsBy url_mark (b ∷ (bs ++ rest)) → ¬ Holds url_mark bs → ¬ Holds url_mark (b ∷ bs)
held_at_front b bs rest other none ([], more, e) = other (more ++ rest, ap (λ s. s ++ rest) e)
held_at_front b bs rest other none (c ∷ front, more, e) = none (front, more, tails e)

-- the first mark of a text, or that it holds none
pub record FirstMark (t : List ℕ) : Type 0 where
  pub scheme : List ℕ
  pub rest : List ℕ
  pub first : ¬ Holds url_mark scheme
  pub joined : t ≡ scheme ++ (url_mark ++ rest)

-- the empty text holds no mark
none_in_empty : ¬ Holds url_mark []
none_in_empty ([], rest, e) = absurd (cc)
none_in_empty (b ∷ front, rest, e) = absurd (cc)

-- a text has a first mark, or holds none
mark_or_none : (t : List ℕ) → FirstMark t ⊎ ¬ Holds url_mark t
mark_or_none [] = inr none_in_empty
mark_or_none (b ∷ bs) = elim (begins_or_not url_mark (b ∷ bs)) [
  | inl (rest, e) ↦ inl record { scheme = []; rest = rest; first = none_in_empty; joined = e }
  | inr other ↦ elim (mark_or_none bs) [
    | inl h ↦ inl record {
      scheme = b ∷ h.scheme;
      rest = h.rest;
      first = held_at_front b h.scheme (url_mark ++ h.rest) (subst (λ s. ¬ BeginsBy url_mark (b ∷ s)) h.joined other) h.first;
      joined = ap (λ s. b ∷ s) h.joined;
    }
    | inr none ↦ inr (λ h. held_at_front b bs [] (subst (λ s. ¬ BeginsBy url_mark (b ∷ s)) (sym (append-nil bs)) other) none h)
  ]
]

-- ---- remote helpers

-- the transport by the `::` of a text, or that it names no helper
abbrev HelperOrNone : List ℕ → Type 0
HelperOrNone t = ((name : List ℕ) × UsesTransport t name) ⊎ ¬ NamesHelper t

-- a text that is cut at its first colon, with another one after it
double_decided : (t name address : List ℕ) → FreeOf colon name → t ≡ name ++ colon ∷ address → begins_with colon address ≡ true → HelperOrNone t
double_decided t [] address free e double = inl ([], uses_empty t address e double)
double_decided t (b ∷ bs) address free e double = elim (cases_Bool (is_helper_name (b ∷ bs))) [
  | inl named ↦ inl (b ∷ bs, uses_helper t (b ∷ bs) address e double named)
  | inr other ↦ inr (names_none t (b ∷ bs) address free e (λ none. absurd (cc)) other)
]

-- a text without a colon names no helper
colonless : (t : List ℕ) → FreeOf colon t → ¬ NamesHelper t
colonless t free (inl (name, address, h)) = not_free colon name (colon ∷ address) (subst (FreeOf colon) h.joined free)
colonless t free (inr (rest, e)) = not_free colon [] (colon ∷ rest) (subst (FreeOf colon) e free)

-- a text has a transport by its `::`, or names no helper
helper_or_none : (t : List ℕ) → HelperOrNone t
helper_or_none t = elim (free_or_cut colon t) [
  | inl free ↦ inr (colonless t free)
  | inr (name, address, free, e) ↦ elim (cases_Bool (begins_with colon address)) [
    | inl double ↦ double_decided t name address free e double
    | inr single ↦ inr (helper_single t name address free e single)
  ]
]

-- ---- each text

-- a text has the scp form or not
remote_or_not : (t : List ℕ) → IsRemote t ⊎ ¬ IsRemote t
remote_or_not t = elim (free_or_cut colon t) [
  | inl free ↦ inr (λ h. not_free colon h.front h.rest (subst (FreeOf colon) h.joined free))
  | inr (front, rest, free, e) ↦ elim (free_or_cut slash front) [
    | inl none ↦ inl record { front = front; rest = rest; joined = e; no_slash = none }
    | inr (x, y, first, is) ↦ inr (λ h. false≢true ((remote_decided t front rest false free e (λ k. absurd (false≢true k), λ none. absurd (not_free slash x y (subst (FreeOf slash) is none)))).1 h))
  ]
]

-- a transport or a reason
abbrev Decided : List ℕ → Type 0
Decided t = ((name : List ℕ) × HasTransport t name) ⊎ ((w : NoTransport) × LacksTransport t w)

-- a text that isn't a URL has a transport
unmarked_decided : (t : List ℕ) → IsGiven t → IsNoUrl t → Decided t
unmarked_decided t input n = elim (remote_or_not t) [
  | inl remote ↦ inl (codes "ssh", record { input = input; uses = UsesTransport.scp_form n remote refl })
  | inr other ↦ inl (codes "file", record { input = input; uses = UsesTransport.local_path n (local_decided t other) refl })
]

-- a text that is neither for a helper nor for `rsync` is decided by its mark
marked_decided : (t : List ℕ) → IsGiven t → ¬ NamesHelper t → ¬ BeginsBy (codes "rsync:") t → Decided t
marked_decided t input unnamed other = elim (mark_or_none t) [
  | inl h ↦ elim (cases_Bool (is_helper_name h.scheme)) [
    | inl named ↦ inl (scheme_transport h.scheme, record { input = input; uses = uses_url t h.scheme h.rest other h.joined named })
    | inr is ↦ inr (why.UnknownScheme, (input, unknown t h.scheme h.rest unnamed other h.first h.joined is))
  ]
  | inr none ↦ unmarked_decided t input (is_no_url t none unnamed other)
]

-- a text that Git gets whole, and that isn't an option, is decided
given_decided : (t : List ℕ) → IsGiven t → Decided t
given_decided t input = elim (helper_or_none t) [
  | inl (name, h) ↦ inl (name, record { input = input; uses = h })
  | inr unnamed ↦ elim (begins_or_not (codes "rsync:") t) [
    | inl begins ↦ inr (why.Rsync, (input, for_rsync t unnamed begins))
    | inr other ↦ marked_decided t input unnamed other
  ]
]

-- each text has a transport, or a reason why it has none
pub each_decided : EachDecided
each_decided t = elim (free_or_cut 0 t) [
  | inr (x, y, free, e) ↦ inr (why.ByteZero, λ h. not_free 0 x y (subst (FreeOf 0) e h))
  | inl whole ↦ elim (cases_Bool (is_option_like t)) [
    | inl option ↦ inr (why.OptionLike, (whole, option))
    | inr plain ↦ given_decided t record { whole = whole; no_option = plain }
  ]
]

-- ---- the places that Git reads

-- the known facts about the scheme of one of Git's own transports
record IsOwnName (known : Scheme) (scheme : List ℕ) : Type 0 where
  named : is_helper_name scheme ≡ true
  other : ¬ (scheme ≡ codes "rsync")
  name : scheme_text known ≡ scheme_transport scheme

-- a URL of one of Git's own transports uses it
own_uses : (known : Scheme) (t rest : List ℕ) (u : OwnUrl known t rest) → IsOwnName known u.scheme → UsesTransport t (scheme_text known)
own_uses known t rest u h = UsesTransport.url u.scheme u.spelled u.joined h.named h.other h.name

-- a scheme of one of these transports, by its text
ssh_scheme : (s : List ℕ) → scheme_of s ≡ ssh → is_ssh_scheme s ≡ true
ssh_scheme s h = grind arith

git_scheme : (s : List ℕ) → scheme_of s ≡ git → bytes_eq s (codes "git") ≡ true
git_scheme s h = grind arith

file_scheme : (s : List ℕ) → scheme_of s ≡ file → bytes_eq s (codes "file") ≡ true
file_scheme s h = grind arith

-- each of them has such a name
ssh_name : (s : List ℕ) → is_ssh_scheme s ≡ true → IsOwnName ssh s
ssh_name s h = elim (or_cases (bytes_eq s (codes "ssh")) _ h) [
  | inl plain ↦ subst (IsOwnName ssh) (sym ((bytes_eq-Decides s (codes "ssh")).0 plain)) record { named = refl; other = λ e. different_bytes 115 114 refl e; name = refl }
  | inr more ↦ elim (or_cases (bytes_eq s (codes "ssh+git")) _ more) [
    | inl old ↦ subst (IsOwnName ssh) (sym ((bytes_eq-Decides s (codes "ssh+git")).0 old)) record { named = refl; other = λ e. different_bytes 115 114 refl e; name = refl }
    | inr older ↦ subst (IsOwnName ssh) (sym ((bytes_eq-Decides s (codes "git+ssh")).0 older)) record { named = refl; other = λ e. different_bytes 103 114 refl e; name = refl }
  ]
]

git_name : (s : List ℕ) → bytes_eq s (codes "git") ≡ true → IsOwnName git s
git_name s h = subst (IsOwnName git) (sym ((bytes_eq-Decides s (codes "git")).0 h)) record { named = refl; other = λ e. different_bytes 103 114 refl e; name = refl }

file_name : (s : List ℕ) → bytes_eq s (codes "file") ≡ true → IsOwnName file s
file_name s h = subst (IsOwnName file) (sym ((bytes_eq-Decides s (codes "file")).0 h)) record { named = refl; other = λ e. different_bytes 102 114 refl e; name = refl }

-- a name of a reading's transport is that of the transport that the reading has
of_protocol : (t : List ℕ) (known p : Scheme) → p ≡ known → UsesTransport t (scheme_text known) → UsesTransport t (scheme_text p)
of_protocol t known p e h = subst (λ s. UsesTransport t (scheme_text s)) (sym e) h

-- the transport of a text is that of the place that is read in it
reads_use : (t : List ℕ) (r : GitReading) → ReadsInput t r → UsesTransport t (scheme_text r.protocol)
reads_use t r (ReadsInput.secure_url rest place path u cut h) = of_protocol t ssh r.protocol (ap (λ (g : GitReading). g.protocol) h.value) (own_uses ssh t rest u (ssh_name u.scheme (ssh_scheme u.scheme u.own)))
reads_use t r (ReadsInput.git_url rest place path u cut h) = of_protocol t git r.protocol (ap (λ (g : GitReading). g.protocol) h.value) (own_uses git t rest u (git_name u.scheme (git_scheme u.scheme u.own)))
reads_use t r (ReadsInput.file_url rest place path u cut is) = of_protocol t file r.protocol (ap (λ (g : GitReading). g.protocol) is) (own_uses file t rest u (file_name u.scheme (file_scheme u.scheme u.own)))
reads_use t r (ReadsInput.scp_form place path n m cut h) = of_protocol t ssh r.protocol (ap (λ (g : GitReading). g.protocol) h.value) (UsesTransport.scp_form n m refl)
reads_use t r (ReadsInput.local_path passed path n l end some safe low is) = of_protocol t file r.protocol (ap (λ (g : GitReading). g.protocol) is) (UsesTransport.local_path n l refl)

-- if Git reads a place in a text, the transport of the text is that of the place
pub transport_of_reading : TransportOfReading
transport_of_reading t r h = record { input = record { whole = h.whole; no_option = h.no_option }; uses = reads_use t r h.reads }

-- ---- locations

-- the text of a location of Git's own transports uses the transport of its scheme
own_located : (known : Scheme) (v : Location) (t : List ℕ) → v.scheme ≡ known → ReadsOwnPlace t v → HasTransport t (scheme_text known)
own_located known v t e h = subst (λ s. HasTransport t (scheme_text s)) e (transport_of_reading t (own_reading v h.host) h.reads)

-- a text whose credential is asked for by the scheme uses the transport of that scheme
web_located : (known : Scheme) (v : Location) (t : List ℕ) → v.scheme ≡ known → IsOwnName known (scheme_text known) → ((rest : List ℕ) → is_option_like (scheme_text known ++ (url_mark ++ rest)) ≡ false) → ReadsOwnOverWeb t v → HasTransport t (scheme_text known)
web_located known v t e own plain h =
    let asked = h.credential.found in
    let joined : t ≡ scheme_text known ++ (url_mark ++ (asked.authority ++ asked.suffix)) = asked.cut.joined ∙ ap (λ s. scheme_text s ++ (url_mark ++ (asked.authority ++ asked.suffix))) e in
    record {
      input = record { whole = asked.cut.whole; no_option = ap is_option_like joined ∙ plain (asked.authority ++ asked.suffix) };
      uses = UsesTransport.url (scheme_text known) (asked.authority ++ asked.suffix) joined own.named own.other own.name;
    }

-- a scheme that Git's class doesn't have
not_of_class : {A : Type 0} (known : Scheme) (v : Location) → v.scheme ≡ known → AgreesByTransport v → ¬ SuitsTransport known v → A
not_of_class known v e h never = absurd (never (subst (λ s. SuitsTransport s v) e h.suits))

-- by the scheme
located : (known : Scheme) (v : Location) (t : List ℕ) → v.scheme ≡ known → AgreesBy known v → ReadsOwnBy known t v → HasTransport t (scheme_text known)
located ssh v t e agrees h = own_located ssh v t e h
located git v t e agrees h = own_located git v t e h
located file v t e agrees h = own_located file v t e h
located http v t e agrees h = web_located http v t e record { named = refl; other = λ x. different_bytes 104 114 refl x; name = refl } (λ rest. refl) h
located https v t e agrees h = web_located https v t e record { named = refl; other = λ x. different_bytes 104 114 refl x; name = refl } (λ rest. refl) h
located ext v t e agrees h = not_of_class ext v e agrees (λ x. x)
located (helper n) v t e agrees h = not_of_class (helper n) v e agrees (λ x. x)
located (helper_url n) v t e agrees h = not_of_class (helper_url n) v e agrees (λ x. x)

-- the transport of the text of a location of the class is that of its scheme
pub transport_of_location : ReadAlike → TransportOfLocation
transport_of_location alike v t value agrees e = located v.scheme v t refl agrees ((alike v value agrees).read t e)
