-- The transport of a text: each text has one, or one reason why it has none, and it is that of the place that
-- Git reads.
use Rattle.std.proofs.Common.{◌≡◌, ◌∙◌, ℕ, true, false, inl, inr, List, [], ◌∷◌, ◌++◌, codes, refl, sym, ap}
use Rattle.std.proofs.lemmas.Bool.{both_ways, false_from_ne_true, false≢true}
use Rattle.git_syntax.specs.Bytes.{slash, colon, FreeOf, Holds, begins_with, is_helper_name, is_option_like}
use Rattle.git_syntax.specs.Internal.Cuts.{url_mark}
use Rattle.git_syntax.specs.Grammar.{HelperCut, HasHelperForm}
use Rattle.git_reads.specs.Git.{IsNoUrl, IsRemote}
use Rattle.git_reads.specs.Transports.{BeginsBy, NamesHelper}
use Rattle.git_syntax.proofs.Texts.CutLemmas.{begins_cut, cut_unique, held_free, helper_name_free, mark_cut_unique}
use Rattle.git_syntax.proofs.Parsing.FormLemmas.{mark_no_helper}
use Rattle.git_reads.proofs.Reading.TransportLemmas.{local_decided}
use Rattle.git_reads.proofs.Reading.UniqueLemmas.{remote_not_local}
use Rattle.git_reads.specs.Unread.{IsGiven}
use Rattle.git_rules.specs.declared.protocols.text.NoTransport.TheVariants as why
use Rattle.git_rules.specs.TextTransports.{scheme_transport, UsesTransport, IsForRsync, HasUnknownScheme, OneTransport, HasOrLacks}

-- ---- one transport

-- a helper's name has no colon
name_free : (name : List ℕ) → is_helper_name name ≡ true → FreeOf colon name
name_free name h = helper_name_free name colon h refl

-- a text that begins with two colons has no name before them
empty_no_helper : {A : Type 0} (t name address rest : List ℕ) → t ≡ codes "::" ++ rest → HelperCut t name address → A
empty_no_helper t name address rest e h =
    let none = (cut_unique colon name [] (colon ∷ address) (colon ∷ rest) (name_free name h.named) refl (sym h.joined ∙ e)).0 in
    absurd (false≢true (sym (ap is_helper_name none) ∙ h.named))

-- a URL with a scheme has no helper's form
url_no_helper : (t scheme rest : List ℕ) → t ≡ scheme ++ (url_mark ++ rest) → is_helper_name scheme ≡ true → ¬ HasHelperForm t
url_no_helper t scheme rest e named = mark_no_helper t scheme rest (name_free scheme named) e

-- a URL with a scheme doesn't begin with two colons
url_not_empty : {A : Type 0} (t scheme rest address : List ℕ) → t ≡ scheme ++ (url_mark ++ rest) → is_helper_name scheme ≡ true → t ≡ codes "::" ++ address → A
url_not_empty t scheme rest address e named is =
    let none = (cut_unique colon scheme [] (slash ∷ slash ∷ rest) (colon ∷ address) (name_free scheme named) refl (sym e ∙ is)).0 in
    absurd (false≢true (sym (ap is_helper_name none) ∙ named))

-- two schemes of one URL are one
one_scheme : (t scheme rest other more : List ℕ) → t ≡ scheme ++ (url_mark ++ rest) → is_helper_name scheme ≡ true → t ≡ other ++ (url_mark ++ more) → is_helper_name other ≡ true → scheme ≡ other
one_scheme t scheme rest other more e named is same =
    (cut_unique colon scheme other (slash ∷ slash ∷ rest) (slash ∷ slash ∷ more) (name_free scheme named) (name_free other same) (sym e ∙ is)).0

-- two names of one text are one
one_use : (t a b : List ℕ) → UsesTransport t a → UsesTransport t b → a ≡ b
one_use t a b (UsesTransport.helper x h) (UsesTransport.helper y k) = (cut_unique colon a b (colon ∷ x) (colon ∷ y) (name_free a h.named) (name_free b k.named) (sym h.joined ∙ k.joined)).0
one_use t a b (UsesTransport.helper x h) (UsesTransport.empty_helper y e is) = empty_no_helper t a x y e h
one_use t a b (UsesTransport.helper x h) (UsesTransport.url s y e named other is) = absurd (url_no_helper t s y e named (a, x, h))
one_use t a b (UsesTransport.helper x h) (UsesTransport.scp_form n m is) = absurd (n.no_helper (a, x, h))
one_use t a b (UsesTransport.helper x h) (UsesTransport.local_path n l is) = absurd (n.no_helper (a, x, h))
one_use t a b (UsesTransport.empty_helper x e is) (UsesTransport.helper y k) = empty_no_helper t b y x e k
one_use t a b (UsesTransport.empty_helper x e is) (UsesTransport.empty_helper y e' is') = is ∙ sym is'
one_use t a b (UsesTransport.empty_helper x e is) (UsesTransport.url s y e' named other is') = url_not_empty t s y x e' named e
one_use t a b (UsesTransport.empty_helper x e is) (UsesTransport.scp_form n m is') = absurd (n.no_empty_helper x e)
one_use t a b (UsesTransport.empty_helper x e is) (UsesTransport.local_path n l is') = absurd (n.no_empty_helper x e)
one_use t a b (UsesTransport.url s x e named other is) (UsesTransport.helper y k) = absurd (url_no_helper t s x e named (b, y, k))
one_use t a b (UsesTransport.url s x e named other is) (UsesTransport.empty_helper y e' is') = url_not_empty t s x y e named e'
one_use t a b (UsesTransport.url s x e named other is) (UsesTransport.url s' y e' named' other' is') = is ∙ ap scheme_transport (one_scheme t s x s' y e named e' named') ∙ sym is'
one_use t a b (UsesTransport.url s x e named other is) (UsesTransport.scp_form n m is') = absurd (n.no_mark (s, x, e))
one_use t a b (UsesTransport.url s x e named other is) (UsesTransport.local_path n l is') = absurd (n.no_mark (s, x, e))
one_use t a b (UsesTransport.scp_form n m is) (UsesTransport.helper y k) = absurd (n.no_helper (b, y, k))
one_use t a b (UsesTransport.scp_form n m is) (UsesTransport.empty_helper y e' is') = absurd (n.no_empty_helper y e')
one_use t a b (UsesTransport.scp_form n m is) (UsesTransport.url s y e' named other is') = absurd (n.no_mark (s, y, e'))
one_use t a b (UsesTransport.scp_form n m is) (UsesTransport.scp_form n' m' is') = is ∙ sym is'
one_use t a b (UsesTransport.scp_form n m is) (UsesTransport.local_path n' l is') = remote_not_local t m l
one_use t a b (UsesTransport.local_path n l is) (UsesTransport.helper y k) = absurd (n.no_helper (b, y, k))
one_use t a b (UsesTransport.local_path n l is) (UsesTransport.empty_helper y e' is') = absurd (n.no_empty_helper y e')
one_use t a b (UsesTransport.local_path n l is) (UsesTransport.url s y e' named other is') = absurd (n.no_mark (s, y, e'))
one_use t a b (UsesTransport.local_path n l is) (UsesTransport.scp_form n' m is') = remote_not_local t m l
one_use t a b (UsesTransport.local_path n l is) (UsesTransport.local_path n' l' is') = is ∙ sym is'

-- Git uses one transport for a text
pub one_transport : OneTransport
one_transport t name other h k = one_use t name other h.uses k.uses

-- ---- the facts that exclude a reason

-- a text has a byte 0 or none
given_whole : {A : Type 0} (t : List ℕ) → ¬ FreeOf 0 t → FreeOf 0 t → A
given_whole t h k = absurd (h k)

-- a text is an option or none
given_plain : {A : Type 0} (t : List ℕ) → is_option_like t ≡ true → IsGiven t → A
given_plain t h k = absurd (both_ways (is_option_like t) k.no_option h)

-- ---- a transport or a reason

-- a text for `rsync` has no transport
rsync_unused : (t name : List ℕ) → IsForRsync t → ¬ UsesTransport t name
rsync_unused t name h (UsesTransport.helper x k) =
    let tail = (cut_unique colon name (codes "rsync") (colon ∷ x) h.rest (name_free name k.named) refl (sym k.joined ∙ h.joined)).1 in
    false≢true (sym h.single ∙ ap (begins_with colon) (sym tail))
rsync_unused t name h (UsesTransport.empty_helper x e is) =
    let tail = (cut_unique colon [] (codes "rsync") (colon ∷ x) h.rest refl refl (sym e ∙ h.joined)).1 in
    false≢true (sym h.single ∙ ap (begins_with colon) (sym tail))
rsync_unused t name h (UsesTransport.url s x e named other is) = other (cut_unique colon s (codes "rsync") (slash ∷ slash ∷ x) h.rest (name_free s named) refl (sym e ∙ h.joined)).0
rsync_unused t name h (UsesTransport.scp_form n m is) = n.no_rsync h.rest h.joined
rsync_unused t name h (UsesTransport.local_path n l is) = n.no_rsync h.rest h.joined

-- a text whose scheme is unknown has no transport
unknown_unused : (t name : List ℕ) → HasUnknownScheme t → ¬ UsesTransport t name
unknown_unused t name h (UsesTransport.helper x k) = h.no_helper (name, x, k)
unknown_unused t name h (UsesTransport.empty_helper x e is) = h.no_empty_helper x e
unknown_unused t name h (UsesTransport.url s x e named other is) =
    let same = (mark_cut_unique s h.scheme x h.rest (held_free s (name_free s named)) h.first (sym e ∙ h.joined)).0 in
    false≢true (sym h.unnamed ∙ ap is_helper_name (sym same) ∙ named)
unknown_unused t name h (UsesTransport.scp_form n m is) = n.no_mark (h.scheme, h.rest, h.joined)
unknown_unused t name h (UsesTransport.local_path n l is) = n.no_mark (h.scheme, h.rest, h.joined)

-- a text with a transport lacks none
pub has_or_lacks : HasOrLacks
has_or_lacks t name why.ByteZero h k = given_whole t k h.input.whole
has_or_lacks t name why.OptionLike h k = given_plain t k.1 h.input
has_or_lacks t name why.Rsync h k = rsync_unused t name k.1 h.uses
has_or_lacks t name why.UnknownScheme h k = unknown_unused t name k.1 h.uses

-- ---- the facts that decide

-- a text with two colons after a front names a helper, if the front is a name or empty
front_name : (t name address : List ℕ) → FreeOf colon name → t ≡ name ++ colon ∷ address → NamesHelper t → is_helper_name name ≡ false → name ≡ []
front_name t name address free e (inl (n, a, k)) other =
    let same = (cut_unique colon n name (colon ∷ a) address (name_free n k.named) free (sym k.joined ∙ e)).0 in
    absurd (false≢true (sym other ∙ ap is_helper_name (sym same) ∙ k.named))
front_name t name address free e (inr (rest, is)) other = (cut_unique colon name [] address (colon ∷ rest) free refl (sym e ∙ is)).0

-- such a text names none if the front is neither
pub names_none : (t name address : List ℕ) → FreeOf colon name → t ≡ name ++ colon ∷ address → ¬ (name ≡ []) → is_helper_name name ≡ false → ¬ NamesHelper t
names_none t name address free e some other h = some (front_name t name address free e h other)

-- a text with two colons after a name uses the helper of that name
pub uses_helper : (t name address : List ℕ) → t ≡ name ++ colon ∷ address → begins_with colon address ≡ true → is_helper_name name ≡ true → UsesTransport t name
uses_helper t name address e double named =
    let (rest, is) = begins_cut colon address double in
    UsesTransport.helper rest record { named = named; joined = e ∙ ap (λ s. name ++ colon ∷ s) is }

-- a text with two colons at its front uses the helper without a name
pub uses_empty : (t address : List ℕ) → t ≡ colon ∷ address → begins_with colon address ≡ true → UsesTransport t []
uses_empty t address e double =
    let (rest, is) = begins_cut colon address double in
    UsesTransport.empty_helper rest (e ∙ ap (λ s. colon ∷ s) is) refl

-- a text that begins with `rsync:` and names no helper is for `rsync`
pub for_rsync : (t : List ℕ) → ¬ NamesHelper t → BeginsBy (codes "rsync:") t → IsForRsync t
for_rsync t unnamed (rest, e) = record {
  rest = rest;
  joined = e;
  single = false_from_ne_true (begins_with colon rest) (λ h.
      let (more, is) = begins_cut colon rest h in
      unnamed (inl (codes "rsync", more, record { named = refl; joined = e ∙ ap (λ s. codes "rsync:" ++ s) is })));
}

-- a URL that isn't for `rsync` uses the transport of its scheme
pub uses_url : (t scheme rest : List ℕ) → ¬ BeginsBy (codes "rsync:") t → t ≡ scheme ++ (url_mark ++ rest) → is_helper_name scheme ≡ true → UsesTransport t (scheme_transport scheme)
uses_url t scheme rest other e named = UsesTransport.url scheme rest e named (λ is. other (slash ∷ slash ∷ rest, e ∙ ap (λ s. s ++ (url_mark ++ rest)) is)) refl

-- a text whose scheme is not a name has an unknown one
pub unknown : (t scheme rest : List ℕ) → ¬ NamesHelper t → ¬ BeginsBy (codes "rsync:") t → ¬ Holds url_mark scheme → t ≡ scheme ++ (url_mark ++ rest) → is_helper_name scheme ≡ false → HasUnknownScheme t
unknown t scheme rest unnamed other none e is = record {
  scheme = scheme;
  rest = rest;
  joined = e;
  first = none;
  unnamed = is;
  no_helper = λ h. unnamed (inl h);
  no_empty_helper = λ address h. unnamed (inr (address, h));
  no_rsync = λ address h. other (address, h);
}

-- a text that isn't a URL and isn't remote is a local path
pub uses_local : (t : List ℕ) → IsNoUrl t → ¬ IsRemote t → UsesTransport t (codes "file")
uses_local t n other = UsesTransport.local_path n (local_decided t other) refl
