-- The locations that texts with one scheme and one authority spell.
use Rattle.std.proofs.Common.{◌≡◌, ℕ, ◌==◌, ◌⊎◌, inl, inr, Bool, true, List, [], ◌∷◌, ◌++◌, take, drop, codes, refl, sym, ap, subst, ◌∙◌, append_assoc}
use Rattle.std.specs.List.{position_or_len}
use Rattle.std.proofs.lemmas.List.{append_cancel_left}
use Rattle.git_syntax.specs.Location.{Scheme, Location, path_alone}
use Rattle.git_syntax.specs.Location.Scheme.{ext}
use Rattle.git_syntax.specs.Bytes.{colon, left_bracket, slash, Lacks, begins_by, begins_with, is_path_start, is_scheme_text, StartsPath}
use Rattle.git_syntax.specs.Schemes.{host_syntax_of, is_web_scheme, scheme_of}
use Rattle.git_syntax.specs.Authority.{Authority, unless_empty}
use Rattle.git_syntax.specs.Flaws.{UrlForm}
use Rattle.git_syntax.specs.Grammar.{HostFor, DenotesAs, DenotesByScheme, Spells, SpellsFile, SpellsUrl, UrlSyntax}
use Rattle.git_syntax.proofs.Parsing.ClassifierLemmas.{spelled_as_file, spelled_as_url, url_has_form, url_pieces}
use Rattle.git_syntax.proofs.Parsing.SchemeLemmas.{means_cases}
use Rattle.git_syntax.proofs.Texts.CutLemmas.{class_cut_unique, cut_at_first, scheme_text_free}
use Rattle.git_syntax.proofs.Unique.UniqueLemmas.{authority_unique, host_for_unique}
use Rattle.git_modules.specs.Resolve.{resolved_text}
use Rattle.git_modules.specs.ResolveLaws.{IsSamePlace, SamePlace}
use Rattle.git_modules.proofs.Resolved.RootLemmas.{IsName}
use Rattle.git_modules.proofs.Resolved.PlaceLemmas.{KeepsAuthority, keeps_authority}

-- ---- authorities

-- a rest that starts before another
starts_append : (test : ℕ → Bool) (rest path : List ℕ) → (rest ≡ []) ⊎ (begins_by test rest ≡ true) → (path ≡ []) ⊎ (begins_by test path ≡ true) → (rest ++ path ≡ []) ⊎ (begins_by test (rest ++ path) ≡ true)
starts_append test [] path h k = k
starts_append test (b ∷ bs) path (inl none) k = cc
starts_append test (b ∷ bs) path (inr begins) k = inr begins

-- texts with one front that is followed by path starts have one authority
same_authority : (test : ℕ → Bool) (a b p q front path suffix : List ℕ) → Lacks test a → Lacks test b → (p ≡ []) ⊎ (begins_by test p ≡ true) → (q ≡ []) ⊎ (begins_by test q ≡ true) → (path ≡ []) ⊎ (begins_by test path ≡ true) → (suffix ≡ []) ⊎ (begins_by test suffix ≡ true) → a ++ p ≡ front ++ path → b ++ q ≡ front ++ suffix → b ≡ a
same_authority test a b p q front path suffix f g h k m n d e =
    let cut = cut_at_first test front in
    let own = take (position_or_len test front) front in
    let rest = drop (position_or_len test front) front in
    let first = class_cut_unique test a own p (rest ++ path) f cut.1 h (starts_append test rest path cut.2 m) (d ∙ ap (λ z. z ++ path) cut.0 ∙ append_assoc own rest path) in
    let second = class_cut_unique test b own q (rest ++ suffix) g cut.1 k (starts_append test rest suffix cut.2 n) (e ∙ ap (λ z. z ++ suffix) cut.0 ∙ append_assoc own rest suffix) in
    second.0 ∙ sym first.0

-- a `/` starts a path
slash_starts : (web : Bool) (path : List ℕ) → begins_with slash path ≡ true → begins_by (is_path_start web) path ≡ true
slash_starts web [] h = cc
slash_starts web (b ∷ bs) h = rw h refl

slash_or_none : (web : Bool) (path : List ℕ) → (path ≡ []) ⊎ (begins_with slash path ≡ true) → (path ≡ []) ⊎ (begins_by (is_path_start web) path ≡ true)
slash_or_none web path (inl none) = inl none
slash_or_none web path (inr begins) = inr (slash_starts web path begins)

-- ---- locations

-- parts with one user, password, host and port denote one place
by_scheme_place : (scheme : Scheme) (p q : UrlSyntax) (v w : Location) → DenotesByScheme scheme p v → DenotesByScheme scheme q w → p.user ≡ q.user → p.password ≡ q.password → p.host ≡ q.host → p.port ≡ q.port → IsSamePlace v w
by_scheme_place scheme p q v w h k user password host port =
    let hosts = host_for_unique scheme p.host h.host k.host h.hosted (subst (λ z. HostFor scheme z k.host) (sym host) k.hosted) in
    record {
      scheme = ap (λ z. z.scheme) k.value ∙ sym (ap (λ z. z.scheme) h.value);
      user = ap (λ z. z.user) k.value ∙ sym user ∙ sym (ap (λ z. z.user) h.value);
      password = ap (λ z. z.password) k.value ∙ sym password ∙ sym (ap (λ z. z.password) h.value);
      host = ap (λ z. z.host) k.value ∙ sym hosts ∙ sym (ap (λ z. z.host) h.value);
      port = ap (λ z. z.port) k.value ∙ sym port ∙ sym (ap (λ z. z.port) h.value);
    }

-- two paths alone are at one place
alone_place : (scheme : Scheme) (flag : Bool) (t s : List ℕ) (v w : Location) → v ≡ path_alone scheme flag t → w ≡ path_alone scheme flag s → IsSamePlace v w
alone_place scheme flag t s v w e f = record {
  scheme = ap (λ z. z.scheme) f ∙ sym (ap (λ z. z.scheme) e);
  user = ap (λ z. z.user) f ∙ sym (ap (λ z. z.user) e);
  password = ap (λ z. z.password) f ∙ sym (ap (λ z. z.password) e);
  host = ap (λ z. z.host) f ∙ sym (ap (λ z. z.host) e);
  port = ap (λ z. z.port) f ∙ sym (ap (λ z. z.port) e);
}

means_place : (scheme : Scheme) (t s : List ℕ) (p q : UrlSyntax) (v w : Location) → DenotesAs scheme t p v → DenotesAs scheme s q w → p.user ≡ q.user → p.password ≡ q.password → p.host ≡ q.host → p.port ≡ q.port → IsSamePlace v w
means_place scheme t s p q v w h k user password host port =
    elim (means_cases scheme t p v h) [
      | inl (is, e) ↦ elim (means_cases scheme s q w k) [
        | inl (same, f) ↦ alone_place ext true t s v w e f
        | inr (other, f) ↦ absurd (other is)
      ]
      | inr (not_ext, e) ↦ elim (means_cases scheme s q w k) [
        | inl (same, f) ↦ absurd (not_ext same)
        | inr (other, f) ↦ by_scheme_place scheme p q v w e f user password host port
      ]
    ]

-- URLs with one scheme and one authority are at one place
url_place : (t s : List ℕ) (v w : Location) (h : SpellsUrl t v) (k : SpellsUrl s w) → k.parts.scheme ≡ h.parts.scheme → k.spelled.authority ≡ h.spelled.authority → IsSamePlace v w
url_place t s v w h k scheme authority =
    let named : Authority (host_syntax_of h.parts.scheme) h.spelled.authority k.parts.user k.parts.password k.parts.host k.parts.port =
    subst (λ a. Authority (host_syntax_of h.parts.scheme) a k.parts.user k.parts.password k.parts.host k.parts.port) authority
    (subst (λ z. Authority (host_syntax_of z) k.spelled.authority k.parts.user k.parts.password k.parts.host k.parts.port) scheme k.spelled.named) in
    let same = authority_unique (host_syntax_of h.parts.scheme) h.spelled.authority h.parts.user k.parts.user h.parts.password k.parts.password h.parts.host k.parts.host h.parts.port k.parts.port h.spelled.named named in
    means_place (scheme_of h.parts.scheme) t s h.parts k.parts v w h.means (subst (λ z. DenotesAs (scheme_of z) s k.parts w) scheme k.means) same.0 same.1 same.2 same.3

-- ---- the law

-- the scheme of a URL is a name
scheme_name : (scheme : List ℕ) → is_scheme_text scheme ≡ true → IsName scheme
scheme_name scheme h = record {
  no_colon = scheme_text_free scheme colon h refl;
  no_slash = scheme_text_free scheme slash h refl;
  no_bracket = scheme_text_free scheme left_bracket h refl;
}

-- a text that keeps the authority of a URL is at its place
kept_url : (t s : List ℕ) (v w : Location) (h : SpellsUrl t v) → KeepsAuthority h.parts.scheme (h.spelled.authority ++ h.parts.path) s → Spells s w → IsSamePlace v w
kept_url t s v w h kept spelled =
    let scheme = h.parts.scheme in
    let form : UrlForm s scheme (kept.authority ++ kept.suffix) = url_has_form s scheme (kept.authority ++ kept.suffix) (scheme_text_free scheme colon h.spelled.scheme_text refl) kept.joined in
    let k = spelled_as_url s scheme (kept.authority ++ kept.suffix) (record { form = form; not_file = h.spelled.not_file }) w spelled in
    let pieces = url_pieces s scheme (kept.authority ++ kept.suffix) w form k in
    let web = is_web_scheme scheme in
    let lacks : Lacks (is_path_start web) k.spelled.authority = subst (λ z. Lacks (is_path_start (is_web_scheme z)) k.spelled.authority) pieces.0 k.spelled.before_path in
    let starts : StartsPath web k.parts.path = subst (λ z. StartsPath (is_web_scheme z) k.parts.path) pieces.0 k.spelled.path_starts in
    url_place t s v w h k pieces.0 (same_authority (is_path_start web) h.spelled.authority k.spelled.authority h.parts.path k.parts.path kept.authority kept.path kept.suffix h.spelled.before_path lacks h.spelled.path_starts starts (slash_or_none web kept.path kept.path_starts) (inr (slash_starts web kept.suffix kept.after_starts)) kept.cut pieces.1)

-- and so of a file URL
kept_file : (t s : List ℕ) (v w : Location) (h : SpellsFile t v) → KeepsAuthority (codes "file") (h.host ++ h.path) s → Spells s w → IsSamePlace v w
kept_file t s v w h kept spelled =
    let k = spelled_as_file s (kept.authority ++ kept.suffix) (url_has_form s (codes "file") (kept.authority ++ kept.suffix) refl kept.joined) w spelled in
    let rest : k.host ++ k.path ≡ kept.authority ++ kept.suffix = append_cancel_left (codes "file://") (k.host ++ k.path) (kept.authority ++ kept.suffix) (sym k.joined ∙ kept.joined) in
    let host = same_authority (λ b. b == slash) h.host k.host h.path k.path kept.authority kept.path kept.suffix h.no_slash k.no_slash (inr h.rooted) (inr k.rooted) kept.path_starts (inr kept.after_starts) kept.cut rest in
    record {
      scheme = ap (λ z. z.scheme) k.value ∙ sym (ap (λ z. z.scheme) h.value);
      user = ap (λ z. z.user) k.value ∙ sym (ap (λ z. z.user) h.value);
      password = ap (λ z. z.password) k.value ∙ sym (ap (λ z. z.password) h.value);
      host = ap (λ z. z.host) k.value ∙ ap (λ z. unless_empty z) host ∙ sym (ap (λ z. z.host) h.value);
      port = ap (λ z. z.port) k.value ∙ sym (ap (λ z. z.port) h.value);
    }

-- a relative URL that doesn't climb stays at the place of a URL
pub same_place : SamePlace
same_place parent url r v w (inl h) relative stays e spelled =
    kept_url parent (resolved_text r) v w h (keeps_authority h.parts.scheme (h.spelled.authority ++ h.parts.path) parent url r (scheme_name h.parts.scheme h.spelled.scheme_text) h.spelled.joined relative stays e) spelled
same_place parent url r v w (inr h) relative stays e spelled =
    kept_file parent (resolved_text r) v w h (keeps_authority (codes "file") (h.host ++ h.path) parent url r (record { no_colon = refl; no_slash = refl; no_bracket = refl }) h.joined relative stays e) spelled
