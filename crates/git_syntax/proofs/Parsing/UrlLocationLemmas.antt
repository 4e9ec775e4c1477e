-- The location of a URL: its parts are text, its host without marks, its path, and that it has no other.
use Rattle.std.proofs.Common.{◌≡◌, ℕ, ◌<◌, true, inl, inr, List, [], ◌∷◌, ◌++◌, length, Option, Some, None, refl, sym, ap, subst, ◌∙◌, arith, codes, append_assoc, lit<, ◌==◌, eq-eqb}
use Rattle.std.proofs.lemmas.Bool.Decides.{nat_tests}
use Rattle.std.specs.Prelude.{IfSome, IsUtf8, MatchOption}
use Rattle.std.specs.Borrow.{Bor}
use Rattle.std.proofs.lemmas.Bool.{both_ways}
use Rattle.std.proofs.lemmas.List.{nil_from_length, append-nil, same_from_push}
use Rattle.percent_encoding.specs.Percent.{percent_decode}
use Rattle.percent_encoding.proofs.PercentLemmas.{percent_decode-nil}
use Rattle.git_syntax.specs.declared.refusal.UrlKind.TheVariants as kind
use Rattle.git_syntax.specs.Location.{Scheme, Location}
use Rattle.git_syntax.specs.Location.Scheme.{ext}
use Rattle.git_syntax.specs.Bytes.{colon, slash, left_bracket, right_bracket, Lacks, is_path_start, StartsPath}
use Rattle.git_syntax.specs.Internal.Cuts.{StripsLast}
use Rattle.git_syntax.specs.Schemes.{is_web_scheme, scheme_of, host_syntax_of, requires_path}
use Rattle.git_syntax.specs.Hosts.{HostSyntax, SpellsHostPort}
use Rattle.git_syntax.specs.Authority.{Credentials, Authority}
use Rattle.git_syntax.specs.Authority.Authority.{host_alone, with_user}
use Rattle.git_syntax.specs.Grammar.{UrlSyntax, HasUrlSyntax, SpellsUrl, DenotesAs, DenotesByScheme, IsSshHost, or_root}
use Rattle.git_syntax.specs.Flaws.{MissesPath}
use Rattle.git_syntax.specs.Internal.UrlPieces.{AreTexts, InBrackets, DropsLast}
use Rattle.git_syntax.proofs.Texts.CutLemmas.{tails, mark_cut_unique, path_cut_unique, free_of_lacked}
use Rattle.git_syntax.proofs.Texts.EscapeLemmas.{decode_byte, decode_empty, utf8_parts}
use Rattle.git_syntax.proofs.Parsing.HostLemmas.{names_utf8}
use Rattle.git_syntax.proofs.Parsing.UrlLemmas.{scheme_no_mark}

-- ---- paths

-- `/` denotes an empty path
pub root_denoted : (path : List ℕ) → length path ≡ 0 → percent_decode (slash ∷ []) ≡ or_root (percent_decode path)
root_denoted path empty = grind (arith, nat_tests, decode_byte, nil_from_length, percent_decode-nil)

-- any other path denotes itself
pub path_denoted : (path : List ℕ) → 0 < length path → percent_decode path ≡ or_root (percent_decode path)
path_denoted path some = grind (arith, nat_tests, decode_empty)

-- ---- hosts

-- text after an opening bracket, without a last colon and then without a last bracket, is in brackets
pub inside_brackets : (host suffix closed : List ℕ) (found : Option (Bor (List ℕ))) → host ≡ left_bracket ∷ suffix → DropsLast colon suffix closed → StripsLast right_bracket closed found → MatchOption found ((inside : List ℕ) → ¬ InBrackets host inside) (λ inside. InBrackets host inside.now)
inside_brackets host suffix closed None e (DropsLast.dropped d) none =
    λ inside brackets. elim brackets [
      | inl k ↦ both_ways (58 == 93) refl (eq-eqb 58 93 (same_from_push closed inside colon right_bracket (sym d ∙ tails (sym e ∙ k))).1)
      | inr k ↦ none inside (same_from_push closed (inside ++ right_bracket ∷ []) colon colon (sym d ∙ tails (sym e ∙ k) ∙ sym (append_assoc inside (right_bracket ∷ []) (colon ∷ [])))).0
    ]
inside_brackets host suffix closed (Some front) e (DropsLast.dropped d) strip =
    inr (e ∙ ap (λ x. left_bracket ∷ x) (d ∙ ap (λ x. x ++ colon ∷ []) strip ∙ append_assoc front.now (right_bracket ∷ []) (colon ∷ [])))
inside_brackets host suffix closed None e (DropsLast.kept ends same) none =
    λ inside brackets. elim brackets [
      | inl k ↦ none inside (same ∙ tails (sym e ∙ k))
      | inr k ↦ ends (inside ++ right_bracket ∷ []) (tails (sym e ∙ k) ∙ sym (append_assoc inside (right_bracket ∷ []) (colon ∷ [])))
    ]
inside_brackets host suffix closed (Some front) e (DropsLast.kept ends same) strip =
    inl (e ∙ ap (λ x. left_bracket ∷ x) (sym same ∙ strip))

-- the host that Secure Shell takes from a text is text
pub ssh_host_utf8 : {host ssh_host : List ℕ} → IsSshHost host ssh_host → IsUtf8 host → IsUtf8 ssh_host
ssh_host_utf8 {host} {ssh_host} (IsSshHost.brackets e) h =
    (utf8_parts ssh_host [] right_bracket (utf8_parts [] (ssh_host ++ right_bracket ∷ []) left_bracket (subst IsUtf8 e h) (lit< tt)).1 (lit< tt)).0
ssh_host_utf8 {host} {ssh_host} (IsSshHost.brackets_colon e) h =
    (utf8_parts ssh_host (colon ∷ []) right_bracket (utf8_parts [] (ssh_host ++ right_bracket ∷ (colon ∷ [])) left_bracket (subst IsUtf8 e h) (lit< tt)).1 (lit< tt)).0
ssh_host_utf8 {host} {ssh_host} (IsSshHost.last_colon f b e) h = (utf8_parts ssh_host [] colon (subst IsUtf8 e h) (lit< tt)).0
ssh_host_utf8 {host} {ssh_host} (IsSshHost.same a b c e) h = subst IsUtf8 (sym e) h

-- ---- texts

-- a password is text
password_text : (text : List ℕ) (user password : Option (List ℕ)) → Credentials text user password → IfSome password IsUtf8
password_text text user password h = grind arith

-- a user is text
user_text : (text : List ℕ) (user password : Option (List ℕ)) → Credentials text user password → IfSome user IsUtf8
user_text text user password h = grind arith

-- a host is text
host_text : (syntax : HostSyntax) (piece : List ℕ) (host : Option (List ℕ)) (port : Option ℕ) → SpellsHostPort syntax piece host port → IfSome host IsUtf8
host_text syntax piece None port h = tt
host_text syntax piece (Some host) port h = names_utf8 syntax piece host port h

-- the parts of an authority are text
authority_texts : (syntax : HostSyntax) (text : List ℕ) (user password host : Option (List ℕ)) (port : Option ℕ) → Authority syntax text user password host port → IfSome user IsUtf8 × IfSome password IsUtf8 × IfSome host IsUtf8
authority_texts syntax text user password host port (host_alone f h u p) =
    (subst (λ o. IfSome o IsUtf8) (sym u) tt, subst (λ o. IfSome o IsUtf8) (sym p) tt, host_text syntax text host port h)
authority_texts syntax text user password host port (with_user i piece f e c h s) =
    (user_text i user password c, password_text i user password c, host_text syntax piece host port h)

-- the parts of a URL are text
pub texts : {b : List ℕ} {parts : UrlSyntax} → HasUrlSyntax b parts → AreTexts parts
texts {b} {parts} h =
    let held = authority_texts (host_syntax_of parts.scheme) h.authority parts.user parts.password parts.host parts.port h.named in
    record { user = held.0; password = held.1; host = held.2 }

-- its scheme is text
pub scheme_utf8 : {b : List ℕ} {parts : UrlSyntax} → HasUrlSyntax b parts → IsUtf8 parts.scheme
scheme_utf8 {b} {parts} h =
    (utf8_parts parts.scheme (47 ∷ 47 ∷ (h.authority ++ parts.path)) colon (subst IsUtf8 h.joined h.text) (lit< tt)).0

-- ---- meanings

-- two readings of a text have one scheme, one authority and one path
pub pieces_unique : {b : List ℕ} {p q : UrlSyntax} → (h : HasUrlSyntax b p) → (k : HasUrlSyntax b q) → (p.scheme ≡ q.scheme) × (h.authority ≡ k.authority) × (p.path ≡ q.path)
pieces_unique {b} {p} {q} h k =
    let pieces = mark_cut_unique p.scheme q.scheme (h.authority ++ p.path) (k.authority ++ q.path) (scheme_no_mark p.scheme h.scheme_text) (scheme_no_mark q.scheme k.scheme_text) (sym h.joined ∙ k.joined) in
    let before = subst (λ s. Lacks (is_path_start (is_web_scheme s)) h.authority) pieces.0 h.before_path in
    let starts = subst (λ s. StartsPath (is_web_scheme s) p.path) pieces.0 h.path_starts in
    let rest = path_cut_unique (is_web_scheme q.scheme) h.authority k.authority p.path q.path before k.before_path starts k.path_starts pieces.1 in
    (pieces.0, rest.0, rest.1)

-- a location whose scheme needs a path has one in its URL
means_pathed : (p : Scheme) (b : List ℕ) (parts : UrlSyntax) (v : Location) → requires_path p ≡ true → DenotesAs p b parts v → 0 < length parts.path
means_pathed p b parts v need h = grind arith

-- a URL without a path denotes no location if its scheme needs one
pub no_path_refutes : {b : List ℕ} {parts : UrlSyntax} → HasUrlSyntax b parts → requires_path (scheme_of parts.scheme) ≡ true → parts.path ≡ [] → (v : Location) → ¬ SpellsUrl b v
no_path_refutes {b} {parts} h need empty v other =
    let same = pieces_unique h other.spelled in
    let needed = subst (λ s. requires_path (scheme_of s) ≡ true) same.0 need in
    let some = means_pathed (scheme_of other.parts.scheme) b other.parts v needed other.means in
    absurd (omega (arith, ap length (sym same.2 ∙ empty)))

-- and misses it
pub path_missed : {b : List ℕ} {parts : UrlSyntax} → HasUrlSyntax b parts → requires_path (scheme_of parts.scheme) ≡ true → parts.path ≡ [] → MissesPath b kind.Url
path_missed {b} {parts} h need empty =
    MissesPath.in_url parts.scheme h.authority need (free_of_lacked (is_path_start (is_web_scheme parts.scheme)) slash h.authority h.before_path refl) (h.joined ∙ ap (λ p. parts.scheme ++ (codes "://" ++ (h.authority ++ p))) empty ∙ ap (λ a. parts.scheme ++ (codes "://" ++ a)) (append-nil h.authority))

-- a URL that was read denotes the location of its parts, by its scheme
pub spelled_url : {b : List ℕ} {parts : UrlSyntax} {p : Scheme} {v : Location} → HasUrlSyntax b parts → p ≡ scheme_of parts.scheme → ¬ (p ≡ ext) → DenotesByScheme p parts v → SpellsUrl b v
spelled_url h e other means = grind arith
