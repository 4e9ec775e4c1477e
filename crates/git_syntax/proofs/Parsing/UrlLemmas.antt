-- URLs: the pieces that their text determines, and the flaws that leave no reading.
use Rattle.std.proofs.Common.{◌≡◌, ℕ, ◌<◌, ◌⊎◌, Bool, true, false, List, [], ◌∷◌, ◌++◌, length, Option, Some, None, Result, inl, inr, refl, sym, ap, subst, ◌∙◌, arith}
use Rattle.std.proofs.lemmas.Bool.Decides.{nat_tests}
use Rattle.std.specs.Prelude.{IfOk, IsSome, is_some, IsUtf8}
use Rattle.std.proofs.lemmas.Bool.{both_ways}
use Rattle.std.proofs.lemmas.List.{nil_from_length}
use Rattle.percent_encoding.specs.Percent.{percent_decode}
use Rattle.git_syntax.specs.declared.refusal.UrlFault.TheVariants as fault
use Rattle.git_syntax.specs.Bytes.{colon, at_sign, backslash, Lacks, FreeOf, Holds, LacksWhiteSpace, is_scheme_text, is_path_start, StartsPath}
use Rattle.git_syntax.specs.Internal.Cuts.{url_mark}
use Rattle.git_syntax.specs.Escapes.{is_sound}
use Rattle.git_syntax.specs.Hosts.{HostSyntax, SpellsHostPort}
use Rattle.git_syntax.specs.Schemes.{is_web_scheme, host_syntax_of, requires_host}
use Rattle.git_syntax.specs.Authority.{unless_empty, Credentials, Authority, Fits}
use Rattle.git_syntax.specs.Authority.Authority.{host_alone, with_user}
use Rattle.git_syntax.specs.Grammar.{UrlSyntax, HasUrlSyntax}
use Rattle.git_syntax.specs.Flaws.{AuthorityFlaw, HasBadUser, OtherUrlForm, UrlCut}
use Rattle.git_syntax.specs.declared.host.HostPort.{HostPort}
use Rattle.git_syntax.specs.Internal.HostPieces.{IsSimpleHost, host_of, is_simple_byte, named_text}
use Rattle.git_syntax.specs.Internal.UrlPieces.{CutsRest, HasNoText, HoldsHosted, IsNoAuthority}
use Rattle.git_syntax.proofs.Texts.CutLemmas.{free_of_all, not_free, cut_unique, last_cut_unique, path_cut_unique, mark_cut_unique, held_free, scheme_text_free}
use Rattle.git_syntax.proofs.Parsing.HostLemmas.{names_unique, simple_host_named}
use Rattle.git_syntax.proofs.Texts.EscapeLemmas.{decode_empty}
use Rattle.percent_encoding.proofs.PercentLemmas.{percent_decode-nil}

-- ---- user information

-- user information without a colon is a user, which decodes to text
pub credentials_alone : (text : List ℕ) (user password : Option (List ℕ)) → FreeOf colon text → Credentials text user password → IsUtf8 (percent_decode text)
credentials_alone text user password free h = grind (arith, nat_tests, not_free)

-- user information with a part that decodes to no text holds nothing
pub no_text_refutes : (text : List ℕ) (user password : Option (List ℕ)) → HasNoText text → ¬ Credentials text user password
no_text_refutes text user password k h = grind (arith, nat_tests, credentials_alone, cut_unique, not_free)

-- a text that is not empty is itself, unless it is empty
pub some_kept : (text : List ℕ) → ¬ (text ≡ []) → unless_empty text ≡ Some text
some_kept text some = grind arith

-- an empty text denotes none
pub nothing_denoted : (text : List ℕ) → length text ≡ 0 → None ≡ unless_empty (percent_decode text)
nothing_denoted text e = sym (ap unless_empty (ap percent_decode (nil_from_length text e) ∙ percent_decode-nil))

-- any other text denotes its decoding
pub something_denoted : (text : List ℕ) → 0 < length text → Some (percent_decode text) ≡ unless_empty (percent_decode text)
something_denoted text some = sym (some_kept (percent_decode text) (λ e. absurd (omega (arith, ap length (decode_empty text e)))))

-- ---- names

-- if no host is named, there is no text
pub nothing_named : (syntax : HostSyntax) (piece : List ℕ) (host : Option (List ℕ)) (port : Option ℕ) → SpellsHostPort syntax piece host port → host ≡ None → piece ≡ []
nothing_named syntax piece host port h none = grind arith

-- an empty text names no host
pub empty_names_nothing : (syntax : HostSyntax) (piece : List ℕ) (host : Option (List ℕ)) (port : Option ℕ) → piece ≡ [] → SpellsHostPort syntax piece host port → host ≡ None
empty_names_nothing syntax piece host port e h = (names_unique syntax piece host None port None h (SpellsHostPort.nothing e refl refl)).0

-- nothing is not something
pub none_not_some : {A B : Type 0} (host : Option A) → host ≡ None → IsSome host → B
none_not_some host e h = grind arith

-- a host that was read is one that is named
pub some_host : (host : Option HostPort) → is_some host ≡ true → IsSome (host_of host)
some_host host e = grind arith

-- and if none was read, none is named
pub none_host : (host : Option HostPort) → is_some host ≡ false → host_of host ≡ None
none_host host e = grind arith

-- ---- authorities

-- an authority without user information is a host and a port
pub authority_alone : (syntax : HostSyntax) (text : List ℕ) (user password host : Option (List ℕ)) (port : Option ℕ) → FreeOf at_sign text → Authority syntax text user password host port → SpellsHostPort syntax text host port
authority_alone syntax text user password host port free (host_alone f h u p) = h
authority_alone syntax text user password host port free (with_user information piece f e i h s) =
    absurd (not_free at_sign information piece (subst (λ x. FreeOf at_sign x) e free))

-- the text around the last `@` of an authority is user information, and a host and a port
pub authority_cut : (syntax : HostSyntax) (text information piece : List ℕ) (user password host : Option (List ℕ)) (port : Option ℕ) → FreeOf at_sign piece → text ≡ information ++ at_sign ∷ piece → Authority syntax text user password host port → Credentials information user password × SpellsHostPort syntax piece host port × IsSome host
authority_cut syntax text information piece user password host port free joined (host_alone f h u p) =
    absurd (not_free at_sign information piece (subst (λ x. FreeOf at_sign x) joined f))
authority_cut syntax text information piece user password host port free joined (with_user i p f e c h s) =
    let pieces = last_cut_unique at_sign i information p piece f free (sym e ∙ joined) in
    (subst (λ x. Credentials x user password) pieces.0 c, subst (λ x. SpellsHostPort syntax x host port) pieces.1 h, s)

-- there is no authority if its piece without user information names nothing
pub no_name_alone : (syntax : HostSyntax) (needed : Bool) (text : List ℕ) → FreeOf at_sign text → ((host : Option (List ℕ)) (port : Option ℕ) → ¬ SpellsHostPort syntax text host port) → IsNoAuthority syntax needed text
no_name_alone syntax needed text free none user password host port h =
    none host port (authority_alone syntax text user password host port free h.named)

-- there is no authority if the piece after the user information names nothing
pub no_name_after : (syntax : HostSyntax) (needed : Bool) (text information piece : List ℕ) → FreeOf at_sign piece → text ≡ information ++ at_sign ∷ piece → ((host : Option (List ℕ)) (port : Option ℕ) → ¬ SpellsHostPort syntax piece host port) → IsNoAuthority syntax needed text
no_name_after syntax needed text information piece free joined none user password host port h =
    none host port (authority_cut syntax text information piece user password host port free joined h.named).1

-- there is no authority if the user information isn't text
pub no_text_before : (syntax : HostSyntax) (needed : Bool) (text information piece : List ℕ) → FreeOf at_sign piece → text ≡ information ++ at_sign ∷ piece → HasNoText information → IsNoAuthority syntax needed text
no_text_before syntax needed text information piece free joined bad user password host port h =
    no_text_refutes information user password bad (authority_cut syntax text information piece user password host port free joined h.named).0

-- there is no authority if nothing follows the user information
pub no_host_after : (syntax : HostSyntax) (needed : Bool) (text information piece : List ℕ) → FreeOf at_sign piece → text ≡ information ++ at_sign ∷ piece → piece ≡ [] → IsNoAuthority syntax needed text
no_host_after syntax needed text information piece free joined empty user password host port h =
    let pieces = authority_cut syntax text information piece user password host port free joined h.named in
    none_not_some host (empty_names_nothing syntax piece host port empty pieces.1) pieces.2

-- there is no authority if a host is needed and there is nothing
pub no_host_alone : (syntax : HostSyntax) (needed : Bool) (text : List ℕ) → needed ≡ true → FreeOf at_sign text → text ≡ [] → IsNoAuthority syntax needed text
no_host_alone syntax needed text need free empty user password host port h =
    none_not_some host (empty_names_nothing syntax text host port empty (authority_alone syntax text user password host port free h.named)) (h.hosted need)

-- user information that isn't text is a flaw of its authority
pub bad_user_flaw : (syntax : HostSyntax) (needed : Bool) (text information piece : List ℕ) → FreeOf at_sign piece → text ≡ information ++ at_sign ∷ piece → HasNoText information → AuthorityFlaw syntax needed text fault.BadCharacter
bad_user_flaw syntax needed text information piece free joined (HasNoText.user f bad) =
    AuthorityFlaw.bad_user (HasBadUser.user information piece free f joined bad)
bad_user_flaw syntax needed text information piece free joined (HasNoText.user_before_password u w f e bad) =
    AuthorityFlaw.bad_user (HasBadUser.user_before_password u w piece free f (joined ∙ ap (λ x. x ++ at_sign ∷ piece) e) bad)
bad_user_flaw syntax needed text information piece free joined (HasNoText.password u w f e bad) =
    AuthorityFlaw.bad_user (HasBadUser.password u w piece free f (joined ∙ ap (λ x. x ++ at_sign ∷ piece) e) bad)

-- ---- URLs

-- a scheme holds no `://`
pub scheme_no_mark : (s : List ℕ) → is_scheme_text s ≡ true → ¬ Holds url_mark s
scheme_no_mark s h = held_free s (scheme_text_free s colon h refl)

-- the scheme of a URL is the text before its first `://`
pub scheme_cut : (b front rest : List ℕ) (parts : UrlSyntax) → OtherUrlForm b front rest → (h : HasUrlSyntax b parts) → (parts.scheme ≡ front) × (h.authority ++ parts.path ≡ rest)
scheme_cut b front rest parts form h = grind (arith, nat_tests, scheme_no_mark, mark_cut_unique)

-- the scheme, the authority and the path of a URL are those of its cut
pub parts_cut : (b scheme authority path : List ℕ) (parts : UrlSyntax) → UrlCut b scheme authority path → (h : HasUrlSyntax b parts) → (parts.scheme ≡ scheme) × (h.authority ≡ authority) × (parts.path ≡ path)
parts_cut b scheme authority path parts cut h =
    let pieces = scheme_cut b scheme (authority ++ path) parts cut.form h in
    let before = subst (λ s. Lacks (is_path_start (is_web_scheme s)) h.authority) pieces.0 h.before_path in
    let starts = subst (λ s. StartsPath (is_web_scheme s) parts.path) pieces.0 h.path_starts in
    let rest = path_cut_unique (is_web_scheme scheme) h.authority authority parts.path path before cut.before_path starts cut.path_starts pieces.1 in
    (pieces.0, rest.0, rest.1)

-- the text after the `://` of a URL is cut before its path by the bytes that start one for its scheme
pub rest_cut : {scheme rest authority path : List ℕ} {web : Bool} → web ≡ is_web_scheme scheme → rest ≡ authority ++ path → Lacks (is_path_start web) authority → StartsPath web path → CutsRest scheme rest authority path
rest_cut same joined before starts = grind arith

-- a scheme, and the text after its `://` cut into an authority and a path, cut the URL
pub url_cut : {b scheme rest authority path : List ℕ} → OtherUrlForm b scheme rest → true ≡ is_scheme_text scheme → CutsRest scheme rest authority path → UrlCut b scheme authority path
url_cut form named cut = grind arith

-- a text that passes each check is a URL
pub spelled : {b scheme authority path : List ℕ} {user password host : Option (List ℕ)} {port : Option ℕ} → UrlCut b scheme authority path → IsUtf8 b → LacksWhiteSpace b → true ≡ is_sound b → FreeOf backslash authority → Fits scheme (authority ++ path) → HoldsHosted (host_syntax_of scheme) (requires_host scheme) authority user password host port → IsUtf8 (percent_decode path) → HasUrlSyntax b (record { scheme = scheme; user = user; password = password; host = host; port = port; path = path })
spelled cut text no_white_space sound no_backslash fits held path_text = grind arith

-- there is no URL if the text before `://` isn't a scheme
pub no_scheme_refutes : (b front rest : List ℕ) (parts : UrlSyntax) → OtherUrlForm b front rest → is_scheme_text front ≡ false → ¬ HasUrlSyntax b parts
no_scheme_refutes b front rest parts form bad h =
    both_ways (is_scheme_text front) bad (ap is_scheme_text (sym (scheme_cut b front rest parts form h).0) ∙ h.scheme_text)

-- there is no URL if its path decodes to no text
pub bad_path_refutes : (b scheme authority path : List ℕ) (parts : UrlSyntax) → UrlCut b scheme authority path → ¬ IsUtf8 (percent_decode path) → ¬ HasUrlSyntax b parts
bad_path_refutes b scheme authority path parts cut bad h =
    bad (subst (λ p. IsUtf8 (percent_decode p)) (parts_cut b scheme authority path parts cut h).2 h.path_text)

-- there is no URL if its authority holds a backslash
pub backslash_refutes : (b scheme authority path : List ℕ) (parts : UrlSyntax) → UrlCut b scheme authority path → ¬ FreeOf backslash authority → ¬ HasUrlSyntax b parts
backslash_refutes b scheme authority path parts cut bad h =
    bad (subst (λ a. FreeOf backslash a) (parts_cut b scheme authority path parts cut h).1 h.no_backslash)

-- there is no URL if its authority is none
pub no_authority_refutes : (b scheme authority path : List ℕ) (parts : UrlSyntax) → UrlCut b scheme authority path → IsNoAuthority (host_syntax_of scheme) (requires_host scheme) authority → ¬ HasUrlSyntax b parts
no_authority_refutes b scheme authority path parts cut none h =
    let pieces = parts_cut b scheme authority path parts cut h in
    let own : HoldsHosted (host_syntax_of parts.scheme) (requires_host parts.scheme) h.authority parts.user parts.password parts.host parts.port = record { named = h.named; hosted = h.hosted } in
    let same : HoldsHosted (host_syntax_of parts.scheme) (requires_host parts.scheme) authority parts.user parts.password parts.host parts.port = subst (λ a. HoldsHosted (host_syntax_of parts.scheme) (requires_host parts.scheme) a parts.user parts.password parts.host parts.port) pieces.1 own in
    none parts.user parts.password parts.host parts.port (subst (λ s. HoldsHosted (host_syntax_of s) (requires_host s) authority parts.user parts.password parts.host parts.port) pieces.0 same)

-- an authority with a backslash, or one that holds nothing, spells no parts
pub authority_refutes : (b scheme authority path : List ℕ) (parts : UrlSyntax) → UrlCut b scheme authority path → (¬ FreeOf backslash authority) ⊎ IsNoAuthority (host_syntax_of scheme) (requires_host scheme) authority → ¬ HasUrlSyntax b parts
authority_refutes b scheme authority path parts cut (inl held) = backslash_refutes b scheme authority path parts cut held
authority_refutes b scheme authority path parts cut (inr none) = no_authority_refutes b scheme authority path parts cut none

-- ---- simple hosts

-- a simple host holds no backslash
pub simple_clean : (t : List ℕ) → IsSimpleHost t → FreeOf backslash t
simple_clean t h = free_of_all is_simple_byte backslash t h.bytes refl

-- it is a whole authority
pub simple_held : (syntax : HostSyntax) (needed : Bool) (t : List ℕ) (host : HostPort) → IsSimpleHost t → named_text host ≡ t → host.port ≡ None → HoldsHosted syntax needed t None None (Some (named_text host)) host.port
simple_held syntax needed t host h e p = record {
  named = Authority.host_alone (free_of_all is_simple_byte at_sign t h.bytes refl) (simple_host_named syntax t host h e p) refl refl;
  hosted = λ need. refl;
}

-- a property of the whole holds of each answer
pub on_each_ok : {A B : Type 0} (r : Result A B) (P : Type 0) → P → IfOk r (λ _. P)
on_each_ok r P h = grind arith
