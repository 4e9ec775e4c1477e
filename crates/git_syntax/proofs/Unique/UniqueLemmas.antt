-- Bytes spell at most one location: inside each form the bytes
-- determine the pieces, and the forms exclude one another.
use Rattle.std.proofs.Common.{◌≡◌, ℕ, inl, inr, true, false, List, [], ◌∷◌, ◌++◌, Option, Some, None, refl, sym, ap, subst, ◌∙◌, append_assoc, arith}
use Rattle.std.proofs.lemmas.Bool.Decides.{nat_tests}
use Rattle.std.proofs.lemmas.Bool.{eqb-false}
use Rattle.std.proofs.lemmas.Option.{same_Some}
use Rattle.percent_encoding.specs.Percent.{percent_decode}
use Rattle.git_syntax.specs.Location.{Scheme, Location, path_alone}
use Rattle.git_syntax.specs.Location.Scheme.{ssh}
use Rattle.git_syntax.specs.Bytes.{percent_sign, colon, at_sign, left_bracket, right_bracket, Lacks, FreeOf, lowercase, is_path_start, StartsPath}
use Rattle.git_syntax.specs.Escapes.{escaped_percents}
use Rattle.git_syntax.specs.Addresses.{IsIpv6Text, Literal}
use Rattle.git_syntax.specs.Hosts.{HostSyntax, Bracketed, SpellsHostPort}
use Rattle.git_syntax.specs.Hosts.HostSyntax.{git_hosts}
use Rattle.git_syntax.specs.Schemes.{is_web_scheme, scheme_of, host_syntax_of}
use Rattle.git_syntax.specs.Authority.{Credentials, Authority}
use Rattle.git_syntax.specs.Grammar.{helper_scheme, SpellsHelper, UrlSyntax, HasUrlSyntax, IsSshHost, HostFor, path_for, retained_spelling, DenotesByScheme, DenotesAs, SpellsUrl, SpellsFile, ScpUser, Unbrackets, ScpHost, scp_location, SpellsScpBefore, SpellsScpAddressed, SpellsScp, Spells}
use Rattle.git_syntax.proofs.Parsing.SchemeLemmas.{means_cases}
use Rattle.git_syntax.proofs.Texts.CutLemmas.{tails, class_cut_unique, path_cut_unique, cut_unique, last_cut_unique, scheme_text_free, helper_name_free, free-append, not_free}
use Rattle.git_syntax.proofs.Addresses.AddressLemmas.{address_free, address_utf8, address-lowercase}
use Rattle.git_syntax.proofs.Texts.EscapeLemmas.{decode_kept, escaped_percents_kept}
use Rattle.git_syntax.proofs.Parsing.FormLemmas.{scheme_cut_unique, address_cut, address_front_free, scp_neither, scp_has_form}
use Rattle.git_syntax.proofs.Parsing.HostLemmas.{names_unique}
use Rattle.git_syntax.proofs.Parsing.ClassifierLemmas.{same_front, form_of_file, form_of_url, spelled_as_file, spelled_as_url, spelled_as_helper, spelled_as_scp, spelled_as_local}
use Rattle.std.proofs.lemmas.List.{same_from_push}
use Rattle.git_syntax.proofs.Parsing.ScpFrontLemmas.{begins_apart, scp_user_unique, addressed_unique, open_bracket_no_host, front_of_addressed}

-- ---- remote helpers

-- a remote helper's bytes spell one location in its form
pub helper_unique : (b : List ℕ) (v w : Location) → SpellsHelper b v → SpellsHelper b w → v ≡ w
helper_unique b v w h k =
    let pieces = cut_unique colon h.name k.name (colon ∷ h.address) (colon ∷ k.address) (helper_name_free h.name colon h.parts.named refl) (helper_name_free k.name colon k.parts.named refl) (sym h.parts.joined ∙ k.parts.joined) in
    h.value ∙ ap (λ n. path_alone (helper_scheme n) true h.address) pieces.0 ∙ ap (λ a. path_alone (helper_scheme k.name) true a) (tails pieces.1) ∙ sym k.value

-- ---- URLs

-- user information holds one user and one password
pub credentials_unique : (text : List ℕ) (user other password second : Option (List ℕ)) → Credentials text user password → Credentials text other second → (user ≡ other) × (password ≡ second)
credentials_unique text user other password second h k = grind (arith, nat_tests, cut_unique, not_free)

-- an authority holds one user, one password, one host and one port
pub authority_unique : (syntax : HostSyntax) (text : List ℕ) (user other password second host place : Option (List ℕ)) (port last : Option ℕ) → Authority syntax text user password host port → Authority syntax text other second place last → (user ≡ other) × (password ≡ second) × (host ≡ place) × (port ≡ last)
authority_unique syntax text user other password second host place port last (Authority.host_alone f n u p) (Authority.host_alone g m t q) =
    let same = names_unique syntax text host place port last n m in
    (u ∙ sym t, p ∙ sym q, same.0, same.1)
authority_unique syntax text user other password second host place port last (Authority.host_alone f n u p) (Authority.with_user i x g j c m s) =
    absurd (not_free at_sign i x (subst (λ s. FreeOf at_sign s) j f))
authority_unique syntax text user other password second host place port last (Authority.with_user i x g j c m s) (Authority.host_alone f n u p) =
    absurd (not_free at_sign i x (subst (λ s. FreeOf at_sign s) j f))
authority_unique syntax text user other password second host place port last (Authority.with_user i x f e c n s) (Authority.with_user k y g j d m t) =
    let pieces = last_cut_unique at_sign i k x y f g (sym e ∙ j) in
    let given = credentials_unique k user other password second (subst (λ z. Credentials z user password) pieces.0 c) d in
    let named = names_unique syntax y host place port last (subst (λ z. SpellsHostPort syntax z host port) pieces.1 n) m in
    (given.0, given.1, named.0, named.1)

-- the text of a URL determines its parts
pub parts_unique : (b : List ℕ) (p q : UrlSyntax) → HasUrlSyntax b p → HasUrlSyntax b q → p ≡ q
parts_unique b p q h k =
    let cut = scheme_cut_unique p.scheme q.scheme (h.authority ++ p.path) (k.authority ++ q.path) (scheme_text_free p.scheme colon h.scheme_text refl) (scheme_text_free q.scheme colon k.scheme_text refl) (sym h.joined ∙ k.joined) in
    let scheme : p.scheme ≡ q.scheme = cut.0 in
    let pieces = path_cut_unique (is_web_scheme q.scheme) h.authority k.authority p.path q.path (subst (λ s. Lacks (is_path_start (is_web_scheme s)) h.authority) scheme h.before_path) k.before_path (subst (λ s. StartsPath (is_web_scheme s) p.path) scheme h.path_starts) k.path_starts cut.1 in
    let named : Authority (host_syntax_of q.scheme) h.authority p.user p.password p.host p.port = subst (λ s. Authority (host_syntax_of s) h.authority p.user p.password p.host p.port) scheme h.named in
    let same = authority_unique (host_syntax_of q.scheme) k.authority p.user q.user p.password q.password p.host q.host p.port q.port (subst (λ a. Authority (host_syntax_of q.scheme) a p.user p.password p.host p.port) pieces.0 named) k.named in
    λ i. record { scheme = scheme i; user = same.0 i; password = same.1 i; host = same.2 i; port = same.3 i; path = pieces.1 i }

-- a text in brackets and one in brackets with a colon after them are different
brackets_apart : (x y : List ℕ) → left_bracket ∷ (x ++ right_bracket ∷ []) ≡ left_bracket ∷ (y ++ right_bracket ∷ (colon ∷ [])) → ⊥
brackets_apart x y e =
    let ends = same_from_push x (y ++ right_bracket ∷ []) right_bracket colon (tails e ∙ sym (append_assoc y (right_bracket ∷ []) (colon ∷ []))) in
    eqb-false right_bracket colon refl ends.1

-- Secure Shell takes one host out of a host
pub ssh_host_unique : (host x y : List ℕ) → IsSshHost host x → IsSshHost host y → x ≡ y
ssh_host_unique host x y (IsSshHost.brackets e) (IsSshHost.brackets f) = (same_from_push x y right_bracket right_bracket (tails (sym e ∙ f))).0
ssh_host_unique host x y (IsSshHost.brackets e) (IsSshHost.brackets_colon f) = absurd (brackets_apart x y (sym e ∙ f))
ssh_host_unique host x y (IsSshHost.brackets e) (IsSshHost.last_colon free blank f) =
    absurd (eqb-false right_bracket colon refl (same_from_push (left_bracket ∷ x) y right_bracket colon (sym e ∙ f)).1)
ssh_host_unique host x y (IsSshHost.brackets e) (IsSshHost.same no_brackets no_colon no_end f) = absurd (no_brackets (x, e))
ssh_host_unique host x y (IsSshHost.brackets_colon e) (IsSshHost.brackets f) = absurd (brackets_apart y x (sym f ∙ e))
ssh_host_unique host x y (IsSshHost.brackets_colon e) (IsSshHost.brackets_colon f) =
    let fronts : (x ++ right_bracket ∷ []) ++ colon ∷ [] ≡ (y ++ right_bracket ∷ []) ++ colon ∷ [] =
    append_assoc x (right_bracket ∷ []) (colon ∷ []) ∙ tails (sym e ∙ f) ∙ sym (append_assoc y (right_bracket ∷ []) (colon ∷ [])) in
    (same_from_push x y right_bracket right_bracket (same_from_push (x ++ right_bracket ∷ []) (y ++ right_bracket ∷ []) colon colon fronts).0).0
ssh_host_unique host x y (IsSshHost.brackets_colon e) (IsSshHost.last_colon free blank f) = absurd (begins_apart _ y [] colon blank (sym e ∙ f) refl)
ssh_host_unique host x y (IsSshHost.brackets_colon e) (IsSshHost.same no_brackets no_colon no_end f) = absurd (no_colon (x, e))
ssh_host_unique host x y (IsSshHost.last_colon free blank e) (IsSshHost.brackets f) =
    absurd (eqb-false right_bracket colon refl (same_from_push (left_bracket ∷ y) x right_bracket colon (sym f ∙ e)).1)
ssh_host_unique host x y (IsSshHost.last_colon free blank e) (IsSshHost.brackets_colon f) = absurd (begins_apart _ x [] colon blank (sym f ∙ e) refl)
ssh_host_unique host x y (IsSshHost.last_colon free blank e) (IsSshHost.last_colon also closed f) = (same_from_push x y colon colon (sym e ∙ f)).0
ssh_host_unique host x y (IsSshHost.last_colon free blank e) (IsSshHost.same no_brackets no_colon no_end f) = absurd (no_end (x, free, blank, e))
ssh_host_unique host x y (IsSshHost.same no_brackets no_colon no_end e) (IsSshHost.brackets f) = absurd (no_brackets (y, f))
ssh_host_unique host x y (IsSshHost.same no_brackets no_colon no_end e) (IsSshHost.brackets_colon f) = absurd (no_colon (y, f))
ssh_host_unique host x y (IsSshHost.same no_brackets no_colon no_end e) (IsSshHost.last_colon free blank f) = absurd (no_end (y, free, blank, f))
ssh_host_unique host x y (IsSshHost.same no_brackets no_colon no_end e) (IsSshHost.same a b c f) = e ∙ sym f

-- a location has one host for the host that its URL names
pub host_for_unique : (scheme : Scheme) (named host other : Option (List ℕ)) → HostFor scheme named host → HostFor scheme named other → host ≡ other
host_for_unique ssh None host other h k = h ∙ sym k
host_for_unique ssh (Some named) host other (x, p, e) (y, q, f) = e ∙ ap (λ z. Some z) (ssh_host_unique named x y p q) ∙ sym f
host_for_unique _ named host other h k = h ∙ sym k

-- the location of the parts of a URL with this host
abbrev pub denoted_with : Scheme → UrlSyntax → Option (List ℕ) → Location
denoted_with scheme parts host = record {
  scheme = scheme;
  user = parts.user;
  password = parts.password;
  host = host;
  flag = false;
  port = parts.port;
  path = path_for scheme (percent_decode parts.path);
  spelling = retained_spelling parts.path;
}

-- the parts of a URL denote one location by its scheme
by_scheme_unique : (scheme : Scheme) (parts : UrlSyntax) (v w : Location) → DenotesByScheme scheme parts v → DenotesByScheme scheme parts w → v ≡ w
by_scheme_unique scheme parts v w h k =
    h.value ∙ ap (λ host. denoted_with scheme parts host) (host_for_unique scheme parts.host h.host k.host h.hosted k.hosted) ∙ sym k.value

-- the parts of a URL denote one location
pub means_unique : (scheme : Scheme) (b : List ℕ) (parts : UrlSyntax) (v w : Location) → DenotesAs scheme b parts v → DenotesAs scheme b parts w → v ≡ w
means_unique scheme b parts v w h k = grind (arith, nat_tests, by_scheme_unique, means_cases)

-- a URL's bytes spell one location in its form
pub url_unique : (b : List ℕ) (v w : Location) → SpellsUrl b v → SpellsUrl b w → v ≡ w
url_unique b v w h k =
    let same = parts_unique b h.parts k.parts h.spelled k.spelled in
    means_unique (scheme_of k.parts.scheme) b k.parts v w (subst (λ p. DenotesAs (scheme_of p.scheme) b p v) same h.means) k.means

-- ---- file URLs

-- a file URL's bytes spell one location in its form
pub file_unique : (b : List ℕ) (v w : Location) → SpellsFile b v → SpellsFile b w → v ≡ w
file_unique b v w h k = grind (arith, nat_tests, class_cut_unique, scheme_cut_unique)

-- ---- the scp form

-- brackets are taken off in one way
unbrackets_unique : (host x y : List ℕ) → Unbrackets host x → Unbrackets host y → x ≡ y
unbrackets_unique host x y h k = grind (arith, nat_tests, same_from_push)

-- a host in the scp form denotes one
scp_host_unique : (host other x y : List ℕ) → host ≡ other → ScpHost host x → ScpHost other y → x ≡ y
scp_host_unique host other x y same h k =
    let names = names_unique git_hosts (escaped_percents other) (Some h.named) (Some k.named) None None (subst (λ z. SpellsHostPort git_hosts (escaped_percents z) (Some h.named) None) same h.names) k.names in
    unbrackets_unique k.named x y (subst (λ z. Unbrackets z x) (same_Some h.named k.named names.0) h.unbracketed) k.unbracketed

-- the value of the scp form
scp_same : (user other : Option (List ℕ)) (host second path last : List ℕ) → user ≡ other → host ≡ second → path ≡ last → scp_location user host path ≡ scp_location other second last
scp_same user other host second path last e f g = λ i. scp_location (e i) (f i) (g i)

-- the scp form's bytes spell one location in it, if the form `user@[address]:path` isn't used
pub scp_before_unique : (b : List ℕ) (v w : Location) → SpellsScpBefore b v → SpellsScpBefore b w → v ≡ w
scp_before_unique b v w h k =
    let whole = same_front b h.front h.path k.front k.path h.form.joined k.form.joined h.form.form k.form.form in
    let pieces = scp_user_unique k.front h.user k.user h.host k.host h.hosted.no_at k.hosted.no_at (subst (λ f. ScpUser f h.user h.host) whole.0 h.split) k.split in
    h.value ∙ scp_same h.user k.user h.denoted k.denoted h.path k.path pieces.0 (scp_host_unique h.host k.host h.denoted k.denoted pieces.1 h.hosted k.hosted) whole.1 ∙ sym k.value

-- ---- the form `user@[address]:path`

-- the shape's bytes spell one location
pub scp_addressed_unique : (b : List ℕ) (v w : Location) → SpellsScpAddressed b v → SpellsScpAddressed b w → v ≡ w
scp_addressed_unique b v w h k =
    let pieces = addressed_unique b h.user k.user h.address k.address h.path k.path h.form k.form in
    h.value
    ∙ scp_same (Some h.user) (Some k.user) (lowercase h.address) (lowercase k.address) h.path k.path (ap (λ z. Some z) pieces.0) (ap (λ z. lowercase z) pieces.1) pieces.2
    ∙ sym k.value

-- the lower case of an address has no escape
lowercase_kept : (a : List ℕ) → IsIpv6Text a → percent_decode (lowercase a) ≡ lowercase a
lowercase_kept a h = decode_kept (lowercase a) (address_free percent_sign (lowercase a) refl (address-lowercase a h))

-- an address in brackets names itself in lower case
pub bracketed_address_named : (a : List ℕ) → IsIpv6Text a → SpellsHostPort git_hosts (left_bracket ∷ (a ++ right_bracket ∷ [])) (Some (left_bracket ∷ (lowercase a ++ right_bracket ∷ []))) None
bracketed_address_named a h =
    SpellsHostPort.bracketed a (lowercase a) (address_free right_bracket a refl h) (Bracketed.literal (lowercase a) (Literal.address h refl) (sym (lowercase_kept a h)) (address_utf8 (lowercase a) (address-lowercase a h))) refl refl refl

-- such a host of the scp form denotes the address in lower case
bracketed_address_host : (host a denoted : List ℕ) → host ≡ left_bracket ∷ (a ++ right_bracket ∷ []) → IsIpv6Text a → ScpHost host denoted → denoted ≡ lowercase a
bracketed_address_host host a denoted e address h =
    let free : FreeOf percent_sign (a ++ right_bracket ∷ []) = free-append percent_sign a (right_bracket ∷ []) (address_free percent_sign a refl address) refl in
    let kept : escaped_percents host ≡ left_bracket ∷ (a ++ right_bracket ∷ []) = ap (λ z. escaped_percents z) e ∙ escaped_percents_kept (left_bracket ∷ (a ++ right_bracket ∷ [])) free in
    let names = names_unique git_hosts (left_bracket ∷ (a ++ right_bracket ∷ [])) (Some h.named) (Some (left_bracket ∷ (lowercase a ++ right_bracket ∷ []))) None None (subst (λ z. SpellsHostPort git_hosts z (Some h.named) None) kept h.names) (bracketed_address_named a address) in
    unbrackets_unique h.named denoted (lowercase a) h.unbracketed (Unbrackets.brackets (same_Some h.named (left_bracket ∷ (lowercase a ++ right_bracket ∷ [])) names.0))

-- if both spell the bytes, they spell one location
pub scp_forms_agree : (b : List ℕ) (v w : Location) → SpellsScpBefore b v → SpellsScpAddressed b w → v ≡ w
scp_forms_agree b v w h k =
    let (x, y, f, e) = address_cut k.address k.form.cut.addressed in
    elim (front_of_addressed b k.user k.address k.path x y h.front h.path k.form f e h.form.joined h.form.form) [
      | inl within ↦
          let pieces = scp_user_unique h.front h.user (Some k.user) h.host (left_bracket ∷ x) h.hosted.no_at (address_front_free at_sign k.address x y refl k.form.cut.addressed e) h.split (ScpUser.with_user k.user within refl) in
          absurd (open_bracket_no_host h.host x h.denoted pieces.1 (address_front_free right_bracket k.address x y refl k.form.cut.addressed e) h.hosted)
      | inr (suffix, paths) ↦
          let free : FreeOf at_sign (k.address ++ right_bracket ∷ []) = free-append at_sign k.address (right_bracket ∷ []) (address_free at_sign k.address refl k.form.cut.addressed) refl in
          let pieces = scp_user_unique h.front h.user (Some k.user) h.host (left_bracket ∷ (k.address ++ right_bracket ∷ [])) h.hosted.no_at free h.split (ScpUser.with_user k.user suffix refl) in
          h.value
          ∙ scp_same h.user (Some k.user) h.denoted (lowercase k.address) h.path k.path pieces.0 (bracketed_address_host h.host k.address h.denoted pieces.1 k.form.cut.addressed h.hosted) paths
          ∙ sym k.value
    ]

-- the scp form's bytes spell one location in it
pub scp_unique : (b : List ℕ) (v w : Location) → SpellsScp b v → SpellsScp b w → v ≡ w
scp_unique b v w (inl h) (inl k) = scp_before_unique b v w h k
scp_unique b v w (inl h) (inr k) = scp_forms_agree b v w h k
scp_unique b v w (inr h) (inl k) = sym (scp_forms_agree b w v k h)
scp_unique b v w (inr h) (inr k) = scp_addressed_unique b v w h k

-- ---- all forms

-- bytes spell one location at most
pub spells_unique : (b : List ℕ) (v w : Location) → Spells b v → Spells b w → v ≡ w
spells_unique b v w (Spells.url h) k = url_unique b v w h (spelled_as_url b h.parts.scheme (h.spelled.authority ++ h.parts.path) (form_of_url h) w k)
spells_unique b v w (Spells.file_url h) k = file_unique b v w h (spelled_as_file b (h.host ++ h.path) (form_of_file h) w k)
spells_unique b v w (Spells.remote_helper h) k = helper_unique b v w h (spelled_as_helper b (h.name, h.address, h.parts) w k)
spells_unique b v w (Spells.scp_form h) k = scp_unique b v w h (spelled_as_scp b (scp_neither h) (scp_has_form h) w k)
spells_unique b v w (Spells.local_path h) k = h.value ∙ sym (spelled_as_local b h.neither h.no_scp w k).value
