-- A text has one cut into parts at most, of which the password and the port are those of its location.
use Rattle.std.proofs.Common.{◌≡◌, ℕ, ◌+◌, ◌-◌, ◌<◌, ◌==◌, ◌⊎◌, true, false, inl, inr, List, [], ◌∷◌, ◌++◌, length, take, drop, Option, Some, None, refl, sym, ap, subst, ◌∙◌, arith, append_assoc, length-append, codes, bytes_eq}
use Rattle.std.specs.Char.{is_ascii_digit}
use Rattle.std.specs.Str.Parse.{digits_value}
use Rattle.std.proofs.lemmas.Bool.{both_ways, false≢true}
use Rattle.std.proofs.lemmas.Bool.Decides.{nat_tests}
use Rattle.std.proofs.lemmas.List.{append-nil, drop_at, take_at}
use Rattle.std.proofs.lemmas.Option.{same_Some, none-some}
use Rattle.std.proofs.lemmas.Slice.Eq.{bytes_eq-Decides}
use Rattle.percent_encoding.specs.Percent.{percent_decode}
use Rattle.git_syntax.specs.Bytes.{slash, colon, at_sign, left_bracket, right_bracket, FreeOf, Lacks, begins_with, is_path_start, StartsPath}
use Rattle.git_syntax.specs.Location.{Location}
use Rattle.git_syntax.specs.Hosts.{HostSyntax, IsManyColoned, IsPlainHost, SpellsHostPort}
use Rattle.git_syntax.specs.Schemes.{is_web_scheme, scheme_of, host_syntax_of}
use Rattle.git_syntax.specs.Authority.{unless_empty, Credentials, Authority}
use Rattle.git_syntax.specs.Grammar.{HelperCut, IsNeither, ScpForm, AddressedForm, IsAddressed, HasScpForm, SpellsUrl, Spells}
use Rattle.git_syntax.specs.Flaws.{IsPortPlace, UrlForm, UrlCut}
use Rattle.git_syntax.proofs.Texts.CutLemmas.{tails, free_of_all, class_cut_unique, path_cut_unique, cut_unique, last_cut_unique, mark_cut_unique, helper_name_free, begins-append, free_begins, not_free}
use Rattle.git_syntax.proofs.Parsing.ClassifierLemmas.{same_front, form_of_url, url_form_not_neither}
use Rattle.git_syntax.proofs.Parsing.HostLemmas.{place_begins}
use Rattle.git_syntax.proofs.Parsing.SchemeLemmas.{means_cases}
use Rattle.git_syntax.proofs.Parsing.ScpFrontLemmas.{addressed_unique}
use Rattle.git_parts.specs.declared.parts.Span.{Span}
use Rattle.git_parts.specs.declared.parts.Parts.{Parts}
use Rattle.git_parts.specs.declared.parts.PartForm.TheVariants as form
use Rattle.git_parts.specs.Internal.Pieces.{HasPort}
use Rattle.git_parts.specs.Parts.{span, slice_of, span_unless_empty, HostSpans, UserSpans, AuthoritySpans, FrontSpans, path_span, HasParts, OneCut, Decodes, PasswordIsPart, PortIsPart}
use Rattle.git_refusals.proofs.Refusing.HostLemmas.{only_in_front}
use Rattle.git_parts.proofs.Refusing.OneHostLemmas.{bracket_apart}
use Rattle.git_parts.proofs.Cutting.PartLemmas.{port_spans}

-- ---- the shapes of a host and a port

-- the text after a host of so many bytes: nothing, a colon that stays with it, or a port
data FollowSpans (start size : ℕ) (rest : List ℕ) (host port : Option Span) : Type 0 where
  nothing : rest ≡ [] → host ≡ Some (span start size) → port ≡ None → FollowSpans start size rest host port
  lone_colon : rest ≡ colon ∷ [] → host ≡ Some (span start (size + 1)) → port ≡ None → FollowSpans start size rest host port
  number : (digits : List ℕ) → 0 < length digits → rest ≡ colon ∷ digits → host ≡ Some (span start size) → port ≡ Some (span (start + (size + 1)) (length digits)) → FollowSpans start size rest host port

-- the text after a host determines its place and that of the port
follow_unique : (start size : ℕ) (rest : List ℕ) (host second port last : Option Span) → FollowSpans start size rest host port → FollowSpans start size rest second last → (host ≡ second) × (port ≡ last)
follow_unique start size rest host second port last h k = grind arith

-- a host and a port by the marks of their piece
data HostShape (start : ℕ) (piece : List ℕ) (host port : Option Span) : Type 0 where
  nothing : piece ≡ [] → host ≡ None → port ≡ None → HostShape start piece host port
  bracketed : (x rest : List ℕ) → FreeOf right_bracket x → piece ≡ left_bracket ∷ (x ++ right_bracket ∷ rest) → FollowSpans start (length x + 2) rest host port → HostShape start piece host port
  plain : (text rest : List ℕ) → IsPlainHost text → IsPortPlace rest → piece ≡ text ++ rest → FollowSpans start (length text) rest host port → HostShape start piece host port
  colons : begins_with left_bracket piece ≡ false → IsManyColoned piece → host ≡ Some (span start (length piece)) → port ≡ None → HostShape start piece host port

-- a place by its length
sized : (start n m : ℕ) (host : Option Span) → host ≡ Some (span start n) → n ≡ m → host ≡ Some (span start m)
sized start n m host h e = h ∙ ap (λ k. Some (span start k)) e

-- a place by the text before it
placed : (n m size : ℕ) (port : Option Span) → port ≡ Some (span n size) → n ≡ m → port ≡ Some (span m size)
placed n m size port h e = h ∙ ap (λ k. Some (span k size)) e

-- each host and port has a shape
host_shape : (start : ℕ) (piece : List ℕ) (host port : Option Span) → HostSpans start piece host port → HostShape start piece host port
host_shape start piece host port (HostSpans.nothing e h p) = HostShape.nothing e h p
host_shape start piece host port (HostSpans.bracketed x f e h p) =
    HostShape.bracketed x [] f e (FollowSpans.nothing refl (sized start _ _ host h (omega (arith, ap length e, length-append x (right_bracket ∷ [])))) p)
host_shape start piece host port (HostSpans.bracketed_colon x f e h p) =
    HostShape.bracketed x (colon ∷ []) f e (FollowSpans.lone_colon refl (sized start _ _ host h (omega (arith, ap length e, length-append x (right_bracket ∷ (colon ∷ []))))) p)
host_shape start piece host port (HostSpans.bracketed_port x digits f n e h p) =
    HostShape.bracketed x (colon ∷ digits) f e (FollowSpans.number digits n refl h (placed _ _ (length digits) port p (omega arith)))
host_shape start piece host port (HostSpans.plain t h p) = HostShape.plain piece [] t (inl refl) (sym (append-nil piece)) (FollowSpans.nothing refl h p)
host_shape start piece host port (HostSpans.plain_colon text t e h p) =
    HostShape.plain text (colon ∷ []) t (inr ([], refl, refl)) e (FollowSpans.lone_colon refl (sized start _ _ host h (omega (arith, ap length e, length-append text (colon ∷ [])))) p)
host_shape start piece host port (HostSpans.plain_port text digits t f n e h p) = HostShape.plain text (colon ∷ digits) t (inr (digits, f, refl)) e (FollowSpans.number digits n refl h p)
host_shape start piece host port (HostSpans.colons b m h p) = HostShape.colons b m h p

-- nothing isn't a piece with a bracket in it
nothing_bracketed : (piece x rest : List ℕ) → piece ≡ [] → piece ≡ left_bracket ∷ (x ++ right_bracket ∷ rest) → ⊥
nothing_bracketed piece x rest e k = let wrong : [] ≡ left_bracket ∷ (x ++ right_bracket ∷ rest) = sym e ∙ k in cc

-- nor a host and the text after it
nothing_plain : (piece text rest : List ℕ) → IsPlainHost text → piece ≡ [] → piece ≡ text ++ rest → ⊥
nothing_plain piece text rest t e k = omega (arith, t.nonempty, length-append text rest, ap length (sym e ∙ k))

-- nor colons
nothing_many : (piece : List ℕ) → IsManyColoned piece → piece ≡ [] → ⊥
nothing_many piece (inl h) none = both_ways (begins_with colon piece) (ap (begins_with colon) none) h
nothing_many piece (inr (x, y, z, e)) none = omega (arith, length-append x (colon ∷ (y ++ colon ∷ z)), ap length (sym e ∙ none))

-- a host outside brackets doesn't begin with one
bracket_plain : (piece suffix text rest : List ℕ) → IsPlainHost text → piece ≡ left_bracket ∷ suffix → piece ≡ text ++ rest → ⊥
bracket_plain piece suffix text rest t e k =
    bracket_apart piece suffix e (ap (begins_with left_bracket) k ∙ begins-append left_bracket text rest t.nonempty ∙ t.no_bracket)

-- the colon of a host's port is not another colon
plain_many : (piece text rest : List ℕ) → IsPlainHost text → IsPortPlace rest → piece ≡ text ++ rest → IsManyColoned piece → ⊥
plain_many piece text rest t (inl none) e (inl begins) =
    both_ways (begins_with colon text) (free_begins colon text t.no_colon) (sym (ap (begins_with colon) (e ∙ ap (λ r. text ++ r) none ∙ append-nil text)) ∙ begins)
plain_many piece text rest t (inl none) e (inr (x, y, z, two)) =
    not_free colon x (y ++ colon ∷ z) (subst (λ s. FreeOf colon s) (sym (e ∙ ap (λ r. text ++ r) none ∙ append-nil text) ∙ two) t.no_colon)
plain_many piece text rest t (inr (digits, free, is)) e many =
    let whole : piece ≡ text ++ colon ∷ digits = e ∙ ap (λ r. text ++ r) is in
    let front = only_in_front piece text digits many t.no_colon free whole in
    omega (arith, t.nonempty, ap length front, ap length whole, length-append text (colon ∷ digits))

-- the same host and the text after it have the same places
same_follow : (start size other : ℕ) (rest end : List ℕ) (host second port last : Option Span) → size ≡ other → rest ≡ end → FollowSpans start size rest host port → FollowSpans start other end second last → (host ≡ second) × (port ≡ last)
same_follow start size other rest end host second port last e f h k =
    follow_unique start other end host second port last (subst (λ n. FollowSpans start n end host port) e (subst (λ r. FollowSpans start size r host port) f h)) k

-- one shape has one host and one port, and no two are alike
shape_unique : (start : ℕ) (piece : List ℕ) (host second port last : Option Span) → HostShape start piece host port → HostShape start piece second last → (host ≡ second) × (port ≡ last)
shape_unique start piece host second port last (HostShape.nothing e h p) (HostShape.nothing i k q) = (h ∙ sym k, p ∙ sym q)
shape_unique start piece host second port last (HostShape.nothing e h p) (HostShape.bracketed y s g i k) = absurd (nothing_bracketed piece y s e i)
shape_unique start piece host second port last (HostShape.nothing e h p) (HostShape.plain y s u g i k) = absurd (nothing_plain piece y s u e i)
shape_unique start piece host second port last (HostShape.nothing e h p) (HostShape.colons b m k q) = absurd (nothing_many piece m e)
shape_unique start piece host second port last (HostShape.bracketed x r f e h) (HostShape.nothing i k q) = absurd (nothing_bracketed piece x r i e)
shape_unique start piece host second port last (HostShape.bracketed x r f e h) (HostShape.bracketed y s g i k) =
    let cut = cut_unique right_bracket x y r s f g (tails (sym e ∙ i)) in
    same_follow start (length x + 2) (length y + 2) r s host second port last (ap (λ (t : List ℕ). length t + 2) cut.0) cut.1 h k
shape_unique start piece host second port last (HostShape.bracketed x r f e h) (HostShape.plain y s u g i k) = absurd (bracket_plain piece (x ++ right_bracket ∷ r) y s u e i)
shape_unique start piece host second port last (HostShape.bracketed x r f e h) (HostShape.colons b m k q) = absurd (bracket_apart piece (x ++ right_bracket ∷ r) e b)
shape_unique start piece host second port last (HostShape.plain x r t f e h) (HostShape.nothing i k q) = absurd (nothing_plain piece x r t i e)
shape_unique start piece host second port last (HostShape.plain x r t f e h) (HostShape.bracketed y s g i k) = absurd (bracket_plain piece (y ++ right_bracket ∷ s) x r t i e)
shape_unique start piece host second port last (HostShape.plain x r t f e h) (HostShape.plain y s u g i k) =
    let cut = class_cut_unique (λ b. b == colon) x y r s t.no_colon u.no_colon (place_begins r f) (place_begins s g) (sym e ∙ i) in
    same_follow start (length x) (length y) r s host second port last (ap length cut.0) cut.1 h k
shape_unique start piece host second port last (HostShape.plain x r t f e h) (HostShape.colons b m k q) = absurd (plain_many piece x r t f e m)
shape_unique start piece host second port last (HostShape.colons b m h p) (HostShape.nothing i k q) = absurd (nothing_many piece m i)
shape_unique start piece host second port last (HostShape.colons b m h p) (HostShape.bracketed y s g i k) = absurd (bracket_apart piece (y ++ right_bracket ∷ s) i b)
shape_unique start piece host second port last (HostShape.colons b m h p) (HostShape.plain y s u g i k) = absurd (plain_many piece y s u g i m)
shape_unique start piece host second port last (HostShape.colons b m h p) (HostShape.colons c n k q) = (h ∙ sym k, p ∙ sym q)

-- a piece has one host and one port
host_spans_unique : (start : ℕ) (piece : List ℕ) (host second port last : Option Span) → HostSpans start piece host port → HostSpans start piece second last → (host ≡ second) × (port ≡ last)
host_spans_unique start piece host second port last h k = shape_unique start piece host second port last (host_shape start piece host port h) (host_shape start piece second last k)

-- ---- authorities

-- user information has one user and one password
user_spans_unique : (start : ℕ) (information : List ℕ) (user other password second : Option Span) → UserSpans start information user password → UserSpans start information other second → (user ≡ other) × (password ≡ second)
user_spans_unique start information user other password second (UserSpans.alone f h p) (UserSpans.alone g k q) = (h ∙ sym k, p ∙ sym q)
user_spans_unique start information user other password second (UserSpans.alone f h p) (UserSpans.with_password v z g i k q) = absurd (not_free colon v z (subst (λ t. FreeOf colon t) i f))
user_spans_unique start information user other password second (UserSpans.with_password u w f e h p) (UserSpans.alone g k q) = absurd (not_free colon u w (subst (λ t. FreeOf colon t) e g))
user_spans_unique start information user other password second (UserSpans.with_password u w f e h p) (UserSpans.with_password v z g i k q) =
    let cut = cut_unique colon u v w z f g (sym e ∙ i) in
    (h ∙ ap (λ (t : List ℕ). Some (span start (length t))) cut.0 ∙ sym k, p ∙ (λ j. Some (span (start + (length (cut.0 j) + 1)) (length (cut.1 j)))) ∙ sym q)

-- the four places of the parts of an authority
record SameSpans (user password host port other second name last : Option Span) : Type 0 where
  pub user_same : user ≡ other
  pub password_same : password ≡ second
  pub host_same : host ≡ name
  pub port_same : port ≡ last

-- an authority has one of each
authority_spans_unique : (start : ℕ) (authority : List ℕ) (user password host port other second name last : Option Span) → AuthoritySpans start authority user password host port → AuthoritySpans start authority other second name last
    → SameSpans user password host port other second name last
authority_spans_unique start authority user password host port other second name last (AuthoritySpans.alone f u p h) (AuthoritySpans.alone g t q k) =
    let same = host_spans_unique start authority host name port last h k in
    record { user_same = u ∙ sym t; password_same = p ∙ sym q; host_same = same.0; port_same = same.1 }
authority_spans_unique start authority user password host port other second name last (AuthoritySpans.alone f u p h) (AuthoritySpans.with_user v z g i t k) =
    absurd (not_free at_sign v z (subst (λ t. FreeOf at_sign t) i f))
authority_spans_unique start authority user password host port other second name last (AuthoritySpans.with_user u w f e t h) (AuthoritySpans.alone g s q k) =
    absurd (not_free at_sign u w (subst (λ t. FreeOf at_sign t) e g))
authority_spans_unique start authority user password host port other second name last (AuthoritySpans.with_user u w f e t h) (AuthoritySpans.with_user v z g i s k) =
    let cut = last_cut_unique at_sign u v w z f g (sym e ∙ i) in
    let users = user_spans_unique start v user other password second (subst (λ x. UserSpans start x user password) cut.0 t) s in
    let moved = subst (λ (x : List ℕ). HostSpans (start + (length x + 1)) w host port) cut.0 h in
    let hosts = host_spans_unique (start + (length v + 1)) z host name port last (subst (λ x. HostSpans (start + (length v + 1)) x host port) cut.1 moved) k in
    record { user_same = users.0; password_same = users.1; host_same = hosts.0; port_same = hosts.1 }

-- the front of the scp form has one user and one host
front_spans_unique : (front : List ℕ) (user other host second : Option Span) → FrontSpans front user host → FrontSpans front other second → (user ≡ other) × (host ≡ second)
front_spans_unique front user other host second (FrontSpans.alone f u h) (FrontSpans.alone g t k) = (u ∙ sym t, h ∙ sym k)
front_spans_unique front user other host second (FrontSpans.alone f u h) (FrontSpans.with_user v z g i t k) = absurd (not_free at_sign v z (subst (λ t. FreeOf at_sign t) i f))
front_spans_unique front user other host second (FrontSpans.with_user u w f e s h) (FrontSpans.alone g t k) = absurd (not_free at_sign u w (subst (λ t. FreeOf at_sign t) e g))
front_spans_unique front user other host second (FrontSpans.with_user u w f e s h) (FrontSpans.with_user v z g i t k) =
    let cut = last_cut_unique at_sign u v w z f g (sym e ∙ i) in
    (s ∙ ap (λ (x : List ℕ). Some (span 0 (length x))) cut.0 ∙ sym t, h ∙ (λ j. Some (span (length (cut.0 j) + 1) (length (cut.1 j)))) ∙ sym k)

-- ---- URLs

-- the parts of a file URL
abbrev file_spans : List ℕ → List ℕ → List ℕ → Parts
file_spans b host path = record (path_span form.Url b) {
  scheme = Some (span 0 4);
  host = span_unless_empty 7 host;
  path = span (7 + length host) (length path);
}

-- the parts of any other URL
abbrev url_spans : List ℕ → List ℕ → List ℕ → Option Span → Option Span → Option Span → Option Span → Parts
url_spans scheme authority path user password host port = record {
  form = form.Url;
  scheme = Some (span 0 (length scheme));
  user = user;
  password = password;
  host = host;
  port = port;
  path = span (length scheme + 3 + length authority) (length path);
}

-- an authority and a path after the mark of a URL, and the places of their parts
record OtherParts (front rest : List ℕ) (parts : Parts) : Type 0 where
  pub authority : List ℕ
  pub path : List ℕ
  pub user : Option Span
  pub password : Option Span
  pub host : Option Span
  pub port : Option Span
  pub joined : rest ≡ authority ++ path
  pub before_path : Lacks (is_path_start (is_web_scheme front)) authority
  pub path_starts : StartsPath (is_web_scheme front) path
  pub spans : AuthoritySpans (length front + 3) authority user password host port
  pub are : parts ≡ url_spans front authority path user password host port

-- the parts of a URL, by the text before and after its mark
data UrlParts (b front rest : List ℕ) (parts : Parts) : Type 0 where
  ext : front ≡ codes "ext" → parts ≡ path_span form.RemoteHelper b → UrlParts b front rest parts
  file : (host path : List ℕ) → front ≡ codes "file" → rest ≡ host ++ path → FreeOf slash host → begins_with slash path ≡ true → parts ≡ file_spans b host path → UrlParts b front rest parts
  other_url : bytes_eq front (codes "file") ≡ false → ¬ (front ≡ codes "ext") → OtherParts front rest parts → UrlParts b front rest parts

-- a scheme isn't both `ext` and `file`
ext_apart : (front : List ℕ) → front ≡ codes "ext" → front ≡ codes "file" → ⊥
ext_apart front e f = false≢true ((bytes_eq-Decides (codes "ext") (codes "file")).1 (sym e ∙ f))

-- nor `file` and another
file_apart : (front : List ℕ) → front ≡ codes "file" → bytes_eq front (codes "file") ≡ false → ⊥
file_apart front e other = both_ways (bytes_eq front (codes "file")) other ((bytes_eq-Decides front (codes "file")).1 e)

-- a file URL has one host and one path
one_file : (b rest host name path end : List ℕ) → rest ≡ host ++ path → rest ≡ name ++ end → FreeOf slash host → FreeOf slash name → begins_with slash path ≡ true → begins_with slash end ≡ true → file_spans b host path ≡ file_spans b name end
one_file b rest host name path end e f g h k l =
    let cut = class_cut_unique (λ c. c == slash) host name path end g h (inr k) (inr l) (sym e ∙ f) in
    (λ i. file_spans b (cut.0 i) (cut.1 i))

-- any other URL has one authority and one path
one_other : (front rest : List ℕ) (p q : Parts) → OtherParts front rest p → OtherParts front rest q → p ≡ q
one_other front rest p q h k =
    let cut = path_cut_unique (is_web_scheme front) h.authority k.authority h.path k.path h.before_path k.before_path h.path_starts k.path_starts (sym h.joined ∙ k.joined) in
    let spans = subst (λ a. AuthoritySpans (length front + 3) a h.user h.password h.host h.port) cut.0 h.spans in
    let same = authority_spans_unique (length front + 3) k.authority h.user h.password h.host h.port k.user k.password k.host k.port spans k.spans in
    h.are ∙ (λ i. url_spans front (cut.0 i) (cut.1 i) (same.user_same i) (same.password_same i) (same.host_same i) (same.port_same i)) ∙ sym k.are

-- the text before and after the mark of a URL determines its parts
one_url : (b front rest : List ℕ) (p q : Parts) → UrlParts b front rest p → UrlParts b front rest q → p ≡ q
one_url b front rest p q (UrlParts.ext e h) (UrlParts.ext f k) = h ∙ sym k
one_url b front rest p q (UrlParts.ext e h) (UrlParts.file name end f i g l k) = absurd (ext_apart front e f)
one_url b front rest p q (UrlParts.ext e h) (UrlParts.other_url f n k) = absurd (n e)
one_url b front rest p q (UrlParts.file host path e j s l h) (UrlParts.ext f k) = absurd (ext_apart front f e)
one_url b front rest p q (UrlParts.file host path e j s l h) (UrlParts.file name end f i t m k) = h ∙ one_file b rest host name path end j i s t l m ∙ sym k
one_url b front rest p q (UrlParts.file host path e j s l h) (UrlParts.other_url f n k) = absurd (file_apart front e f)
one_url b front rest p q (UrlParts.other_url e n h) (UrlParts.ext f k) = absurd (n f)
one_url b front rest p q (UrlParts.other_url e n h) (UrlParts.file name end f i t m k) = absurd (file_apart front f e)
one_url b front rest p q (UrlParts.other_url e n h) (UrlParts.other_url f m k) = one_other front rest p q h k

-- ---- paths

-- the parts of the form `user@[address]:path`
abbrev addressed_spans : List ℕ → List ℕ → List ℕ → List ℕ → Parts
addressed_spans b user address path = record (path_span form.Scp b) {
  user = Some (span 0 (length user));
  host = Some (span (length user + 1) (length address + 2));
  path = span (length user + length address + 4) (length path);
}

-- the parts of the scp form
abbrev scp_spans : List ℕ → List ℕ → List ℕ → Option Span → Option Span → Parts
scp_spans b front path user host = record (path_span form.Scp b) {
  user = user;
  host = host;
  path = span (length front + 1) (length path);
}

-- the parts of a text that is neither a remote helper nor a URL
data PathParts (b : List ℕ) (parts : Parts) : Type 0 where
  local : ¬ HasScpForm b → parts ≡ path_span form.Local b → PathParts b parts
  addressed : (user address path : List ℕ) → AddressedForm b user address path → parts ≡ addressed_spans b user address path → PathParts b parts
  scp : (front path : List ℕ) (user host : Option Span) → ScpForm b front path → ¬ IsAddressed b → FrontSpans front user host → parts ≡ scp_spans b front path user host → PathParts b parts

-- the scp form is cut in one way
one_scp : (b front second path last : List ℕ) (user other host name : Option Span) → ScpForm b front path → ScpForm b second last → FrontSpans front user host → FrontSpans second other name → scp_spans b front path user host ≡ scp_spans b second last other name
one_scp b front second path last user other host name f g h k =
    let cut = same_front b front path second last f.joined g.joined f.form g.form in
    let same = front_spans_unique second user other host name (subst (λ x. FrontSpans x user host) cut.0 h) k in
    (λ i. scp_spans b (cut.0 i) (cut.1 i) (same.0 i) (same.1 i))

-- such a text has one cut
one_path : (b : List ℕ) (p q : Parts) → PathParts b p → PathParts b q → p ≡ q
one_path b p q (PathParts.local n h) (PathParts.local m k) = h ∙ sym k
one_path b p q (PathParts.local n h) (PathParts.addressed u a s f k) = absurd (n (inr (u, a, s, f)))
one_path b p q (PathParts.local n h) (PathParts.scp x s t i f m g k) = absurd (n (inl (x, s, f)))
one_path b p q (PathParts.addressed v c r e h) (PathParts.local m k) = absurd (m (inr (v, c, r, e)))
one_path b p q (PathParts.addressed v c r e h) (PathParts.addressed u a s f k) =
    let same = addressed_unique b v u c a r s e f in
    h ∙ (λ i. addressed_spans b (same.0 i) (same.1 i) (same.2 i)) ∙ sym k
one_path b p q (PathParts.addressed v c r e h) (PathParts.scp x s t i f m g k) = absurd (m (v, c, r, e))
one_path b p q (PathParts.scp y r w j e n l h) (PathParts.local m k) = absurd (m (inl (y, r, e)))
one_path b p q (PathParts.scp y r w j e n l h) (PathParts.addressed u a s f k) = absurd (n (u, a, s, f))
one_path b p q (PathParts.scp y r w j e n l h) (PathParts.scp x s t i f m g k) = h ∙ one_scp b y x r s w t j i e f l g ∙ sym k

-- ---- all texts

-- the parts of a remote helper
abbrev helper_spans : List ℕ → List ℕ → List ℕ → Parts
helper_spans b name address = record (path_span form.RemoteHelper b) {
  scheme = Some (span 0 (length name));
  path = span (length name + 2) (length address);
}

-- the parts of a text, by whether it is a remote helper, a URL or neither
data ByForm (b : List ℕ) (parts : Parts) : Type 0 where
  helper : (name address : List ℕ) → HelperCut b name address → parts ≡ helper_spans b name address → ByForm b parts
  url : (front rest : List ℕ) → UrlForm b front rest → UrlParts b front rest parts → ByForm b parts
  neither : IsNeither b → PathParts b parts → ByForm b parts

-- each cut is of one of these
by_form : (b : List ℕ) (parts : Parts) → HasParts b parts → ByForm b parts
by_form b parts (HasParts.local l h) = ByForm.neither l.neither (PathParts.local l.no_scp h)
by_form b parts (HasParts.remote_helper name address cut h) = ByForm.helper name address cut h
by_form b parts (HasParts.ext_url rest f h) = ByForm.url (codes "ext") rest f.form (UrlParts.ext refl h)
by_form b parts (HasParts.file_url host path f free begins h) = ByForm.url (codes "file") (host ++ path) f (UrlParts.file host path refl refl free begins h)
by_form b parts (HasParts.url scheme authority path user password host port cut n spans h) =
    ByForm.url scheme (authority ++ path) cut.form.form (UrlParts.other_url cut.form.not_file n (record {
      authority = authority;
      path = path;
      user = user;
      password = password;
      host = host;
      port = port;
      joined = refl;
      before_path = cut.before_path;
      path_starts = cut.path_starts;
      spans = spans;
      are = h;
    }))
by_form b parts (HasParts.addressed user address path f h) = ByForm.neither f.neither (PathParts.addressed user address path f h)
by_form b parts (HasParts.scp front path user host f n spans h) = ByForm.neither f.neither (PathParts.scp front path user host f n spans h)

-- a remote helper has one name and one address
one_helper : (b name other address last : List ℕ) → HelperCut b name address → HelperCut b other last → helper_spans b name address ≡ helper_spans b other last
one_helper b name other address last h k =
    let cut = cut_unique colon name other (colon ∷ address) (colon ∷ last) (helper_name_free name colon h.named refl) (helper_name_free other colon k.named refl) (sym h.joined ∙ k.joined) in
    let ends = tails cut.1 in
    (λ i. helper_spans b (cut.0 i) (ends i))

-- the text before and after the first `://` of a URL is determined
same_form : (b front second rest last : List ℕ) → UrlForm b front rest → UrlForm b second last → (front ≡ second) × (rest ≡ last)
same_form b front second rest last h k = mark_cut_unique front second rest last h.first k.first (sym h.joined ∙ k.joined)

-- so are the parts of a URL
same_url : (b front second rest last : List ℕ) (p : Parts) → front ≡ second → rest ≡ last → UrlParts b front rest p → UrlParts b second last p
same_url b front second rest last p e f h = subst (λ x. UrlParts b x last p) e (subst (λ x. UrlParts b front x p) f h)

-- a text has one cut by its form
one_by_form : (b : List ℕ) (p q : Parts) → ByForm b p → ByForm b q → p ≡ q
one_by_form b p q (ByForm.helper x a c h) (ByForm.helper y d e k) = h ∙ one_helper b x y a d c e ∙ sym k
one_by_form b p q (ByForm.helper x a c h) (ByForm.url y s f k) = absurd (f.no_helper (x, a, c))
one_by_form b p q (ByForm.helper x a c h) (ByForm.neither n k) = absurd (n.no_helper (x, a, c))
one_by_form b p q (ByForm.url x r e h) (ByForm.helper y d c k) = absurd (e.no_helper (y, d, c))
one_by_form b p q (ByForm.url x r e h) (ByForm.url y s f k) =
    let cut = same_form b x y r s e f in
    one_url b y s p q (same_url b x y r s p cut.0 cut.1 h) k
one_by_form b p q (ByForm.url x r e h) (ByForm.neither n k) = absurd (url_form_not_neither b x r e n)
one_by_form b p q (ByForm.neither n h) (ByForm.helper y d c k) = absurd (n.no_helper (y, d, c))
one_by_form b p q (ByForm.neither n h) (ByForm.url y s f k) = absurd (url_form_not_neither b y s f n)
one_by_form b p q (ByForm.neither n h) (ByForm.neither m k) = one_path b p q h k

-- a text has one cut into parts
pub one_cut : OneCut
one_cut b p q h k = one_by_form b p q (by_form b p h) (by_form b q k)

-- ---- if a password and a port are

-- the bytes at a place are the piece there
slice_at : (b front piece back : List ℕ) (n : ℕ) → length front ≡ n → b ≡ front ++ (piece ++ back) → slice_of b (span n (length piece)) ≡ piece
slice_at b front piece back n size e =
    ap (λ t. take (length piece) (drop n t)) e ∙ ap (take (length piece)) (drop_at front (piece ++ back) n size) ∙ take_at piece back (length piece) refl

-- an authority whose user information has this password after its first colon
record PasswordIn (authority password : List ℕ) : Type 0 where
  pub user : List ℕ
  pub text : List ℕ
  pub piece : List ℕ
  pub no_at : FreeOf at_sign piece
  pub no_colon : FreeOf colon user
  pub joined : authority ≡ (user ++ colon ∷ text) ++ at_sign ∷ piece
  pub decodes : percent_decode text ≡ password

-- a text that is something isn't empty
unless_some : (t password : List ℕ) → Some password ≡ unless_empty t → t ≡ password
unless_some [] password e = absurd (none-some password (sym e))
unless_some (b ∷ t) password e = sym (same_Some password (b ∷ t) e)

-- a password is after the first colon of its user information
credentials_password : (information piece password : List ℕ) (user : Option (List ℕ)) → FreeOf at_sign piece → Credentials information user (Some password) → PasswordIn (information ++ at_sign ∷ piece) password
credentials_password information piece password user free (Credentials.user_alone f t p u) = absurd (none-some password (sym p))
credentials_password information piece password user free (Credentials.with_password u w f e t s p k) = record {
  user = u;
  text = w;
  piece = piece;
  no_at = free;
  no_colon = f;
  joined = ap (λ x. x ++ at_sign ∷ piece) e;
  decodes = unless_some (percent_decode w) password p;
}

-- so it is in its authority
authority_password : (syntax : HostSyntax) (authority password : List ℕ) (user host : Option (List ℕ)) (port : Option ℕ) → Authority syntax authority user (Some password) host port → PasswordIn authority password
authority_password syntax authority password user host port (Authority.host_alone f n u p) = absurd (none-some password (sym p))
authority_password syntax authority password user host port (Authority.with_user i x f e c n s) =
    subst (λ t. PasswordIn t password) (sym e) (credentials_password i x password user f c)

-- the place of that password
password_place : (start : ℕ) (authority password : List ℕ) (user second host port : Option Span) (h : PasswordIn authority password) → AuthoritySpans start authority user second host port → second ≡ Some (span (start + (length h.user + 1)) (length h.text))
password_place start authority password user second host port h (AuthoritySpans.alone f u p k) =
    absurd (not_free at_sign (h.user ++ colon ∷ h.text) h.piece (subst (λ t. FreeOf at_sign t) h.joined f))
password_place start authority password user second host port h (AuthoritySpans.with_user i x f e t k) =
    let cut = last_cut_unique at_sign i (h.user ++ colon ∷ h.text) x h.piece f h.no_at (sym e ∙ h.joined) in
    let spans = subst (λ z. UserSpans start z user second) cut.0 t in
    (user_spans_unique start (h.user ++ colon ∷ h.text) user _ second _ spans (UserSpans.with_password h.user h.text h.no_colon refl refl refl)).1

-- the digits of a port are at the end of their piece, after something
record EndsPort (piece digits : List ℕ) : Type 0 where
  pub front : List ℕ
  pub some : 0 < length front
  pub joined : piece ≡ front ++ digits

-- the text before the digits of a port
ends_port : (piece digits : List ℕ) → HasPort piece digits → EndsPort piece digits
ends_port piece digits (HasPort.bracketed x f n e) = record {
  front = left_bracket ∷ (x ++ right_bracket ∷ (colon ∷ []));
  some = omega arith;
  joined = e ∙ ap (λ t. left_bracket ∷ t) (sym (append_assoc x (right_bracket ∷ (colon ∷ [])) digits));
}
ends_port piece digits (HasPort.plain text t f n e) = record {
  front = text ++ colon ∷ [];
  some = omega (arith, length-append text (colon ∷ []));
  joined = e ∙ sym (append_assoc text (colon ∷ []) digits);
}

-- digits that spell a port are after a host
piece_port : (syntax : HostSyntax) (piece : List ℕ) (host : Option (List ℕ)) (port : ℕ) → SpellsHostPort syntax piece host (Some port) → (digits : List ℕ) × HasPort piece digits × (digits_value 10 digits ≡ port)
piece_port syntax piece host port (SpellsHostPort.nothing e h p) = absurd (none-some port (sym p))
piece_port syntax piece host port (SpellsHostPort.bracketed x inner f i e h p) = absurd (none-some port (sym p))
piece_port syntax piece host port (SpellsHostPort.bracketed_colon x inner f i e h p) = absurd (none-some port (sym p))
piece_port syntax piece host port (SpellsHostPort.bracketed_port x inner digits n f i k e h p) = (digits, HasPort.bracketed x f k.digits.0 e, sym k.value ∙ sym (same_Some port n p))
piece_port syntax piece host port (SpellsHostPort.unbracketed r h p) = absurd (none-some port (sym p))
piece_port syntax piece host port (SpellsHostPort.plain named t i h p) = absurd (none-some port (sym p))
piece_port syntax piece host port (SpellsHostPort.plain_colon text named t i e h p) = absurd (none-some port (sym p))
piece_port syntax piece host port (SpellsHostPort.plain_port text named digits n t i k e h p) =
    (digits, HasPort.plain text t (free_of_all is_ascii_digit colon digits k.digits.1 refl) k.digits.0 e, sym k.value ∙ sym (same_Some port n p))
piece_port syntax piece host port (SpellsHostPort.colons named s r b m t h p) = absurd (none-some port (sym p))

-- an authority ends in digits of this value, whose place is the one that is reported
record PortIn (start : ℕ) (authority : List ℕ) (place : Option Span) (port : ℕ) : Type 0 where
  pub front : List ℕ
  pub digits : List ℕ
  pub joined : authority ≡ front ++ digits
  pub value : digits_value 10 digits ≡ port
  pub reported : place ≡ Some (span (start + length front) (length digits))

-- the place of the port of a piece
port_place : (syntax : HostSyntax) (start : ℕ) (piece : List ℕ) (host : Option (List ℕ)) (port : ℕ) (name place : Option Span) → SpellsHostPort syntax piece host (Some port) → HostSpans start piece name place → PortIn start piece place port
port_place syntax start piece host port name place h k =
    let (digits, has, value) = piece_port syntax piece host port h in
    let ends = ends_port piece digits has in
    let size : length piece ≡ length ends.front + length digits = ap length ends.joined ∙ length-append ends.front digits in
    let spans = port_spans start (length ends.front - 1) (start + length ends.front) piece digits has (omega (arith, size, ends.some)) (omega (arith, ends.some)) in
    record { front = ends.front; digits = digits; joined = ends.joined; value = value; reported = (host_spans_unique start piece name _ place _ k spans).1 }

-- after user information
port_after : (start : ℕ) (information piece : List ℕ) (place : Option Span) (port : ℕ) → PortIn (start + (length information + 1)) piece place port → PortIn start (information ++ at_sign ∷ piece) place port
port_after start information piece place port h = record {
  front = information ++ at_sign ∷ h.front;
  digits = h.digits;
  joined = ap (λ t. information ++ at_sign ∷ t) h.joined ∙ sym (append_assoc information (at_sign ∷ h.front) h.digits);
  value = h.value;
  reported = placed _ _ (length h.digits) place h.reported (omega (arith, length-append information (at_sign ∷ h.front)));
}

-- the place of the port of an authority
authority_port : (syntax : HostSyntax) (start : ℕ) (authority : List ℕ) (user password host : Option (List ℕ)) (port : ℕ) (first second name place : Option Span) → Authority syntax authority user password host (Some port)
    → AuthoritySpans start authority first second name place → PortIn start authority place port
authority_port syntax start authority user password host port first second name place (Authority.host_alone f n u p) (AuthoritySpans.alone g t q k) = port_place syntax start authority host port name place n k
authority_port syntax start authority user password host port first second name place (Authority.host_alone f n u p) (AuthoritySpans.with_user v z g i t k) =
    absurd (not_free at_sign v z (subst (λ x. FreeOf at_sign x) i f))
authority_port syntax start authority user password host port first second name place (Authority.with_user u w f e c n s) (AuthoritySpans.alone g t q k) =
    absurd (not_free at_sign u w (subst (λ x. FreeOf at_sign x) e g))
authority_port syntax start authority user password host port first second name place (Authority.with_user u w f e c n s) (AuthoritySpans.with_user v z g i t k) =
    let same = (last_cut_unique at_sign u v w z f g (sym e ∙ i)).1 in
    let found = port_place syntax (start + (length v + 1)) z host port name place (subst (λ x. SpellsHostPort syntax x host (Some port)) same n) k in
    subst (λ x. PortIn start x place port) (sym i) (port_after start v z place port found)

-- ---- the location of a text

-- a location without a password and a port
abbrev IsBare : Location → Type 0
IsBare v = (v.password ≡ None) × (v.port ≡ None)

-- a URL, except those of `ext`, whose authority has the password and the port of a location
record MeantUrl (b : List ℕ) (v : Location) : Type 0 where
  pub scheme : List ℕ
  pub authority : List ℕ
  pub path : List ℕ
  pub syntax : HostSyntax
  pub user : Option (List ℕ)
  pub host : Option (List ℕ)
  pub cut : UrlCut b scheme authority path
  pub named : Authority syntax authority user v.password host v.port
  pub not_ext : ¬ (scheme ≡ codes "ext")

-- a URL is one of these, or its location has neither
url_denoted : (b : List ℕ) (v : Location) → SpellsUrl b v → IsBare v ⊎ MeantUrl b v
url_denoted b v h =
    let syntax = host_syntax_of h.parts.scheme in
    elim (means_cases (scheme_of h.parts.scheme) b h.parts v h.means) [
      | inl (e, value) ↦ inl (ap (λ (w : Location). w.password) value, ap (λ (w : Location). w.port) value)
      | inr (n, m) ↦
          let password : h.parts.password ≡ v.password = sym (ap (λ (w : Location). w.password) m.value) in
          let port : h.parts.port ≡ v.port = sym (ap (λ (w : Location). w.port) m.value) in
          let own = subst (λ x. Authority syntax h.spelled.authority h.parts.user x h.parts.host h.parts.port) password h.spelled.named in
          inr (record {
            scheme = h.parts.scheme;
            authority = h.spelled.authority;
            path = h.parts.path;
            syntax = syntax;
            user = h.parts.user;
            host = h.parts.host;
            cut = record { form = form_of_url h; scheme_text = h.spelled.scheme_text; before_path = h.spelled.before_path; path_starts = h.spelled.path_starts };
            named = subst (λ x. Authority syntax h.spelled.authority h.parts.user v.password h.parts.host x) port own;
            not_ext = λ e. n (ap scheme_of e);
          })
    ]

-- a location that equals one with neither has neither
bare_value : (v w : Location) → v ≡ w → w.password ≡ None → w.port ≡ None → IsBare v
bare_value v w e p q = (ap (λ (x : Location). x.password) e ∙ p, ap (λ (x : Location). x.port) e ∙ q)

-- a location has neither, or its text is such a URL
spelled_denoted : (b : List ℕ) (v : Location) → Spells b v → IsBare v ⊎ MeantUrl b v
spelled_denoted b v (Spells.url h) = url_denoted b v h
spelled_denoted b v (Spells.file_url h) = inl (bare_value v _ h.value refl refl)
spelled_denoted b v (Spells.remote_helper h) = inl (bare_value v _ h.value refl refl)
spelled_denoted b v (Spells.scp_form (inl h)) = inl (bare_value v _ h.value refl refl)
spelled_denoted b v (Spells.scp_form (inr h)) = inl (bare_value v _ h.value refl refl)
spelled_denoted b v (Spells.local_path h) = inl (bare_value v _ h.value refl refl)

-- the parts of a URL, except those of `ext` and of files, are those of its authority
url_parts_spans : (b scheme authority path : List ℕ) (parts : Parts) → UrlCut b scheme authority path → ¬ (scheme ≡ codes "ext") → UrlParts b scheme (authority ++ path) parts
    → AuthoritySpans (length scheme + 3) authority parts.user parts.password parts.host parts.port
url_parts_spans b scheme authority path parts cut n (UrlParts.ext e h) = absurd (n e)
url_parts_spans b scheme authority path parts cut n (UrlParts.file host end e j s l h) = absurd (file_apart scheme e cut.form.not_file)
url_parts_spans b scheme authority path parts cut n (UrlParts.other_url e m h) =
    let same = (path_cut_unique (is_web_scheme scheme) h.authority authority h.path path h.before_path cut.before_path h.path_starts cut.path_starts (sym h.joined)).0 in
    let spans = subst (λ a. AuthoritySpans (length scheme + 3) a h.user h.password h.host h.port) same h.spans in
    subst (λ (x : Parts). AuthoritySpans (length scheme + 3) authority x.user x.password x.host x.port) (sym h.are) spans

-- so are the parts of a text with this form
form_spans : (b scheme authority path : List ℕ) (parts : Parts) → UrlCut b scheme authority path → ¬ (scheme ≡ codes "ext") → ByForm b parts → AuthoritySpans (length scheme + 3) authority parts.user parts.password parts.host parts.port
form_spans b scheme authority path parts cut n (ByForm.helper name address c h) = absurd (cut.form.form.no_helper (name, address, c))
form_spans b scheme authority path parts cut n (ByForm.url front rest f h) =
    let same = same_form b front scheme rest (authority ++ path) f cut.form.form in
    url_parts_spans b scheme authority path parts cut n (same_url b front scheme rest (authority ++ path) parts same.0 same.1 h)
form_spans b scheme authority path parts cut n (ByForm.neither m h) = absurd (url_form_not_neither b scheme (authority ++ path) cut.form.form m)

-- the text around a password
password_joined : (b scheme authority path user text piece : List ℕ) → b ≡ scheme ++ (codes "://" ++ (authority ++ path)) → authority ≡ (user ++ colon ∷ text) ++ at_sign ∷ piece
    → b ≡ (scheme ++ (codes "://" ++ (user ++ colon ∷ []))) ++ (text ++ (at_sign ∷ (piece ++ path)))
password_joined b scheme authority path user text piece e f = grind (arith, nat_tests, append_assoc)

-- the text around a port
port_joined : (b scheme authority path front digits : List ℕ) → b ≡ scheme ++ (codes "://" ++ (authority ++ path)) → authority ≡ front ++ digits → b ≡ (scheme ++ (codes "://" ++ front)) ++ (digits ++ path)
port_joined b scheme authority path front digits e f = grind (arith, nat_tests, append_assoc)

-- the password of a URL is the part of that name
url_password : (b : List ℕ) (parts : Parts) (v : Location) (password : List ℕ) → MeantUrl b v → HasParts b parts → v.password ≡ Some password → Decodes b parts.password password
url_password b parts v password m h e =
    let named = subst (λ x. Authority m.syntax m.authority m.user x m.host v.port) e m.named in
    let found = authority_password m.syntax m.authority password m.user m.host v.port named in
    let spans = form_spans b m.scheme m.authority m.path parts m.cut m.not_ext (by_form b parts h) in
    let front = m.scheme ++ (codes "://" ++ (found.user ++ colon ∷ [])) in
    let place = length m.scheme + 3 + (length found.user + 1) in
    let size : length front ≡ place = omega (arith, length-append m.scheme (codes "://" ++ (found.user ++ colon ∷ [])), length-append found.user (colon ∷ [])) in
    let joined = password_joined b m.scheme m.authority m.path found.user found.text found.piece m.cut.form.form.joined found.joined in
    (span place (length found.text), password_place (length m.scheme + 3) m.authority password parts.user parts.password parts.host parts.port found spans, ap percent_decode (slice_at b front found.text (at_sign ∷ (found.piece ++ m.path)) place size joined) ∙ found.decodes)

-- the password of a location is the part of that name
pub password_is_part : PasswordIsPart
password_is_part b parts v password h s e = elim (spelled_denoted b v s) [
  | inl bare ↦ absurd (none-some password (sym bare.0 ∙ e))
  | inr m ↦ url_password b parts v password m h e
]

-- a part that has the digits of a port
abbrev HasDigits : List ℕ → Option Span → ℕ → Type 0
HasDigits b part port = (s : Span) × (part ≡ Some s) × (digits_value 10 (slice_of b s) ≡ port)

-- the port of a URL is the part of that name
url_port : (b : List ℕ) (parts : Parts) (v : Location) (port : ℕ) → MeantUrl b v → HasParts b parts → v.port ≡ Some port → HasDigits b parts.port port
url_port b parts v port m h e =
    let named = subst (λ x. Authority m.syntax m.authority m.user v.password m.host x) e m.named in
    let spans = form_spans b m.scheme m.authority m.path parts m.cut m.not_ext (by_form b parts h) in
    let found = authority_port m.syntax (length m.scheme + 3) m.authority m.user v.password m.host port parts.user parts.password parts.host parts.port named spans in
    let front = m.scheme ++ (codes "://" ++ found.front) in
    let place = length m.scheme + 3 + length found.front in
    let size : length front ≡ place = omega (arith, length-append m.scheme (codes "://" ++ found.front)) in
    let joined = port_joined b m.scheme m.authority m.path found.front found.digits m.cut.form.form.joined found.joined in
    (span place (length found.digits), found.reported, ap (digits_value 10) (slice_at b front found.digits m.path place size joined) ∙ found.value)

-- the port of a location is the part of that name
pub port_is_part : PortIsPart
port_is_part b parts v port h s e = elim (spelled_denoted b v s) [
  | inl bare ↦ absurd (none-some port (sym bare.1 ∙ e))
  | inr m ↦ url_port b parts v port m h e
]
