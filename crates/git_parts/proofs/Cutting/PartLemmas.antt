-- The places of the parts of a location: the known facts about each piece that is cut.
use Rattle.std.proofs.Common.{◌≡◌, ℕ, ◌+◌, ◌<◌, ◌==◌, ◌⊎◌, true, false, inl, inr, List, [], ◌∷◌, ◌++◌, length, Option, Some, refl, sym, ap, subst, ◌∙◌, arith, length-append, codes, bytes_eq}
use Rattle.std.proofs.lemmas.Bool.{both_ways, false≢true}
use Rattle.std.proofs.lemmas.List.{append-nil}
use Rattle.std.proofs.lemmas.Slice.Eq.{bytes_eq-Decides}
use Rattle.git_syntax.specs.Bytes.{slash, colon, at_sign, left_bracket, right_bracket, FreeOf, Lacks, begins_with, is_path_start, StartsPath, is_scheme_text}
use Rattle.git_syntax.specs.Hosts.{HostSyntax, IsAddressPiece, SpellsHostPort}
use Rattle.git_syntax.specs.Schemes.{host_syntax_of}
use Rattle.git_syntax.specs.Authority.{Authority}
use Rattle.git_syntax.specs.Flaws.{UrlForm, OtherUrlForm, UrlCut}
use Rattle.git_syntax.proofs.Texts.CutLemmas.{tails, cut_unique, free-append, free_begins, free_of_lacked, not_free}
use Rattle.git_syntax.proofs.Addresses.AddressLemmas.{address_free}
use Rattle.git_syntax.proofs.Parsing.ClassifierLemmas.{no_file_path, spelled_as_file, spelled_as_url}
use Rattle.git_syntax.proofs.Parsing.HostLemmas.{colon_first, colon_again, plain_front}
use Rattle.git_syntax.proofs.Parsing.ScpFrontLemmas.{begins_apart}
use Rattle.git_syntax.proofs.Parsing.UrlLemmas.{authority_alone, authority_cut, parts_cut, scheme_cut, url_cut}
use Rattle.git_syntax.specs.Internal.UrlPieces.{CutsRest}
use Rattle.git_refusals.specs.Internal.Readable.{IsSpelled}
use Rattle.git_parts.specs.Internal.Pieces.{IsHostPiece, IsAuthority, IsHostAlone, HasPort}
use Rattle.git_parts.specs.Parts.{HostSpans, span, span_unless_empty}

-- ---- pieces that aren't empty

-- a piece that isn't empty has its place
pub span_some : (start : ℕ) (piece : List ℕ) → 0 < length piece → span_unless_empty start piece ≡ Some (span start (length piece))
span_some start [] some = absurd (omega arith)
span_some start (b ∷ piece) some = refl

-- ---- brackets

-- an address without brackets begins with none
pub address_unbracketed : (piece : List ℕ) → IsAddressPiece piece → begins_with left_bracket piece ≡ false
address_unbracketed piece (inl h) = free_begins left_bracket piece (address_free left_bracket piece refl h)
address_unbracketed piece (inr (a, h, e)) =
    free_begins left_bracket piece (subst (λ t. FreeOf left_bracket t) (sym e) (free-append left_bracket a (colon ∷ []) (address_free left_bracket a refl h) refl))

-- the text after a bracket in front of a host: another one closes it, and the end or a colon follows
pub record Closes (suffix : List ℕ) : Type 0 where
  pub inner : List ℕ
  pub rest : List ℕ
  pub closed : FreeOf right_bracket inner
  pub joined : suffix ≡ inner ++ right_bracket ∷ rest
  pub followed : (rest ≡ []) ⊎ (begins_with colon rest ≡ true)

-- the bracket in front of a host is closed
named_closes : (syntax : HostSyntax) (suffix : List ℕ) (host : Option (List ℕ)) (port : Option ℕ) → SpellsHostPort syntax (left_bracket ∷ suffix) host port → Closes suffix
named_closes syntax suffix host port (SpellsHostPort.nothing e h p) = let wrong : left_bracket ∷ suffix ≡ [] = e in cc
named_closes syntax suffix host port (SpellsHostPort.bracketed x inner f i e h p) =
    record { inner = x; rest = []; closed = f; joined = tails e; followed = inl refl }
named_closes syntax suffix host port (SpellsHostPort.bracketed_colon x inner f i e h p) =
    record { inner = x; rest = colon ∷ []; closed = f; joined = tails e; followed = inr refl }
named_closes syntax suffix host port (SpellsHostPort.bracketed_port x inner digits n f i k e h p) =
    record { inner = x; rest = colon ∷ digits; closed = f; joined = tails e; followed = inr refl }
named_closes syntax suffix host port (SpellsHostPort.unbracketed r h p) = absurd (false≢true (sym (address_unbracketed (left_bracket ∷ suffix) r.1)))
named_closes syntax suffix host port (SpellsHostPort.plain named t i h p) = absurd (false≢true (sym t.no_bracket))
named_closes syntax suffix host port (SpellsHostPort.plain_colon text named t i e h p) = absurd (begins_apart suffix text [] colon t.no_bracket e refl)
named_closes syntax suffix host port (SpellsHostPort.plain_port text named digits n t i k e h p) = absurd (begins_apart suffix text digits colon t.no_bracket e refl)
named_closes syntax suffix host port (SpellsHostPort.colons named s r b m t h p) = absurd (false≢true (sym b))

-- the same of a piece that names some host
pub piece_closes : (suffix : List ℕ) → IsHostPiece (left_bracket ∷ suffix) → Closes suffix
piece_closes suffix (syntax, (host, port, h)) = named_closes syntax suffix host port h

-- no bracket in front of a host is open
pub never_open : {A : Type 0} (suffix : List ℕ) → IsHostPiece (left_bracket ∷ suffix) → FreeOf right_bracket suffix → A
never_open suffix named free =
    let h = piece_closes suffix named in
    absurd (not_free right_bracket h.inner h.rest (subst (λ t. FreeOf right_bracket t) h.joined free))

-- if no colon follows the brackets, the host is the whole
pub brackets_alone : (suffix x rest : List ℕ) → IsHostPiece (left_bracket ∷ suffix) → FreeOf right_bracket x → suffix ≡ x ++ right_bracket ∷ rest → begins_with colon rest ≡ false → IsHostAlone (left_bracket ∷ suffix)
brackets_alone suffix x rest named free e other start =
    let h = piece_closes suffix named in
    let cut = cut_unique right_bracket h.inner x h.rest rest h.closed free (sym h.joined ∙ e) in
    elim h.followed [
      | inl none ↦ HostSpans.bracketed x free (ap (λ t. left_bracket ∷ t) (e ∙ ap (λ t. x ++ right_bracket ∷ t) (sym cut.1 ∙ none))) refl refl
      | inr begins ↦ absurd (both_ways (begins_with colon rest) other (sym (ap (begins_with colon) cut.1) ∙ begins))
    ]

-- a colon alone after the brackets stays with the host
pub brackets_colon : (suffix x rest digits : List ℕ) → FreeOf right_bracket x → suffix ≡ x ++ right_bracket ∷ rest → rest ≡ colon ∷ digits → digits ≡ [] → IsHostAlone (left_bracket ∷ suffix)
brackets_colon suffix x rest digits free e begins none start =
    HostSpans.bracketed_colon x free (ap (λ t. left_bracket ∷ t) (e ∙ ap (λ t. x ++ right_bracket ∷ t) (begins ∙ ap (λ t. colon ∷ t) none))) refl refl

-- the text after that colon is the port
pub brackets_port : (suffix x rest digits : List ℕ) → FreeOf right_bracket x → suffix ≡ x ++ right_bracket ∷ rest → rest ≡ colon ∷ digits → 0 < length digits → HasPort (left_bracket ∷ suffix) digits
brackets_port suffix x rest digits free e begins some =
    HasPort.bracketed x free some (ap (λ t. left_bracket ∷ t) (e ∙ ap (λ t. x ++ right_bracket ∷ t) begins))

-- ---- outside brackets

-- a piece without a colon is a host, or nothing
pub free_alone : (piece : List ℕ) → begins_with left_bracket piece ≡ false → FreeOf colon piece → IsHostAlone piece
free_alone [] outside free start = HostSpans.nothing refl refl refl
free_alone (b ∷ piece) outside free start =
    HostSpans.plain (record { nonempty = omega arith; no_colon = free; no_bracket = outside }) refl refl

-- a piece with a colon in it has its place
pub cut_some : (start : ℕ) (piece host digits : List ℕ) → piece ≡ host ++ colon ∷ digits → span_unless_empty start piece ≡ Some (span start (length piece))
cut_some start piece host digits e = span_some start piece (omega (arith, ap length e, length-append host (colon ∷ digits)))

-- a first colon marks no port
pub first_alone : (piece host digits : List ℕ) → begins_with left_bracket piece ≡ false → true ≡ (length host == 0) → piece ≡ host ++ colon ∷ digits → IsHostAlone piece
first_alone piece host digits outside none e start =
    HostSpans.colons outside (colon_first piece host digits none e) (cut_some start piece host digits e) refl

-- a last colon stays with the host
pub last_alone : (piece host digits : List ℕ) → begins_with left_bracket piece ≡ false → false ≡ (length host == 0) → FreeOf colon host → piece ≡ host ++ colon ∷ digits → digits ≡ [] → IsHostAlone piece
last_alone piece host digits outside some free e none start =
    HostSpans.plain_colon host (plain_front piece host (colon ∷ digits) some free outside e) (e ∙ ap (λ t. host ++ colon ∷ t) none) (cut_some start piece host digits e) refl

-- one of several colons marks no port
pub again_alone : (piece host digits : List ℕ) → begins_with left_bracket piece ≡ false → ¬ FreeOf colon digits → piece ≡ host ++ colon ∷ digits → IsHostAlone piece
again_alone piece host digits outside held e start =
    HostSpans.colons outside (colon_again piece host digits held e) (cut_some start piece host digits e) refl

-- the only colon after a host marks one
pub only_port : (piece host digits : List ℕ) → begins_with left_bracket piece ≡ false → false ≡ (length host == 0) → FreeOf colon host → FreeOf colon digits → 0 < length digits → piece ≡ host ++ colon ∷ digits → HasPort piece digits
only_port piece host digits outside full free lone some e =
    HasPort.plain host (plain_front piece host (colon ∷ digits) full free outside e) lone some e

-- ---- hosts and ports

-- digits are in their piece, after a colon and the text before it
pub port_within : (piece digits : List ℕ) → HasPort piece digits → length digits + 1 < length piece
port_within piece digits (HasPort.bracketed x f some e) = omega (arith, ap length e, length-append x (right_bracket ∷ (colon ∷ digits)))
port_within piece digits (HasPort.plain text t f some e) = omega (arith, t.nonempty, ap length e, length-append text (colon ∷ digits))

-- the places of a host and of a port after it
pub port_spans : (start before at : ℕ) (piece digits : List ℕ) → HasPort piece digits → before + 1 + length digits ≡ length piece → at ≡ start + (before + 1) → HostSpans start piece (Some (span start before)) (Some (span at (length digits)))
port_spans start before at piece digits (HasPort.bracketed x f some e) size place =
    let host : before ≡ length x + 2 = omega (arith, ap length e, length-append x (right_bracket ∷ (colon ∷ digits))) in
    HostSpans.bracketed_port x digits f some e (ap (λ n. Some (span start n)) host) (ap (λ n. Some (span n (length digits))) (omega (arith, host)))
port_spans start before at piece digits (HasPort.plain text t f some e) size place =
    let host : before ≡ length text = omega (arith, ap length e, length-append text (colon ∷ digits)) in
    HostSpans.plain_port text digits t f some e (ap (λ n. Some (span start n)) host) (ap (λ n. Some (span n (length digits))) (omega (arith, host)))

-- ---- authorities

-- an authority without user information names a host
pub authority_names : (text : List ℕ) → FreeOf at_sign text → IsAuthority text → IsHostPiece text
authority_names text free (syntax, user, password, host, port, h) = (syntax, (host, port, authority_alone syntax text user password host port free h))

-- so does the piece after user information
pub after_names : (text information piece : List ℕ) → FreeOf at_sign piece → text ≡ information ++ at_sign ∷ piece → IsAuthority text → IsHostPiece piece
after_names text information piece free e (syntax, user, password, host, port, h) =
    (syntax, (host, port, (authority_cut syntax text information piece user password host port free e h).1))

-- ---- URLs

-- the text before the first path start of a URL that is spelled is an authority
pub spelled_cut : (b scheme rest authority path : List ℕ) → OtherUrlForm b scheme rest → IsSpelled b → CutsRest scheme rest authority path → UrlCut b scheme authority path × IsAuthority authority
spelled_cut b scheme rest authority path form (v, s) cuts =
    let h = spelled_as_url b scheme rest form v s in
    let named = subst (λ t. is_scheme_text t ≡ true) (scheme_cut b scheme rest h.parts form h.spelled).0 h.spelled.scheme_text in
    let cut = url_cut form (sym named) cuts in
    let same = (parts_cut b scheme authority path h.parts cut h.spelled).1 in
    let syntax = host_syntax_of h.parts.scheme in
    (cut, (syntax, h.parts.user, h.parts.password, h.parts.host, h.parts.port, subst (λ t. Authority syntax t h.parts.user h.parts.password h.parts.host h.parts.port) same h.spelled.named))

-- a URL whose scheme is `ext` isn't a file URL
pub ext_form : (b scheme rest : List ℕ) → UrlForm b scheme rest → bytes_eq scheme (codes "ext") ≡ true → OtherUrlForm b (codes "ext") rest
ext_form b scheme rest form same = record { form = subst (λ t. UrlForm b t rest) ((bytes_eq-Decides scheme (codes "ext")).0 same) form; not_file = refl }

-- the path of a file URL that is spelled begins at the first `/` after its mark
pub file_cut : (b rest host path : List ℕ) → UrlForm b (codes "file") rest → IsSpelled b → rest ≡ host ++ path → Lacks (is_path_start false) host → StartsPath false path
    → UrlForm b (codes "file") (host ++ path) × FreeOf slash host × (begins_with slash path ≡ true)
file_cut b rest host path form (v, s) joined before (inl none) =
    let free : FreeOf slash host = free_of_lacked (is_path_start false) slash host before refl in
    let all : rest ≡ host = joined ∙ ap (λ t. host ++ t) none ∙ append-nil host in
    absurd (no_file_path b rest form (subst (λ t. FreeOf slash t) (sym all) free) v (spelled_as_file b rest form v s))
file_cut b rest host [] form (v, s) joined before (inr begins) = absurd (false≢true begins)
file_cut b rest host (c ∷ path) form (v, s) joined before (inr begins) =
    let free : FreeOf slash host = free_of_lacked (is_path_start false) slash host before refl in
    (subst (λ t. UrlForm b (codes "file") t) joined form, free, grind arith)
