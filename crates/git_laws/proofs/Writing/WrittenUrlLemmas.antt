-- A settled URL comes back: its pieces, joined, are read as its parts.
use Rattle.std.proofs.Common.{◌≡◌, ℕ, ◌<◌, Bool, true, false, List, [], ◌∷◌, ◌++◌, length, Option, Some, None, Ok, refl, sym, ap, subst, ◌∙◌, arith, append_assoc, codes, bytes_eq}
use Rattle.std.specs.Prelude.{IsUtf8, IsSome, IfSome, is_some}
use Rattle.std.proofs.lemmas.Bool.{false≢true}
use Rattle.std.proofs.lemmas.Bool.Decides.{nat_tests}
use Rattle.git_syntax.proofs.Texts.CutLemmas.{scheme_text_free, lacks_weaker}
use Rattle.git_syntax.specs.Location.{Scheme, Location}
use Rattle.git_syntax.specs.Location.Scheme.{ext}
use Rattle.git_syntax.specs.Bytes.{colon, at_sign, is_scheme_text, is_path_start}
use Rattle.git_syntax.specs.Hosts.{HostSyntax, port_part}
use Rattle.git_syntax.specs.Schemes.{is_web_scheme, scheme_of, scheme_text, host_syntax_of, requires_host}
use Rattle.git_syntax.specs.Authority.{Authority, FitsText}
use Rattle.git_syntax.specs.Authority.Authority.{host_alone, with_user}
use Rattle.git_syntax.specs.Grammar.{UrlSyntax, HasUrlSyntax, HostFor, Spells}
use Rattle.git_location.specs.Text.{user_information, host_part, canonical_path, canonical_text, text}
use Rattle.git_location.specs.Settled.{IsValue, IsSettledUrl, IsSettledBy, IsSettled, HasFairSpelling}
use Rattle.git_location.specs.Internal.SettledPieces.{IsWrittenAsUrl}
use Rattle.std.proofs.lemmas.Option.{IfSome_then}
use Rattle.git_syntax.specs.Hosts.SpellsHostPort.{nothing}
use Rattle.git_laws.specs.Laws.{ComesBack}
use Rattle.git_laws.proofs.Writing.WrittenPieces.{IsEscapedPiece, IsAuthorityPiece, WritesInformation, host_and_port, WritesHost, as_read, WritesPath}
use Rattle.git_laws.proofs.Writing.WrittenUserLemmas.{information_written}
use Rattle.git_laws.proofs.Writing.PieceTextLemmas.{joined_escaped, joined_pieces, escaped_piece, authority_piece, scheme_piece}
use Rattle.git_syntax.proofs.Parsing.UrlLocationLemmas.{spelled_url}
use Rattle.git_syntax.proofs.Parsing.LengthLemmas.{fits_from_text}

-- ---- the authority

-- a host that is written is read, after user information or alone
pub hosted_written : (syntax : HostSyntax) (v : Location) (host named : List ℕ) (user password : Option (List ℕ)) → ((u : List ℕ) → user ≡ Some u → WritesInformation u password) → (IsSome password → IsSome user) → WritesHost syntax v host named → Authority syntax (user_information user password ++ host_and_port v host) user password (Some named) v.port × IsAuthorityPiece (user_information user password ++ host_and_port v host)
hosted_written syntax v host named None None information beside h = (host_alone h.no_at h.names refl refl, h.piece)
hosted_written syntax v host named None (Some p) information beside h = absurd (false≢true (beside refl))
hosted_written syntax v host named (Some u) password information beside h =
    let i = information u refl in
    let front = i.information ++ at_sign ∷ [] in
    let whole : user_information (Some u) password ++ host_and_port v host ≡ i.information ++ at_sign ∷ host_and_port v host =
    ap (λ t. t ++ host_and_port v host) i.written ∙ append_assoc i.information (at_sign ∷ []) (host_and_port v host) in
    let piece = joined_pieces front (host_and_port v host) (joined_pieces i.information (at_sign ∷ []) i.piece (authority_piece (at_sign ∷ []) refl refl)) h.piece in (
      subst (λ t. Authority syntax t (Some u) password (Some named) v.port) (sym whole) (with_user i.information (host_and_port v host) h.no_at refl i.credentials h.names refl),
      subst (λ t. IsAuthorityPiece (t ++ host_and_port v host)) (sym i.written) piece,
    )

-- the authority of a location as it is written
abbrev pub authority_text : Location → List ℕ
authority_text v = user_information v.user v.password ++ (host_part v v.host ++ port_part v.port)

-- the scheme is that of the URLs that begin with its text
pub record IsUrlScheme (p : Scheme) : Type 0 where
  pub not_file : bytes_eq (scheme_text p) (codes "file") ≡ false
  pub known : p ≡ scheme_of (scheme_text p)
  pub not_ext : ¬ (p ≡ ext)
  pub scheme_text : is_scheme_text (scheme_text p) ≡ true

-- the fields that the reader of a location's text finds in it
pub record IsReadable (v : Location) (named : Option (List ℕ)) : Type 0 where
  pub scheme : IsUrlScheme v.scheme
  pub unflagged : v.flag ≡ false
  pub authority : Authority (host_syntax_of (scheme_text v.scheme)) (authority_text v) v.user v.password named v.port
  pub piece : IsAuthorityPiece (authority_text v)
  pub required : requires_host (scheme_text v.scheme) ≡ true → IsSome named
  pub hosted : HostFor v.scheme named v.host
  pub path : WritesPath (is_web_scheme (scheme_text v.scheme)) v
  pub fits : FitsText (canonical_text v)

-- the text of a URL, cut before its path
pub canonical_cut : (v : Location) → canonical_text v ≡ scheme_text v.scheme ++ (codes "://" ++ (authority_text v ++ canonical_path v))
canonical_cut v =
    let information = user_information v.user v.password in
    let host = host_part v v.host in
    let port = port_part v.port in
    let path = canonical_path v in
    ap (λ t. scheme_text v.scheme ++ (codes "://" ++ t)) (sym (append_assoc information (host ++ port) path ∙ ap (λ t. information ++ t) (append_assoc host port path)))

-- the parts that are read
abbrev parts_read : Location → Option (List ℕ) → UrlSyntax
parts_read v named = record {
  scheme = scheme_text v.scheme;
  user = v.user;
  password = v.password;
  host = named;
  port = v.port;
  path = canonical_path v;
}

-- the whole text is an escaped piece
text_piece : (v : Location) (named : Option (List ℕ)) → IsReadable v named → IsEscapedPiece (canonical_text v)
text_piece v named h =
    let rest = joined_escaped (authority_text v) (canonical_path v) h.piece.escaped h.path.escaped in
    let marked = joined_escaped (codes "://") (authority_text v ++ canonical_path v) (escaped_piece (codes "://") refl refl) rest in
    subst IsEscapedPiece (sym (canonical_cut v)) (joined_escaped (scheme_text v.scheme) (codes "://" ++ (authority_text v ++ canonical_path v)) (scheme_piece (scheme_text v.scheme) h.scheme.scheme_text).piece.escaped marked)

-- no path starts in the authority
pub web_starts : (web : Bool) (b : ℕ) → is_path_start web b ≡ true → is_path_start true b ≡ true
web_starts true b h = h
web_starts false b h = grind (arith, nat_tests)

-- the text of a readable location is a URL with its parts
parts_spelled : (v : Location) (named : Option (List ℕ)) → IsReadable v named → HasUrlSyntax (canonical_text v) (parts_read v named)
parts_spelled v named h = record {
  authority = authority_text v;
  joined = canonical_cut v;
  scheme_text = h.scheme.scheme_text;
  not_file = h.scheme.not_file;
  no_backslash = h.piece.no_backslash;
  before_path = lacks_weaker (is_path_start (is_web_scheme (scheme_text v.scheme))) (is_path_start true) (web_starts (is_web_scheme (scheme_text v.scheme))) (authority_text v) h.piece.before_path;
  path_starts = h.path.starts;
  text = (text_piece v named h).text;
  sound = (text_piece v named h).sound;
  no_white_space = (text_piece v named h).no_white_space;
  fits = fits_from_text (scheme_text v.scheme) (authority_text v ++ canonical_path v) (canonical_text v) (scheme_text_free (scheme_text v.scheme) colon h.scheme.scheme_text refl) (canonical_cut v) h.fits;
  named = h.authority;
  hosted = h.required;
  path_text = h.path.decoded;
}

-- the text is read as the location with the spelling that was written
pub readable_spelled : (v : Location) (named : Option (List ℕ)) → IsReadable v named → Spells (canonical_text v) (as_read v)
readable_spelled v named h = Spells.url (spelled_url (parts_spelled v named h) h.scheme.known h.scheme.not_ext record {
  host = v.host;
  pathed = h.path.present;
  hosted = h.hosted;
  value = ap (λ f. record (as_read v) { flag = f }) h.unflagged ∙ ap (λ p. record (as_read v) { flag = false; path = p }) (sym h.path.denoted);
})

-- the host is written the same with another spelling
host_as_read : (v : Location) (host : Option (List ℕ)) → host_part (as_read v) host ≡ host_part v host
host_as_read v None = refl
host_as_read v (Some host) = refl

-- so is the text
text_as_read : (v : Location) (named : Option (List ℕ)) → IsReadable v named → canonical_text (as_read v) ≡ canonical_text v
text_as_read v named h =
    ap (λ t. scheme_text v.scheme ++ (codes "://" ++ (user_information v.user v.password ++ t))) (ap (λ host. host ++ (port_part v.port ++ canonical_path (as_read v))) (host_as_read v v.host) ∙ ap (λ path. host_part v v.host ++ (port_part v.port ++ path)) h.path.again)

-- a readable location comes back
readable_again : (v : Location) (named : Option (List ℕ)) → IsReadable v named → text v ≡ Ok (canonical_text v) → text (as_read v) ≡ Ok (canonical_text v) → IsSettled (as_read v) → (back : ComesBack v) × IsSettled back.reread
readable_again v named h first second settled = (
  record {
    written = canonical_text v;
    reread = as_read v;
    has_text = first;
    spelled = readable_spelled v named h;
    same_fields = refl;
    same_text = second;
  },
  settled,
)

-- ---- settled URLs

-- a password that is there is not empty, and beside a user
password_beside : (user password : Option (List ℕ)) → IfSome password (λ p. (0 < length p) × IsSome user) → IsSome password → IsSome user
password_beside user None h given = absurd (false≢true given)
password_beside user (Some p) h given = h.1

-- the user information of a settled URL is read as its user and password
information_of : (v : Location) → IsSettledUrl v → IsValue v → (u : List ℕ) → v.user ≡ Some u → WritesInformation u v.password
information_of v h is u e =
    information_written u v.password (subst (λ o. IfSome o IsUtf8) e is.user) is.password (IfSome_then v.password h.credentials.0 (λ p parts. parts.0)) (λ empty. h.credentials.1 (e ∙ ap Some empty))

-- the authority of a settled URL with a host
pub authority_with_host : (syntax : HostSyntax) (v : Location) (host named : List ℕ) → IsSettledUrl v → IsValue v → v.host ≡ Some host → WritesHost syntax v host named → Authority syntax (authority_text v) v.user v.password (Some named) v.port × IsAuthorityPiece (authority_text v)
authority_with_host syntax v host named h is e writes =
    let same : authority_text v ≡ user_information v.user v.password ++ host_and_port v host = ap (λ o. user_information v.user v.password ++ (host_part v o ++ port_part v.port)) e in
    let both = hosted_written syntax v host named v.user v.password (information_of v h is) (password_beside v.user v.password h.credentials.0) writes in
    subst (λ t. Authority syntax t v.user v.password (Some named) v.port × IsAuthorityPiece t) (sym same) both

-- no optional text is there
none_given : {A : Type 0} (o : Option A) (p : Option (List ℕ)) → p ≡ None → (IsSome o → IsSome p) → o ≡ None
none_given None p e h = refl
none_given (Some x) p e h = absurd (false≢true (ap is_some (sym e) ∙ h refl))

-- the authority of a settled URL without a host is empty
pub authority_without_host : (syntax : HostSyntax) (v : Location) → IsSettledUrl v → v.host ≡ None → Authority syntax (authority_text v) v.user v.password None v.port × IsAuthorityPiece (authority_text v)
authority_without_host syntax v h e =
    let user : v.user ≡ None = none_given v.user v.host e h.hosted.0 in
    let port : v.port ≡ None = none_given v.port v.host e h.hosted.1 in
    let password : v.password ≡ None = none_given v.password v.user user (password_beside v.user v.password h.credentials.0) in
    let empty : authority_text v ≡ [] =
    ap (λ o. user_information o v.password ++ (host_part v v.host ++ port_part v.port)) user ∙ ap (λ o. host_part v o ++ port_part v.port) e ∙ ap port_part port in
    (subst (λ t. Authority syntax t v.user v.password None v.port) (sym empty) (host_alone refl (nothing refl refl port) user password), subst IsAuthorityPiece (sym empty) (authority_piece [] refl refl))

-- all that a settled URL says but of host and scheme is kept with another spelling
url_as_read : (v : Location) → IsSettledUrl v → FitsText (canonical_text v) → text (as_read v) ≡ Ok (canonical_text v) → HasFairSpelling (as_read v) → IsSettledUrl (as_read v)
url_as_read v h fits written fair = record {
  unflagged = h.unflagged;
  credentials = h.credentials;
  hosted = h.hosted;
  path = record { path_text = h.path.path_text; spelling = fair };
  fits = (canonical_text v, written, fits);
}

-- a settled URL is readable, if its authority and its path are written so that they are read
pub url_readable : (v : Location) (p : Scheme) (named : Option (List ℕ)) → v.scheme ≡ p → IsUrlScheme p → IsSettledUrl v → Authority (host_syntax_of (scheme_text p)) (authority_text v) v.user v.password named v.port × IsAuthorityPiece (authority_text v) → (requires_host (scheme_text p) ≡ true → IsSome named) → HostFor p named v.host → WritesPath (is_web_scheme (scheme_text p)) v → IsWrittenAsUrl v → IsReadable v named
url_readable v p named e known h authority required hosted path written =
    let (t, is, short) = h.fits in
    let okay : Ok t ≡ Ok (canonical_text v) = sym is ∙ written.canonical h.unflagged h.hosted in
    let same : t ≡ canonical_text v = cc in
    record {
      scheme = subst IsUrlScheme (sym e) known;
      unflagged = h.unflagged;
      authority = subst (λ q. Authority (host_syntax_of (scheme_text q)) (authority_text v) v.user v.password named v.port) (sym e) authority.0;
      piece = authority.1;
      required = subst (λ q. requires_host (scheme_text q) ≡ true → IsSome named) (sym e) required;
      hosted = subst (λ q. HostFor q named v.host) (sym e) hosted;
      path = subst (λ q. WritesPath (is_web_scheme (scheme_text q)) v) (sym e) path;
      fits = subst FitsText same short;
    }

-- a readable settled URL comes back
pub url_again : (v : Location) (p : Scheme) (named : Option (List ℕ)) → v.scheme ≡ p → IsSettledUrl v → IsReadable v named → IsWrittenAsUrl v → IsWrittenAsUrl (as_read v) → (IsSettledUrl (as_read v) → IsSettledBy p (as_read v)) → (back : ComesBack v) × IsSettled back.reread
url_again v p named e h readable written rewritten settled =
    let first : text v ≡ Ok (canonical_text v) = written.canonical h.unflagged h.hosted in
    let second : text (as_read v) ≡ Ok (canonical_text v) = rewritten.canonical h.unflagged h.hosted ∙ ap Ok (text_as_read v named readable) in
    let again = settled (url_as_read v h readable.fits second readable.path.fair) in
    readable_again v named readable first second (subst (λ q. IsSettledBy q (as_read v)) (sym e) again)
