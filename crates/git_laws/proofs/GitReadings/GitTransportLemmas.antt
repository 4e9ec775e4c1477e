-- Git reads in the text of a URL of one of its own transports the user,
-- the host, the port and the path of the location.
use Rattle.std.proofs.Common.{◌≡◌, ◌∙◌, ℕ, ◌<◌, true, false, ◌⊎◌, inl, inr, List, [], ◌∷◌, ◌++◌, length, ◌==◌, Option, Some, None, Ok, IfSome, IsUtf8, codes, refl, sym, ap, subst, arith, append_assoc}
use Rattle.std.proofs.lemmas.Bool.Decides.{nat_tests}
use Rattle.std.specs.Prelude.{IsSome}
use Rattle.std.specs.Char.{is_ascii_digit}
use Rattle.std.proofs.lemmas.Bool.{false≢true, both_ways}
use Rattle.percent_encoding.specs.AsciiSet.{contains, should_percent_encode}
use Rattle.percent_encoding.specs.Percent.{percent_decode, percent_encode}
use Rattle.git_syntax.specs.declared.escape.TheConstants.{PASSWORD, USER}
use Rattle.git_syntax.specs.Location.{Scheme, Location}
use Rattle.git_syntax.specs.Location.Scheme.{git, ssh}
use Rattle.git_syntax.specs.Addresses.{IsIpv6Text}
use Rattle.git_syntax.specs.Bytes.{newline, percent_sign, slash, colon, at_sign, left_bracket, right_bracket, FreeOf, Lacks, is_option_like}
use Rattle.git_syntax.specs.Schemes.{scheme_of, scheme_text}
use Rattle.git_syntax.specs.Authority.{unless_empty}
use Rattle.git_syntax.specs.Grammar.{Unbrackets}
use Rattle.git_syntax.specs.Hosts.{port_part, raw_user}
use Rattle.git_location.specs.Text.{keeps_host, canonical_host, canonical_path, canonical_text, text}
use Rattle.git_location.specs.Settled.{IsValue, IsNormalName, IsBareHost, IsBracketedHost, IsTransportPath, IsSettledRaw, IsSettledSecure, IsSettledGit, IsRawPath}
use Rattle.git_reads.specs.Git.{GitReading, git_decode, CutsPlace, HostAndPort, SecurePort, UserCut, ReachesSecure, ReachesGit, OwnUrl, ReadsInput, GitReads}
use Rattle.git_class.specs.GitClass.{is_contested, IsPlainPart, IsBracketedOfGit, IsHostOfGit, HasNoOption, AgreesByTransport}
use Rattle.git_laws.specs.GitClass.{HostForGit, own_reading, ReadsOwnPlace, ReadsOwnBy}
use Rattle.git_syntax.proofs.Texts.CutLemmas.{free-append, free-cons, free_begins, free_head_tail, free_of_lacked, free_parts, not_free}
use Rattle.git_syntax.proofs.Texts.EscapeLemmas.{decode_encode_utf8, decode_kept, decodes_in_parts, encode_sound, sound_free}
use Rattle.git_syntax.proofs.Addresses.AddressLemmas.{address_free, address_two_colons, is_address_byte}
use Rattle.git_syntax.proofs.Parsing.UrlLemmas.{some_kept}
use Rattle.git_laws.proofs.Writing.WrittenHostLemmas.{address_in_brackets, bracketed_escaped, written_host}
use Rattle.git_laws.proofs.Writing.WrittenUrlLemmas.{authority_text, canonical_cut}
use Rattle.git_laws.proofs.GitReadings.GitCutLemmas.{IsPortless, ReadsPlace, bracketed_cut, bracketed_place, git_decoded, place_cut, place_in_brackets, place_with_port, place_without_port, portless_coloned, portless_free, some_after}
use Rattle.git_laws.proofs.GitReadings.GitPieceLemmas.{IsHostRaw, IsPathRaw, IsUserRaw, host_raw, kept_free, path_raw, port_free, unmarked, user_raw}
use Rattle.git_location.proofs.Writing.WrittenAsUrlLemmas.{written_git, written_secure}

-- ---- texts

-- the location has a text, in which its own parts are read, as they are of the scheme
abbrev pub IsReadBy : Scheme → Location → Type 0
IsReadBy p v = (t : List ℕ) × (text v ≡ Ok t) × ReadsOwnBy p t v

-- of Git's own transports, if this is the place that Git reads in it
pub own_read : (v : Location) (host : Option (List ℕ)) (whole : List ℕ) (reading : GitReading) → HostForGit v.scheme v.host host → own_reading v host ≡ reading → text v ≡ Ok whole → FreeOf 0 whole → is_option_like whole ≡ false → ReadsInput whole reading → (t : List ℕ) × (text v ≡ Ok t) × ReadsOwnPlace t v
own_read v host whole reading own value has zero_free safe reads = (
  whole,
  has,
  record {
    host = host;
    own = own;
    reads = subst (λ r. GitReads whole r) (sym value) record { whole = zero_free; no_option = safe; reads = reads };
  },
)

-- the host of Secure Shell is the location's own
pub secure_host : (v : Location) (host : Option (List ℕ)) → v.scheme ≡ ssh → v.host ≡ host → HostForGit v.scheme v.host host
secure_host v host e there = subst (λ p. HostForGit p v.host host) (sym e) (sym there)

-- ---- the place that Secure Shell reaches

-- a user, a host, a port and a path of Secure Shell
abbrev pub secure_reading : Option (List ℕ) → Option (List ℕ) → Option ℕ → List ℕ → GitReading
secure_reading name place number whole = record { protocol = ssh; user = name; host = place; port = number; path = whole }

-- user and host in one word
abbrev pub word_of : Option (List ℕ) → List ℕ → List ℕ
word_of user host = raw_user user ++ host

-- the word isn't an option if user and host aren't
word_safe : (user : Option (List ℕ)) (host : List ℕ) → IfSome user (λ u. is_option_like u ≡ false) → is_option_like host ≡ false → is_option_like (word_of user host) ≡ false
word_safe user host h2 h3 = grind (arith, nat_tests)

-- it is cut at its last `@`, if a user isn't empty
word_split : (user : Option (List ℕ)) (host : List ℕ) → ¬ (user ≡ Some []) → FreeOf at_sign host → UserCut (word_of user host) user host
word_split None host named free = UserCut.host_alone free refl refl
word_split (Some []) host named free = absurd (named refl)
word_split (Some (b ∷ u)) host named free = UserCut.with_user (b ∷ u) (omega arith) free (append_assoc (b ∷ u) (at_sign ∷ []) host) refl

-- a text with a length isn't empty
nonempty_kept : (t : List ℕ) → 0 < length t → unless_empty t ≡ Some t
nonempty_kept t some = some_kept t (λ e. absurd (omega (arith, ap length e, some)))

-- without a `/` it isn't a URL
no_secure_url : (word : List ℕ) → FreeOf slash word → (rest : List ℕ) → ¬ (word ≡ codes "ssh://" ++ rest)
no_secure_url word free rest e = not_free slash (codes "ssh:") (slash ∷ rest) (subst (λ t. FreeOf slash t) e free)

-- it is reached if user and host are one word
pub secure_reached : (user : Option (List ℕ)) (host : List ℕ) (port : Option ℕ) (place path : List ℕ) → HostAndPort place (word_of user host) port → SecurePort (word_of user host) port (word_of user host) port → FreeOf slash (word_of user host) → FreeOf at_sign host → 0 < length host → ¬ (user ≡ Some []) → IfSome user (λ u. is_option_like u ≡ false) → is_option_like host ≡ false → is_option_like path ≡ false → ReachesSecure place path (secure_reading user (Some host) port path)
secure_reached user host port place path cut secure no_slash free some named user_safe host_safe path_safe = record {
  named = word_of user host;
  found = port;
  word = word_of user host;
  host = host;
  user = user;
  port = port;
  cut = cut;
  secure = secure;
  word_safe = word_safe user host user_safe host_safe;
  path_safe = path_safe;
  no_url = no_secure_url (word_of user host) no_slash;
  split = word_split user host named free;
  value = ap (λ h. secure_reading user h port path) (sym (nonempty_kept host some));
}

-- ---- written places

-- the word names itself and the port that is written after it
word_read : (word : List ℕ) (port : Option ℕ) → IfSome port (λ p. p < 65536) → (IsSome port → FreeOf colon word) → IsPortless word → FreeOf left_bracket (word ++ port_part port) → ReadsPlace (word ++ port_part port) word port
word_read word None small marked portless free = place_without_port word portless (free_parts left_bracket word [] free).0
word_read word (Some p) small marked portless free = place_with_port word p small (marked refl) free

-- the text is a URL of the transport, and this is the decoding of the rest
pub own_url : (known : Scheme) (scheme spelled rest : List ℕ) → scheme_of scheme ≡ known → git_decode spelled ≡ rest → OwnUrl known (scheme ++ (codes "://" ++ spelled)) rest
own_url known scheme spelled rest own decoded = record { scheme = scheme; spelled = spelled; own = own; joined = refl; decoded = sym decoded }

-- ---- URLs of Git's own transports

-- the text before the path is decoded to a place, which Git reads as this word and the port
pub record HasPlace (v : Location) (word : List ℕ) : Type 0 where
  pub place : List ℕ
  pub decoded : (t : List ℕ) → percent_decode (authority_text v ++ t) ≡ place ++ percent_decode t
  pub zero_free : FreeOf 0 place
  pub line_free : FreeOf newline place
  pub cut : (rest : List ℕ) → FreeOf left_bracket rest → CutsPlace slash (place ++ slash ∷ rest) place rest
  pub read : ReadsPlace place word v.port

-- the text of a location after `://`: it is decoded to the place and a path
record IsTransportText (v : Location) (place : List ℕ) : Type 0 where
  pathed : IsPathRaw v
  suffix : git_decode (authority_text v ++ canonical_path v) ≡ place ++ slash ∷ pathed.rest
  zero_free : FreeOf 0 (authority_text v ++ canonical_path v)
  left : FreeOf left_bracket pathed.rest

-- a location with a host and no password, whose user and path are plain
record HasHostGiven (v : Location) (host : List ℕ) : Type 0 where
  transport : (v.scheme ≡ ssh) ⊎ (v.scheme ≡ git)
  escapes : keeps_host v.scheme ≡ false
  there : v.host ≡ Some host
  no_password : v.password ≡ None
  user : IfSome v.user (λ u. Lacks (should_percent_encode USER) u)
  plain : IsPlainPart false PASSWORD host ⊎ IsBracketedOfGit v host
  plain_path : Lacks is_contested v.path
  raw : IsRawPath v
  path : IsTransportPath v

-- so it is with a settled URL of the class
host_given : (v : Location) (host : List ℕ) → (v.scheme ≡ ssh) ⊎ (v.scheme ≡ git) → keeps_host v.scheme ≡ false → AgreesByTransport v → v.host ≡ Some host → IsSettledRaw v → IsTransportPath v → HasHostGiven v host
host_given v host transport escapes a there url path = record {
  transport = transport;
  escapes = escapes;
  there = there;
  no_password = a.no_password;
  user = subst (λ f. IfSome v.user (IsPlainPart f USER)) url.common.unflagged a.plain.user;
  plain = subst (λ f. IsPlainPart f PASSWORD host ⊎ IsBracketedOfGit v host) url.common.unflagged (subst (λ o. IfSome o (IsHostOfGit v)) there a.plain.host);
  plain_path = a.plain.path;
  raw = url.raw;
  path = path;
}

-- the authority is user, host and port
authority_given : (v : Location) (host : List ℕ) → (h : HasHostGiven v host) → IsUserRaw v.user → authority_text v ≡ raw_user v.user ++ (canonical_host v host ++ port_part v.port)
authority_given v host h h3 = grind (arith, nat_tests)

-- a place without `%` is decoded to itself
place_decoded : (v : Location) (place : List ℕ) → authority_text v ≡ place → FreeOf percent_sign place → (t : List ℕ) → percent_decode (authority_text v ++ t) ≡ place ++ percent_decode t
place_decoded v place h2 h3 t = grind (arith, nat_tests, decodes_in_parts, sound_free, decode_kept)

-- ---- places without brackets

-- the place is free of a byte that is written as an escape and isn't a mark of it
place_free : (v : Location) (host : List ℕ) → IfSome v.port (λ p. p < 65536) → IsUserRaw v.user → IsHostRaw v host → (c : ℕ) → contains USER c ≡ true → contains PASSWORD c ≡ true → (at_sign == c) ≡ false → (colon == c) ≡ false → is_ascii_digit c ≡ false → FreeOf c (word_of v.user host ++ port_part v.port)
place_free v host small user hosted c in_user in_host other mark digit =
    free-append c (word_of v.user host) (port_part v.port) (free-append c (raw_user v.user) host (user.free c in_user other) (hosted.free c in_host)) (port_free c v.port digit mark small)

-- a host that is written as it is, beside no port if it has a colon, is read as it is
open_place : (v : Location) (host : List ℕ) → IsValue v → HasHostGiven v host → IsHostRaw v host → (IsSome v.port → FreeOf colon host) → IsPortless (word_of v.user host) → HasPlace v (word_of v.user host)
open_place v host is h hosted beside portless =
    let user = user_raw v.user h.user in
    let place = word_of v.user host ++ port_part v.port in
    let free = place_free v host is.port user hosted in
    let left = free left_bracket refl refl refl refl refl in
    let raw = authority_given v host h user ∙ ap (λ t. raw_user v.user ++ (t ++ port_part v.port)) hosted.written ∙ sym (append_assoc (raw_user v.user) host (port_part v.port)) in
    record {
      place = place;
      decoded = place_decoded v place raw (free percent_sign refl refl refl refl refl);
      zero_free = free 0 refl refl refl refl refl;
      line_free = free newline refl refl refl refl refl;
      cut = λ rest suffix. place_cut slash (place ++ slash ∷ rest) place rest (free-append left_bracket place (slash ∷ rest) left (free-cons left_bracket slash rest refl suffix)) (free slash refl refl refl refl refl) refl;
      read = word_read (word_of v.user host) v.port is.port (λ given. free-append colon (raw_user v.user) host (user.free colon refl refl) (beside given)) portless left;
    }

-- a name is
name_place : (v : Location) (host : List ℕ) → IsValue v → HasHostGiven v host → Lacks (should_percent_encode PASSWORD) host → FreeOf colon host → HasPlace v (word_of v.user host)
name_place v host is h kept free =
    let hosted = host_raw v host h.escapes (unmarked v.port host (kept_free PASSWORD host kept percent_sign refl) (λ given. free)) kept (inr free) in
    open_place v host is h hosted (λ given. free) (portless_free (word_of v.user host) (free-append colon (raw_user v.user) host ((user_raw v.user h.user).free colon refl refl) free))

-- ---- addresses

-- a place with an address in brackets is free of each byte that is written as an escape, and isn't a mark of
-- the place
address_free_place : (user : Option (List ℕ)) (address : List ℕ) (port : Option ℕ) → IsIpv6Text address → IfSome port (λ p. p < 65536) → IsUserRaw user → (c : ℕ) → contains USER c ≡ true → is_address_byte c ≡ false → (at_sign == c) ≡ false → (left_bracket == c) ≡ false → (right_bracket == c) ≡ false → (colon == c) ≡ false → is_ascii_digit c ≡ false → FreeOf c (bracketed_place user address (port_part port))
address_free_place user address port h small raw c in_user other mark left right separator digit =
    free-append c (raw_user user) (left_bracket ∷ (address ++ right_bracket ∷ port_part port)) (raw.free c in_user mark) (free-cons c left_bracket (address ++ right_bracket ∷ port_part port) left (free-append c address (right_bracket ∷ port_part port) (address_free c address other h) (free-cons c right_bracket (port_part port) right (port_free c port digit separator small))))

-- after its bracket nothing opens another
address_closed : (address suffix : List ℕ) → IsIpv6Text address → FreeOf left_bracket suffix → FreeOf left_bracket (address ++ right_bracket ∷ suffix)
address_closed address suffix h free =
    free-append left_bracket address (right_bracket ∷ suffix) (address_free left_bracket address refl h) (free-cons left_bracket right_bracket suffix refl free)

-- with a port, an address is read so if it is decoded to itself in brackets
address_place : (v : Location) (address : List ℕ) → IsValue v → IsIpv6Text address → IsUserRaw v.user → ((t : List ℕ) → percent_decode (authority_text v ++ t) ≡ bracketed_place v.user address (port_part v.port) ++ percent_decode t) → HasPlace v (word_of v.user address)
address_place v address is h user decoded =
    let place = bracketed_place v.user address (port_part v.port) in
    let free = address_free_place v.user address v.port h is.port user in
    let ported = port_free left_bracket v.port refl refl is.port in
    let front = user.free left_bracket refl refl in
    let right = address_free right_bracket address refl h in
    record {
      place = place;
      decoded = decoded;
      zero_free = free 0 refl refl refl refl refl refl refl;
      line_free = free newline refl refl refl refl refl refl refl;
      cut = λ rest suffix. bracketed_cut slash v.user address (port_part v.port) rest front (address_closed address (port_part v.port ++ slash ∷ rest) h (free-append left_bracket (port_part v.port) (slash ∷ rest) ported (free-cons left_bracket slash rest refl suffix))) right (free-cons slash right_bracket (port_part v.port) refl (port_free slash v.port refl refl is.port));
      read = place_in_brackets v.user address v.port is.port front (address_closed address (port_part v.port) h ported) right (portless_coloned (raw_user v.user) address (user.free colon refl refl) (address_two_colons address h));
    }

-- a host in brackets and the text after it, joined
brackets_joined : (address suffix : List ℕ) → (left_bracket ∷ (address ++ right_bracket ∷ [])) ++ suffix ≡ left_bracket ∷ (address ++ right_bracket ∷ suffix)
brackets_joined address suffix = ap (λ t. left_bracket ∷ t) (append_assoc address (right_bracket ∷ []) suffix)

-- so is one of Secure Shell beside a port, if it is written in brackets
marked_place : (v : Location) (host : List ℕ) (p : ℕ) → v.port ≡ Some p → IsValue v → HasHostGiven v host → IsIpv6Text host → HasPlace v (word_of v.user host)
marked_place v host p ported is h address =
    let user = user_raw v.user h.user in
    let place = bracketed_place v.user host (port_part v.port) in
    let written : canonical_host v host ≡ left_bracket ∷ (host ++ right_bracket ∷ []) = ap (λ o. written_host v.scheme o host) ported ∙ address_in_brackets v.scheme p host address in
    let raw = authority_given v host h user ∙ ap (λ t. raw_user v.user ++ (t ++ port_part v.port)) written ∙ ap (λ t. raw_user v.user ++ t) (brackets_joined host (port_part v.port)) in
    address_place v host is address user (place_decoded v place raw (address_free_place v.user host v.port address is.port user percent_sign refl refl refl refl refl refl refl))

-- alone it is written as it is
unmarked_place : (v : Location) (host : List ℕ) → v.port ≡ None → IsValue v → HasHostGiven v host → Lacks (should_percent_encode PASSWORD) host → IsIpv6Text host → HasPlace v (word_of v.user host)
unmarked_place v host portless is h kept address =
    let lonely : IsSome v.port → FreeOf colon host = λ given. absurd (false≢true (subst IsSome portless given)) in
    let hosted = host_raw v host h.escapes (unmarked v.port host (kept_free PASSWORD host kept percent_sign refl) lonely) kept (inl address) in
    open_place v host is h hosted lonely (portless_coloned (raw_user v.user) host ((user_raw v.user h.user).free colon refl refl) (address_two_colons host address))

-- beside a port or without one
address_place_by : (v : Location) (host : List ℕ) (port : Option ℕ) → v.port ≡ port → IsValue v → HasHostGiven v host → Lacks (should_percent_encode PASSWORD) host → IsIpv6Text host → HasPlace v (word_of v.user host)
address_place_by v host None e is h kept address = unmarked_place v host e is h kept address
address_place_by v host (Some p) e is h kept address = marked_place v host p e is h address

-- ---- texts of URLs

-- this is the text, if its place is read
transport_text : (v : Location) (host word : List ℕ) → HasHostGiven v host → (p : HasPlace v word) → IsTransportText v p.place
transport_text v host word h p =
    let pathed = path_raw v h.transport h.raw h.path in
    let whole : percent_decode (authority_text v ++ canonical_path v) ≡ p.place ++ slash ∷ pathed.rest = p.decoded (canonical_path v) ∙ ap (λ t. p.place ++ t) pathed.decoded in
    let zero = free-append 0 p.place (slash ∷ pathed.rest) p.zero_free (pathed.free 0 refl (free_of_lacked is_contested 0 v.path h.plain_path refl)) in
    let decoded = git_decoded (authority_text v ++ canonical_path v) (subst (λ t. FreeOf 0 t) (sym whole) zero) in
    record {
      pathed = pathed;
      suffix = decoded.0 ∙ whole;
      zero_free = decoded.1;
      left = (free_head_tail left_bracket slash pathed.rest (pathed.free left_bracket refl (free_of_lacked is_contested left_bracket v.path h.plain_path refl))).1;
    }

-- the whole text, with its scheme
transport_whole : (v : Location) (p : Scheme) → v.scheme ≡ p → canonical_text v ≡ scheme_text p ++ (codes "://" ++ (authority_text v ++ canonical_path v))
transport_whole v p e = canonical_cut v ∙ ap (λ q. scheme_text q ++ (codes "://" ++ (authority_text v ++ canonical_path v))) e

-- the parts of a host that is there
pub host_safe : (v : Location) (host : List ℕ) → v.host ≡ Some host → HasNoOption v → is_option_like host ≡ false
host_safe v host there h = subst (λ o. IfSome o (λ x. is_option_like x ≡ false)) there h.host

-- ---- Secure Shell's URLs

-- no settled host of Secure Shell is empty
bare_nonempty : (host : List ℕ) → IsBareHost host → 0 < length host
bare_nonempty host (inl name) = name.unbracketed.nonempty
bare_nonempty host (inr address) =
    let (x, y, z, e) = address_two_colons host address.address in
    subst (λ t. 0 < length t) (sym e) (some_after x (y ++ colon ∷ z))

-- Secure Shell's host is plain
secure_kept : (v : Location) (host : List ℕ) → v.scheme ≡ ssh → HasHostGiven v host → Lacks (should_percent_encode PASSWORD) host
secure_kept v host h2 h3 = grind (arith, nat_tests)

-- its place is user, host and port
secure_place : (v : Location) (host : List ℕ) → v.scheme ≡ ssh → IsValue v → HasHostGiven v host → IsBareHost host → HasPlace v (word_of v.user host)
secure_place v host e is h (inl name) = name_place v host is h (secure_kept v host e h) name.unbracketed.no_colon
secure_place v host e is h (inr address) = address_place_by v host v.port refl is h (secure_kept v host e h) address.address

-- Git reads in the text the location's own fields
secure_url_reads : (v : Location) (host : List ℕ) → Lacks (should_percent_encode PASSWORD) host → HasHostGiven v host → (p : HasPlace v (word_of v.user host)) → (t : IsTransportText v p.place) → IsBareHost host → HasNoOption v → ¬ (v.user ≡ Some []) → ReadsInput (codes "ssh://" ++ (authority_text v ++ canonical_path v)) (secure_reading v.user (Some host) v.port v.path)
secure_url_reads v host kept h p t kind safe named =
    let no_slash = free-append slash (raw_user v.user) host ((user_raw v.user h.user).free slash refl refl) (kept_free PASSWORD host kept slash refl) in
    let reached = secure_reached v.user host v.port p.place v.path p.read.cut p.read.secure no_slash (kept_free PASSWORD host kept at_sign refl) (bare_nonempty host kind) named safe.user (host_safe v host h.there safe) safe.path in
    ReadsInput.secure_url (p.place ++ slash ∷ t.pathed.rest) p.place t.pathed.rest (own_url ssh (codes "ssh") (authority_text v ++ canonical_path v) (p.place ++ slash ∷ t.pathed.rest) refl t.suffix) (p.cut t.pathed.rest t.left) (subst (λ q. ReachesSecure p.place q (secure_reading v.user (Some host) v.port v.path)) (sym t.pathed.denoted) reached)

-- a settled URL of Secure Shell
pub secure_url_alike : (v : Location) → v.scheme ≡ ssh → IsValue v → AgreesByTransport v → ¬ (v.user ≡ Some []) → IsSettledSecure v → IsReadBy ssh v
secure_url_alike v e is a named h =
    let (host, there, kind) = h.host in
    let spelled = authority_text v ++ canonical_path v in
    let given = host_given v host (inl e) (ap keeps_host e) a there h.url h.path in
    let place = secure_place v host e is given kind in
    let found = transport_text v host (word_of v.user host) given place in
    let written = (written_secure v e h.path).canonical h.url.common.unflagged h.url.common.hosted ∙ ap Ok (transport_whole v ssh e) in
    let value : own_reading v (Some host) ≡ secure_reading v.user (Some host) v.port v.path = λ i. record { protocol = e i; user = v.user; host = Some host; port = v.port; path = v.path } in
    own_read v (Some host) (codes "ssh://" ++ spelled) (secure_reading v.user (Some host) v.port v.path) (secure_host v (Some host) e there) value written (free-append 0 (codes "ssh://") spelled refl found.zero_free) refl (secure_url_reads v host (secure_kept v host e given) given place found kind a.no_option named)

-- ---- Git's own protocol

-- a host, a port and a path of Git's own protocol
abbrev git_reading : Option (List ℕ) → Option (List ℕ) → Option ℕ → List ℕ → GitReading
git_reading name place number whole = record { protocol = git; user = name; host = place; port = number; path = whole }

-- the host that Git has for its own protocol, and that it reads it
record HasGitHost (v : Location) (own : List ℕ) : Type 0 where
  host : List ℕ
  bare : Unbrackets own host
  nonempty : 0 < length host
  placed : HasPlace v (word_of v.user host)

-- a name begins with no bracket, and is plain
name_kept : (v : Location) (host : List ℕ) → HasHostGiven v host → IsNormalName host → Lacks (should_percent_encode PASSWORD) host
name_kept v host h2 h3 = grind (arith, nat_tests, both_ways, free_begins)

-- and stays as it is
name_bare : (host : List ℕ) → FreeOf left_bracket host → Unbrackets host host
name_bare host free =
    Unbrackets.same (λ (inner, e). false≢true (sym (subst (λ t. FreeOf left_bracket t) e free))) refl

-- an address in brackets of its own is written as escapes, which are decoded to it
escaped_address : (v : Location) (host address : List ℕ) → HasHostGiven v host → IsUtf8 host → IfSome v.port (λ p. p < 65536) → v.user ≡ None → host ≡ left_bracket ∷ (address ++ right_bracket ∷ []) → (t : List ℕ) → percent_decode (authority_text v ++ t) ≡ bracketed_place v.user address (port_part v.port) ++ percent_decode t
escaped_address v host address h utf8 small none e t =
    let spelled = percent_encode USER host in
    let written : canonical_host v host ≡ spelled = ap (canonical_host v) e ∙ bracketed_escaped v.scheme v.port (address ++ right_bracket ∷ []) h.escapes ∙ ap (percent_encode USER) (sym e) in
    let raw : authority_text v ≡ spelled ++ port_part v.port = authority_given v host h (user_raw v.user h.user) ∙ ap (λ o. raw_user o ++ (canonical_host v host ++ port_part v.port)) none ∙ ap (λ x. x ++ port_part v.port) written in
    let ported = port_free percent_sign v.port refl refl small in
    ap (λ x. percent_decode (x ++ t)) raw
    ∙ ap percent_decode (append_assoc spelled (port_part v.port) t)
    ∙ decodes_in_parts spelled (port_part v.port ++ t) (encode_sound USER host refl)
    ∙ ap (λ x. x ++ percent_decode (port_part v.port ++ t)) (decode_encode_utf8 USER host refl utf8)
    ∙ ap (λ x. host ++ x) (decodes_in_parts (port_part v.port) t (sound_free (port_part v.port) ported) ∙ ap (λ x. x ++ percent_decode t) (decode_kept (port_part v.port) ported))
    ∙ sym (append_assoc host (port_part v.port) (percent_decode t))
    ∙ ap (λ x. x ++ percent_decode t) (ap (λ x. x ++ port_part v.port) e ∙ brackets_joined address (port_part v.port))
    ∙ ap (λ o. bracketed_place o address (port_part v.port) ++ percent_decode t) (sym none)

-- each settled host of Git's own protocol is such a one
git_host : (v : Location) (host : List ℕ) → IsValue v → HasHostGiven v host → v.user ≡ None → IsBracketedHost host → HasGitHost v host
git_host v host is h none (inl name) = record {
  host = host;
  bare = name_bare host name.unbracketed.no_left_bracket;
  nonempty = name.unbracketed.nonempty;
  placed = name_place v host is h (name_kept v host h name) name.unbracketed.no_colon;
}
git_host v host is h none (inr (address, normal, e)) = record {
  host = address;
  bare = Unbrackets.brackets e;
  nonempty = bare_nonempty address (inr normal);
  placed = address_place v address is normal.address (user_raw v.user h.user) (escaped_address v host address h (subst (λ o. IfSome o IsUtf8) h.there is.host) is.port none e);
}

-- Git reads in the text the location's own fields
git_url_reads : (v : Location) (host : List ℕ) → (p : HasPlace v (word_of v.user host)) → (t : IsTransportText v p.place) → 0 < length host → v.user ≡ None → FreeOf newline v.path → ReadsInput (codes "git://" ++ (authority_text v ++ canonical_path v)) (git_reading None (Some host) v.port v.path)
git_url_reads v host p t some none path_line =
    let reached : ReachesGit p.place v.path (git_reading None (Some host) v.port v.path) = record {
      host = host;
      port = v.port;
      cut = subst (λ o. HostAndPort p.place (word_of o host) v.port) none p.read.cut;
      place_line = p.line_free;
      path_line = path_line;
      value = ap (λ h. git_reading None h v.port v.path) (sym (nonempty_kept host some));
    } in
    ReadsInput.git_url (p.place ++ slash ∷ t.pathed.rest) p.place t.pathed.rest (own_url git (codes "git") (authority_text v ++ canonical_path v) (p.place ++ slash ∷ t.pathed.rest) refl t.suffix) (p.cut t.pathed.rest t.left) (subst (λ q. ReachesGit p.place q (git_reading None (Some host) v.port v.path)) (sym t.pathed.denoted) reached)

-- the host of Git's own protocol is the location's without its brackets
own_git_host : (v : Location) (own host : List ℕ) → v.scheme ≡ git → v.host ≡ Some own → Unbrackets own host → HostForGit v.scheme v.host (Some host)
own_git_host v own host e there bare =
    subst (λ p. HostForGit p v.host (Some host)) (sym e) (subst (λ o. HostForGit git o (Some host)) (sym there) (host, bare, refl))

-- a settled URL of Git's own protocol
pub git_url_alike : (v : Location) → v.scheme ≡ git → IsValue v → AgreesByTransport v → v.user ≡ None → FreeOf newline v.path → IsSettledGit v → IsReadBy git v
git_url_alike v e is a none path_line h =
    let (own, there, kind) = h.host in
    let spelled = authority_text v ++ canonical_path v in
    let given = host_given v own (inr e) (ap keeps_host e) a there h.url h.path in
    let named = git_host v own is given none kind in
    let found = transport_text v own (word_of v.user named.host) given named.placed in
    let written = (written_git v e).canonical h.url.common.unflagged h.url.common.hosted ∙ ap Ok (transport_whole v git e) in
    let value : own_reading v (Some named.host) ≡ git_reading None (Some named.host) v.port v.path = λ i. record { protocol = e i; user = none i; host = Some named.host; port = v.port; path = v.path } in
    own_read v (Some named.host) (codes "git://" ++ spelled) (git_reading None (Some named.host) v.port v.path) (own_git_host v own named.host e there named.bare) value written (free-append 0 (codes "git://") spelled refl found.zero_free) refl (git_url_reads v named.host named.placed found named.nonempty none path_line)
