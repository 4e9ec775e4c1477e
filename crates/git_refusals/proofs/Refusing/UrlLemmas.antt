-- URLs: the flaws that the checks find in one, and that a text in which none finds anything is one.
use Rattle.std.proofs.Common.{◌≡◌, ℕ, ◌+◌, ◌<◌, ◌≤◌, Bool, true, inl, inr, List, [], ◌∷◌, ◌++◌, length, Option, Some, None, refl, sym, ap, subst, arith, length-append, codes, IsUtf8}
use Rattle.std.specs.Char.{is_whitespace}
use Rattle.std.proofs.lemmas.Bool.Decides.{nat_tests}
use Rattle.std.proofs.lemmas.List.{append-nil}
use Rattle.percent_encoding.specs.Percent.{percent_decode}
use Rattle.git_syntax.specs.Location.{Scheme, Location, path_alone}
use Rattle.git_syntax.specs.Location.Scheme.{file, git, ssh, http, https, ext, helper, helper_url}
use Rattle.git_syntax.specs.Bytes.{slash, colon, LacksWhiteSpace, is_scheme_text, is_path_start, StartsPath}
use Rattle.git_syntax.specs.Escapes.{is_sound}
use Rattle.git_syntax.specs.Schemes.{scheme_of, host_syntax_of, requires_host, requires_path}
use Rattle.git_syntax.specs.Authority.{Fits}
use Rattle.git_syntax.specs.Grammar.{UrlSyntax, DenotesByScheme, DenotesAs}
use Rattle.git_syntax.specs.Flaws.{OtherUrlForm}
use Rattle.git_syntax.specs.declared.rules.Rules.{Rules}
use Rattle.git_syntax.specs.Internal.HostPieces.{host_syntax}
use Rattle.git_syntax.specs.Internal.SchemeRules.{AreRulesOf}
use Rattle.git_syntax.specs.Internal.FoundPieces.{url_location}
use Rattle.git_syntax.specs.Internal.UrlPieces.{CutsRest}
use Rattle.git_syntax.proofs.Texts.EscapeLemmas.{utf8_after, utf8_byte, utf8_parts}
use Rattle.git_syntax.proofs.Parsing.UrlLemmas.{spelled, url_cut}
use Rattle.git_syntax.proofs.Parsing.FoundLemmas.{means_location}
use Rattle.git_refusals.specs.declared.place.Place.{Place}
use Rattle.git_refusals.specs.declared.reason.Reason.TheVariants as reason
use Rattle.git_refusals.specs.Reasons.{Shifted, Then, Undecodable, BadAuthority, BadScheme, NoPath, BadRest, BadUrl}
use Rattle.git_refusals.specs.Internal.Readable.{Checks, HoldsParts, HoldsRest, IsUrl}
use Rattle.git_refusals.proofs.Refusing.PassLemmas.{after_passes, text_passes, character_passes, sound_passes, decoded_passes, fits_passes, scheme_passes}
use Rattle.git_refusals.proofs.Refusing.AuthorityLemmas.{parts_pass}

-- ---- pieces of a text

-- the text before and after the mark of a URL that is UTF-8 is UTF-8
pub url_pieces_utf8 : (b scheme rest : List ℕ) → b ≡ scheme ++ (codes "://" ++ rest) → IsUtf8 b → IsUtf8 scheme × IsUtf8 rest
url_pieces_utf8 b scheme rest e text =
    let parts = utf8_parts scheme (slash ∷ (slash ∷ rest)) colon (subst IsUtf8 e text) (omega arith) in
    let suffix = utf8_after (slash ∷ []) (slash ∷ rest) parts.1 (utf8_byte slash (omega arith)) in
    (parts.0, utf8_after (slash ∷ []) rest suffix (utf8_byte slash (omega arith)))

-- a byte that a path may start at is ASCII
path_start_ascii : (web : Bool) (c : ℕ) → is_path_start web c ≡ true → c < 128
path_start_ascii web c h = grind (arith, nat_tests)

-- an authority is UTF-8 if it is with the path after it
pub authority_utf8 : (web : Bool) (authority path : List ℕ) → StartsPath web path → IsUtf8 (authority ++ path) → IsUtf8 authority
authority_utf8 web authority [] starts text = subst IsUtf8 (append-nil authority) text
authority_utf8 web authority (c ∷ path) (inl none) text = cc
authority_utf8 web authority (c ∷ path) (inr begins) text = (utf8_parts authority path c text (path_start_ascii web c begins)).0

-- ---- the text after the scheme

-- the check of an authority by the rules of its scheme is that of its scheme
pub by_rules : {scheme authority : List ℕ} {rules : Rules} {r : Option Place} → AreRulesOf scheme rules → Checks authority (BadAuthority (host_syntax rules.syntax) rules.needs_host authority) (HoldsParts (host_syntax rules.syntax) rules.needs_host authority) r
    → Checks authority (BadAuthority (host_syntax_of scheme) (requires_host scheme) authority) (HoldsParts (host_syntax_of scheme) (requires_host scheme) authority) r
by_rules {scheme} {authority} {rules} {r} are h =
    subst (λ n. Checks authority (BadAuthority (host_syntax_of scheme) n authority) (HoldsParts (host_syntax_of scheme) n authority) r) are.host
    (subst (λ s. Checks authority (BadAuthority s rules.needs_host authority) (HoldsParts s rules.needs_host authority) r) are.syntax h)

-- the flaw that is found after a scheme, in the text after it cut before its path
abbrev pub FoundAfter : List ℕ → List ℕ → List ℕ → List ℕ → Place → Type 0
FoundAfter b scheme authority path = Then (Shifted (length scheme + 3 + length authority) (Undecodable path))
    (Then (Shifted (length scheme + 3) (BadAuthority (host_syntax_of scheme) (requires_host scheme) authority)) (NoPath scheme b path))

-- the length of a URL is that of its pieces
pub url_length : (b scheme rest authority path : List ℕ) → OtherUrlForm b scheme rest → CutsRest scheme rest authority path → length b ≡ length scheme + 3 + length authority + length path
url_length b scheme rest authority path form cut =
    omega (arith, ap length form.form.joined, length-append scheme (codes "://" ++ rest), ap length cut.joined, length-append authority path)

-- the flaw that is found after a scheme is one of the text there
pub found_after : {b scheme rest authority path : List ℕ} {p : Place} → CutsRest scheme rest authority path → FoundAfter b scheme authority path p → p.at + p.len ≤ length b → Checks b (BadRest b scheme rest) (HoldsRest scheme rest) (Some p)
found_after {b} {scheme} {rest} {authority} {path} {p} cut h within = record {
  found = record { authority = authority; path = path; joined = cut.joined; before_path = cut.before_path; path_starts = cut.path_starts; found = h };
  within = within;
}

-- a path that is not text
pub bad_path : (b scheme rest authority path : List ℕ) (p : Place) → OtherUrlForm b scheme rest → CutsRest scheme rest authority path → Checks path (Undecodable path) (IsUtf8 (percent_decode path)) (Some p)
    → Checks b (BadRest b scheme rest) (HoldsRest scheme rest) (Some (record { reason = p.reason; at = length scheme + 3 + length authority + p.at; len = p.len }))
bad_path b scheme rest authority path p form cut h =
    found_after cut (Then.at_first (record { inside = p; found = h.found; stands = record { named = refl; start = refl; size = refl } }))
    (omega (arith, url_length b scheme rest authority path form cut, h.within))

-- an authority in which something is wrong
pub bad_authority : (b scheme rest authority path : List ℕ) (p : Place) → OtherUrlForm b scheme rest → CutsRest scheme rest authority path → IsUtf8 (percent_decode path)
    → Checks authority (BadAuthority (host_syntax_of scheme) (requires_host scheme) authority) (HoldsParts (host_syntax_of scheme) (requires_host scheme) authority) (Some p)
    → Checks b (BadRest b scheme rest) (HoldsRest scheme rest) (Some (record { reason = p.reason; at = length scheme + 3 + p.at; len = p.len }))
bad_authority b scheme rest authority path p form cut text h =
    found_after cut (Then.at_second (after_passes _ _ (decoded_passes path text)) (Then.at_first (record { inside = p; found = h.found; stands = record { named = refl; start = refl; size = refl } })))
    (omega (arith, url_length b scheme rest authority path form cut, h.within))

-- a path that is missing
pub no_path : (b scheme rest authority path : List ℕ) → CutsRest scheme rest authority path → IsUtf8 (percent_decode path) → HoldsParts (host_syntax_of scheme) (requires_host scheme) authority
    → requires_path (scheme_of scheme) ≡ true → path ≡ [] → Checks b (BadRest b scheme rest) (HoldsRest scheme rest) (Some (record { reason = reason.PathMissing; at = length b; len = 0 }))
no_path b scheme rest authority path cut text held wanted empty =
    found_after cut (Then.at_second (after_passes _ _ (decoded_passes path text)) (Then.at_second (after_passes _ _ (parts_pass _ _ authority held))
    (record { wanted = wanted; empty = empty; stands = record { named = refl; start = refl; size = refl } })))
    (omega arith)

-- the text after a scheme, if it has no flaw
pub rest_held : (scheme rest authority path : List ℕ) → CutsRest scheme rest authority path → IsUtf8 (percent_decode path) → HoldsParts (host_syntax_of scheme) (requires_host scheme) authority
    → (requires_path (scheme_of scheme) ≡ true → 0 < length path) → HoldsRest scheme rest
rest_held scheme rest authority path cut text held pathed = record {
  authority = authority;
  path = path;
  joined = cut.joined;
  before_path = cut.before_path;
  path_starts = cut.path_starts;
  path_text = text;
  held = held;
  pathed = pathed;
}

-- ---- whole URLs

-- the parts of a URL denote a location by a scheme
by_scheme : (scheme : Scheme) (parts : UrlSyntax) → (requires_path scheme ≡ true → 0 < length parts.path) → (v : Location) × DenotesByScheme scheme parts v
by_scheme scheme parts pathed = (url_location scheme parts, means_location scheme parts pathed)

-- the parts of a URL denote a location
pub meaning : (scheme : Scheme) (b : List ℕ) (parts : UrlSyntax) → (requires_path scheme ≡ true → 0 < length parts.path) → (v : Location) × DenotesAs scheme b parts v
meaning ext b parts pathed = (path_alone ext true b, refl)
meaning file b parts pathed = by_scheme file parts pathed
meaning git b parts pathed = by_scheme git parts pathed
meaning ssh b parts pathed = by_scheme ssh parts pathed
meaning http b parts pathed = by_scheme http parts pathed
meaning https b parts pathed = by_scheme https parts pathed
meaning (helper name) b parts pathed = by_scheme (helper name) parts pathed
meaning (helper_url name) b parts pathed = by_scheme (helper_url name) parts pathed

-- a URL that passes each check but that of the text after its scheme
pub record PassesFront (b scheme rest : List ℕ) : Type 0 where
  pub form : OtherUrlForm b scheme rest
  pub fits : Fits scheme rest
  pub text : IsUtf8 b
  pub white : LacksWhiteSpace b
  pub sound : is_sound b ≡ true
  pub named : is_scheme_text scheme ≡ true

-- a text in which no check finds anything is a URL
pub url_spelled : (b scheme rest : List ℕ) → PassesFront b scheme rest → HoldsRest scheme rest → IsUrl b
url_spelled b scheme rest front h =
    let cut : CutsRest scheme rest h.authority h.path = record { joined = h.joined; before_path = h.before_path; path_starts = h.path_starts } in
    let parts : UrlSyntax = record { scheme = scheme; user = h.held.user; password = h.held.password; host = h.held.host; port = h.held.port; path = h.path } in
    let (v, means) = meaning (scheme_of scheme) b parts h.pathed in (
      v,
      record {
        parts = parts;
        spelled = spelled (url_cut front.form (sym front.named) cut) front.text front.white (sym front.sound) h.held.clean (subst (Fits scheme) h.joined front.fits) h.held.held h.path_text;
        means = means;
      },
    )

-- the flaw that is found after its scheme is its flaw
pub rest_found : (b scheme rest : List ℕ) (p : Place) → PassesFront b scheme rest → BadRest b scheme rest p → BadUrl b scheme rest p
rest_found b scheme rest p front h =
    Then.at_second (fits_passes scheme rest front.fits) (Then.at_second (text_passes b front.text)
    (Then.at_second (character_passes _ is_whitespace b front.white) (Then.at_second (sound_passes b front.sound)
    (Then.at_second (scheme_passes scheme front.named) h))))

-- so the check of the text after the scheme decides
pub rest_decides : (b scheme rest : List ℕ) (r : Option Place) → PassesFront b scheme rest → Checks b (BadRest b scheme rest) (HoldsRest scheme rest) r → Checks b (BadUrl b scheme rest) (IsUrl b) r
rest_decides b scheme rest None front h = record { found = url_spelled b scheme rest front h.found; within = tt }
rest_decides b scheme rest (Some p) front h = record { found = rest_found b scheme rest p front h.found; within = h.within }

-- a flaw of the scheme of a URL is one of the URL
pub scheme_found : (b scheme rest : List ℕ) (p : Place) → OtherUrlForm b scheme rest → Fits scheme rest → IsUtf8 b → LacksWhiteSpace b → is_sound b ≡ true
    → Checks scheme (BadScheme scheme) (is_scheme_text scheme ≡ true) (Some p) → Checks b (BadUrl b scheme rest) (IsUrl b) (Some p)
scheme_found b scheme rest p form fits text white sound h = record {
  found = Then.at_second (fits_passes scheme rest fits) (Then.at_second (text_passes b text)
      (Then.at_second (character_passes _ is_whitespace b white) (Then.at_second (sound_passes b sound) (Then.at_first h.found))));
  within = omega (arith, h.within, ap length form.form.joined, length-append scheme (codes "://" ++ rest));
}
